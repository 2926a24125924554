-- The granted version of a chunk is at most the issued one.
use Rattle.std.proofs.Common.{◌≡◌, ℕ, suc, ◌≤◌, true, false, List, [], take, drop, Some, refl, sym, ap, subst, ◌∙◌, arith}
use Rattle.std.specs.Prelude.{◌+◌, ◌&&◌, not, IsTrue}
use Rattle.std.specs.Ordering.{nat_cmp}
use Rattle.std.specs.FinMap as table
use Rattle.gfs_types.specs.declared.config.Config.{Config}
use Rattle.messages.specs.declared.event.NodeInput.{NodeInput}
use Rattle.log_records.specs.declared.record.Record.{Record}
use Rattle.log_records.specs.declared.record.Record.TheVariants as log
use Rattle.protocol.specs.Tables.{map_values}
use Rattle.protocol.specs.Choice.{Choice, Ending, Goes, Lost, Stops}
use Rattle.protocol.specs.Seen.{Taken, no_step}
use Rattle.chunk_table.specs.ChunkTable.{ChunkRow, changed_by}
use Rattle.protocol.specs.LogSizes.{checkpoint_fits}
use Rattle.protocol.specs.Logged.{Logged, LogDisk, LogChange, AppendRecord, WriteCheckpoint, log_changed, log_changed_by_all, after_record, checkpoint_of, replayed, all_copies_given_up}
use Rattle.protocol.specs.Master.{MasterState, MasterDoing, stopped_master, master_begins, fits, appends, writes_checkpoint, logs_after_checkpoint, is_of_copy}
use Rattle.protocol.specs.MasterStep.{master_goes, master_ends, master_bounded, master_step, is_within_limits, may_end, found_log, row_after_restart, started_master, opening, has_opened, opens_as, new_master, first_log}
use Rattle.laws_base.specs.Laws.{GrantedIsAtMostIssued}
use Rattle.laws_base.proofs.Steps.{on_cond, none_some}
use Rattle.laws_base.proofs.MasterMoves.{Core, core_of, IsDue, Nothing, NoneEnded, Keeps, core_changed, core_appended, core_ended, grant_record}
use Rattle.laws_base.proofs.MasterSteps.{goes_keeps}
use Rattle.laws_base.proofs.OrderNumbers.{state_of, state-appended, AllStops, stops_push, changed-push, AllFound, found_same, found_stopped}
use Rattle.laws_base.proofs.ChunkRows.{Rows, rows_of, AreIssued, HaveSameVersions, From, same_from, then_from, removed_from, changed_from, mapped_from}
use Rattle.laws_base.proofs.VersionsLogged.{Both, both_from, both_record, checkpoint_both}
use Rattle.laws_base.proofs.MasterReached.{reached_here}

abbrev pub IsGood : LogDisk → Type 0
IsGood d = AreIssued (rows_of (state_of d))

-- a step so far, from what was on the disk
record IsIssuing (start : LogDisk) (c : Core) : Type 0 where
  none : c.under_way ≡ []
  disk : log_changed_by_all start c.changes ≡ c.disk
  rows : Both (rows_of c.logged) (rows_of (state_of c.disk))
  stops : AllStops IsGood start c.changes

-- the disk and the state change together
changed : (start : LogDisk) (c : Core) (x : LogChange) (l : Logged) → Both (rows_of l) (rows_of (state_of (log_changed c.disk x))) → IsIssuing start c
    → IsIssuing start (record (core_changed c x) { logged = l })
changed start c x l both h =
    record {
      none = h.none;
      disk = changed-push start c.changes x ∙ ap (λ (d : LogDisk). log_changed d x) h.disk;
      rows = both;
      stops = stops_push IsGood start c.changes x h.stops (subst (λ (d : LogDisk). IsGood (log_changed d x)) (sym h.disk) both.disk);
    }

both_appended : (l : Logged) (disk : LogDisk) (r : Record) → Both (rows_of (after_record l r)) (rows_of (after_record (state_of disk) r))
    → Both (rows_of (after_record l r)) (rows_of (state_of (log_changed disk (AppendRecord r))))
both_appended l disk r h = subst (λ (k : Logged). Both (rows_of (after_record l r)) (rows_of k)) (sym (state-appended disk r)) h

checkpointed : (start : LogDisk) (c : Core) → IsIssuing start c
    → IsIssuing start (record (core_changed c (WriteCheckpoint (checkpoint_of c.logged))) { logged = all_copies_given_up c.logged })
checkpointed start c h =
    let read : Both (rows_of c.logged) (rows_of (state_of (log_changed c.disk (WriteCheckpoint (checkpoint_of c.logged))))) = checkpoint_both c.logged h.rows.state in
    let less : Rows = rows_of (all_copies_given_up c.logged) in
    changed start c (WriteCheckpoint (checkpoint_of c.logged)) (all_copies_given_up c.logged)
    (both_from (rows_of c.logged) (rows_of (state_of (log_changed c.disk (WriteCheckpoint (checkpoint_of c.logged))))) less (rows_of (state_of (log_changed c.disk (WriteCheckpoint (checkpoint_of c.logged)))))
    (removed_from (rows_of c.logged) (table.keys c.logged.copies)) (same_from (rows_of (state_of (log_changed c.disk (WriteCheckpoint (checkpoint_of c.logged)))))) read) h

-- the state's rows alone change, and no version
quieter : (start : LogDisk) (c : Core) (l : Logged) → From (rows_of c.logged) (rows_of l) → IsIssuing start c → IsIssuing start (record c { logged = l })
quieter start c l f h =
    record { none = h.none; disk = h.disk; stops = h.stops; rows = both_from (rows_of c.logged) (rows_of (state_of c.disk)) (rows_of l) (rows_of (state_of c.disk)) f (same_from (rows_of (state_of c.disk))) h.rows }

appended : (start : LogDisk) (c : Core) (r : Record) → IsDue ⊥ c.logged r → IsIssuing start c → IsIssuing start (core_appended c r)
appended start c r due h = changed start c (AppendRecord r) (after_record c.logged r) (both_appended c.logged c.disk r (both_record c.logged (state_of c.disk) r due h.rows)) h

ended : (start : LogDisk) (c : Core) (handle moment : ℕ) → IsIssuing start c → IsIssuing start (core_ended c handle moment)
ended start c handle moment h =
    quieter start c (record c.logged { table = record c.logged.table { chunks = changed_by (rows_of c.logged) handle (λ row. record row { lease_end = moment }) (table.get (rows_of c.logged) handle) } })
    (changed_from (rows_of c.logged) handle (λ row. record row { lease_end = moment }) (table.get (rows_of c.logged) handle) refl (λ r. (refl, refl, refl))) h

issuing_keeps : (start : LogDisk) → Keeps ⊥ Nothing NoneEnded (IsIssuing start)
issuing_keeps start =
    record {
      tells = λ c receiver b quiet h. record { none = h.none; disk = h.disk; rows = h.rows; stops = h.stops };
      grants = λ c handle version until primary members told due names from idle h.
          let r : Record = grant_record handle version primary members in
          let g : IsIssuing start (core_ended (core_appended c r) handle until) = ended start (core_appended c r) handle until (appended start c r due h) in
          record { none = g.none; disk = g.disk; rows = g.rows; stops = g.stops };
      revokes = λ c handle row is h. record { none = h.none; disk = h.disk; rows = h.rows; stops = h.stops };
      orders = λ c server b is plain h. record { none = h.none; disk = h.disk; rows = h.rows; stops = h.stops };
      appends = λ c r due plain names h. appended start c r due h;
      checkpoint = λ c tree h. checkpointed start c h;
      sound = λ asks. absurd asks;
      less = λ c handles copied h. quieter start c (record c.logged { copies = _; table = _ }) (removed_from (rows_of c.logged) handles) h;
      ends = λ c handle row is word h. ended start c handle 0 h;
      extends = λ c handle until row is lasts later from h. let g : IsIssuing start (core_ended c handle until) = ended start c handle until h in record { none = g.none; disk = g.disk; rows = g.rows; stops = g.stops };
    }

-- of a master between its steps
pub record IsIssued (m : MasterState) : Type 0 where
  pub now : AreIssued (rows_of m.logged)
  pub found : AllFound IsGood m.disk m.under_way
  pub idle : IsTrue m.up → m.under_way ≡ []
  pub rows : IsTrue m.up → Both (rows_of m.logged) (rows_of (state_of m.disk))

no_rows : AreIssued (table.empty)
no_rows handle row is = none_some row (sym (table.get-empty nat_cmp handle) ∙ is)

stopped : (m : MasterState) (disk : LogDisk) (under_way : List LogChange) → AllFound IsGood disk under_way → IsIssued (stopped_master m disk under_way)
stopped m disk under_way h =
    record { now = no_rows; found = h; idle = λ up. absurd (let both : false ≡ true = up in cc); rows = λ up. absurd (let both : false ≡ true = up in cc) }

running : (start : LogDisk) (d : MasterDoing) → IsIssuing start (core_of d) → IsIssued d.master
running start d g =
    record {
      now = g.rows.state;
      found = subst (λ (xs : List LogChange). AllFound IsGood d.master.disk xs) (sym g.none) (found_same IsGood d.master.disk g.rows.disk);
      idle = λ _. g.none;
      rows = λ _. g.rows;
    }

ends_issued : (m : MasterState) (d : MasterDoing) (choice : Choice) (e : Ending) → IsIssued m → IsIssuing m.disk (core_of d) → IsIssued (master_ends m d choice e).state
ends_issued m d choice Goes h g = running m.disk d g
ends_issued m d choice Lost h g = stopped m m.disk [] (found_same IsGood m.disk (h.found []))
ends_issued m d choice (Stops made) h g =
    stopped m (log_changed_by_all m.disk (take made d.changes)) (take 1 (drop made d.changes)) (found_stopped IsGood m.disk d.changes made g.stops)

pub step_issued : (m : MasterState) (moment : ℕ) (i : NodeInput) (choice : Choice) → IsIssued m → IsIssued (master_step m moment i choice).state
step_issued m moment i choice h =
    let d : MasterDoing = master_goes m moment i choice.refused in
    let good : Taken MasterState → Type 0 = λ t. IsIssued t.state in
    on_cond good m.up (master_bounded m i d choice) (no_step m)
    (λ up. on_cond good (may_end m i d choice.ending) (master_ends m d choice choice.ending) (no_step m)
    (λ _. ends_issued m d choice choice.ending h
    (goes_keeps (IsIssuing m.disk) (issuing_keeps m.disk) m moment i choice.refused (record { none = h.idle up; disk = refl; rows = h.rows up; stops = h.found [] })))
    (λ _. h))
    (λ _. h)

later_ends : (config : Config) (moment : ℕ) (r : ChunkRow) → HaveSameVersions r (row_after_restart config moment r)
later_ends config moment r = (refl, refl, refl)

-- the rows of a master that has read its log
pub started_from : (config : Config) (found : LogDisk) (moment : ℕ) → From (rows_of (state_of found)) (map_values (row_after_restart config moment) (rows_of (replayed found)))
started_from config found moment =
    let rows : Rows = rows_of (state_of found) in
    let left : Rows = rows_of (replayed found) in
    then_from rows left (map_values (row_after_restart config moment) left) (removed_from rows (table.keys (state_of found).copies)) (mapped_from left (row_after_restart config moment) (later_ends config moment))

opening_issuing : (config : Config) (count : ℕ) (found : LogDisk) (moment : ℕ) → IsGood found → IsIssuing found (core_of (opening (started_master config count found moment)))
opening_issuing config count found moment good =
    let started : MasterState = started_master config count found moment in
    let d : MasterDoing = master_begins started [] in
    let r : Record = log.Epoch (suc d.master.logged.epoch) in
    let all : Rows = rows_of (state_of found) in
    let kept : From all (rows_of started.logged) = started_from config found moment in
    let first : IsIssuing found (core_of d) =
    record { none = refl; disk = refl; stops = good; rows = both_from all all (rows_of started.logged) all kept (same_from all) (record { state = good; disk = good; below = same_below all good }) } in
    let begins : (e : MasterDoing) → IsIssuing found (core_of e) → IsIssuing found (core_of (appends e r)) =
    λ e h. changed found (core_of e) (AppendRecord r) (after_record e.master.logged r) (both_appended e.master.logged e.master.disk r h.rows) h in
    on_cond (λ (e : MasterDoing). IsIssuing found (core_of e)) (fits d r) (appends d r) _ (λ _. begins d first)
    (λ _. on_cond (λ (e : MasterDoing). IsIssuing found (core_of e)) (checkpoint_fits d.master.config.log_bytes (checkpoint_of d.master.logged)) (logs_after_checkpoint (writes_checkpoint d) r (is_of_copy d.master.logged r) (λ e. e)) d
    (λ _. on_cond (λ (e : MasterDoing). IsIssuing found (core_of e)) (fits (writes_checkpoint d) r && not (is_of_copy d.master.logged r)) (appends (writes_checkpoint d) r) (writes_checkpoint d)
    (λ _. begins (writes_checkpoint d) (checkpointed found (core_of d) first)) (λ _. checkpointed found (core_of d) first))
    (λ _. first))
  where
    same_below : (t : Rows) → AreIssued t → (handle : ℕ) (row other : ChunkRow) → table.get t handle ≡ Some row → table.get t handle ≡ Some other → other.granted ≤ row.issued
    same_below t h handle row other is other_is = let same : Some row ≡ Some other = sym is ∙ other_is in let bound = h handle other other_is in let issued = issued_same same in omega (arith, bound, issued)
      where
        issued_same : Some row ≡ Some other → row.issued ≡ other.issued
        issued_same e = cc

pub opens_issued : (old : MasterState) (moment : ℕ) (choice : Choice) (e : Ending) → IsIssued old
    → (let started : MasterState = started_master old.config old.server_count (found_log old choice) moment in IsIssued (opens_as old started (opening started) choice e).state)
opens_issued old moment choice Lost h = stopped old old.disk old.under_way h.found
opens_issued old moment choice (Stops made) h =
    let found : LogDisk = found_log old choice in
    let d : MasterDoing = opening (started_master old.config old.server_count found moment) in
    stopped old (log_changed_by_all found (take made d.changes)) (take 1 (drop made d.changes))
    (found_stopped IsGood found d.changes made (opening_issuing old.config old.server_count found moment (h.found choice.decided)).stops)
opens_issued old moment choice Goes h =
    let found : LogDisk = found_log old choice in
    let started : MasterState = started_master old.config old.server_count found moment in
    let d : MasterDoing = opening started in
    let g : IsIssuing found (core_of d) = opening_issuing old.config old.server_count found moment (h.found choice.decided) in
    on_cond (λ (t : Taken MasterState). IsIssued t.state) (has_opened started d && is_within_limits d.master) _ _
    (λ _. running found d g) (λ _. stopped old d.master.disk [] (found_same IsGood d.master.disk g.rows.disk))

pub new_issued : (config : Config) (servers : ℕ) → IsIssued (new_master config servers)
new_issued config servers =
    record {
      now = no_rows;
      found = found_same IsGood first_log no_rows;
      idle = λ _. refl;
      rows = λ _. record { state = no_rows; disk = no_rows; below = λ handle row other is other_is. none_some other (sym (table.get-empty nat_cmp handle) ∙ other_is) };
    }

pub granted_is_at_most_issued : GrantedIsAtMostIssued
granted_is_at_most_issued config servers clients w r handle row is =
    (reached_here IsIssued (record { new = new_issued; steps = step_issued; restarts = λ m moment choice h. opens_issued m moment choice choice.ending h }) config servers clients w r).now handle row is
