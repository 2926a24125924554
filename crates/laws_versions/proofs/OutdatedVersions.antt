-- A version that is below the granted one of its chunk stays so, in the state and in the log; and a chunk that is gone stays gone.
use Rattle.std.proofs.Common.{◌≡◌, ℕ, suc, ◌+◌, ◌≤◌, ◌<◌, true, false, List, [], take, drop, refl, sym, ap, subst, ◌∙◌, arith}
use Rattle.std.specs.Prelude.{◌&&◌, IsTrue}
use Rattle.std.specs.FinMap as table
use Rattle.gfs_types.specs.declared.config.Config.{Config}
use Rattle.messages.specs.declared.event.NodeInput.{NodeInput}
use Rattle.messages.specs.declared.message.Message.{Message}
use Rattle.log_records.specs.declared.record.Record.{Record}
use Rattle.log_records.specs.declared.record.Record.TheVariants as log
use Rattle.protocol.specs.Choice.{Choice, Ending, Goes, Lost, Stops}
use Rattle.protocol.specs.Seen.{Taken, no_step}
use Rattle.chunk_table.specs.ChunkTable.{ChunkRow}
use Rattle.protocol.specs.Logged.{Logged, LogDisk, LogChange, AppendRecord, WriteCheckpoint, log_changed, log_changed_by_all, after_record, checkpoint_of, copies_given_up, all_copies_given_up, replayed}
use Rattle.protocol.specs.Master.{MasterState, MasterDoing, stopped_master, master_begins, writes_checkpoint}
use Rattle.protocol.specs.MasterStep.{master_goes, master_ends, master_bounded, master_step, is_within_limits, may_end, found_log, row_after_restart, started_master, opening, has_opened, opens_as}
use Rattle.laws_base.proofs.Steps.{on_cond}
use Rattle.laws_base.proofs.Entries.{mapped_cases}
use Rattle.laws_base.proofs.ChunkRows.{Rows, rows_of, From, removed_from, changed_from}
use Rattle.laws_base.proofs.MasterMoves.{Core, core_of, IsDue, Nothing, NoneEnded, Keeps, core_changed, core_appended, core_ended, core_granted, grant_record, logs_alone}
use Rattle.laws_base.proofs.MasterSteps.{no_input, goes_named}
use Rattle.laws_base.proofs.OrderNumbers.{state_of, state-appended, AllStops, stops_push, AllFound, found_same, found_stopped}
use Rattle.laws_base.proofs.LoggedParts.{Parts, parts_of}
use Rattle.laws_base.proofs.GrantedIssued.{IsIssued}
use Rattle.laws_base.proofs.NamesReached.{naming_keeps, opening_first, opening_naming, IsGood, IsUpToLog, IsLogged}
use Rattle.laws_base.proofs.CountsLogged.{next_grows}
use Rattle.laws_base.proofs.RowsFit.{AreFit, fit_from, fit_same, IsFitRecord, fit_after}
use Rattle.laws_base.proofs.RowsLogged.{IsFoundRows, IsRowedLog}
use Rattle.laws_base.proofs.RowsKept.{rows_kept, given_up_same}
use Rattle.laws_base.proofs.RevokesNumbered.{IsRowing}
use Rattle.laws_base.proofs.RevokedLeases.{IsOfRevoked, revoked_kept}
use Rattle.laws_base.proofs.ScenesReached.{Scene, IsKeptOn}

ended_rows : (c : Core) (chunk moment : ℕ) → From (rows_of c.logged) (rows_of (core_ended c chunk moment).logged)
ended_rows c chunk moment = let rows : Rows = rows_of c.logged in changed_from rows chunk (λ row. record row { lease_end = moment }) (table.get rows chunk) refl (λ row. (refl, refl, refl))

module _ (handle version : ℕ) where
  abbrev Above : ℕ → ℕ → ℕ → Type 0
  Above q granted primary = q ≡ handle → version < granted

  -- the handle was used, and its row, if it is there, has a newer version granted
  abbrev pub IsOutdated : Logged → Type 0
  IsOutdated l = (handle < l.next_handle) × AreFit Above (rows_of l)

  -- so it is in the log, read again
  abbrev pub IsLogOutdated : LogDisk → Type 0
  IsLogOutdated d = IsOutdated (all_copies_given_up (state_of d))

  outdated_from : (l k : Logged) → From (rows_of l) (rows_of k) → l.next_handle ≤ k.next_handle → IsOutdated l → IsOutdated k
  outdated_from l k f grows h = (let low = h.0 in omega (arith, low, grows), fit_from Above (rows_of l) (rows_of k) f h.1)

  less_outdated : (l : Logged) → IsOutdated l → IsOutdated (all_copies_given_up l)
  less_outdated l h = outdated_from l (all_copies_given_up l) (removed_from (rows_of l) (table.keys l.copies)) (omega arith) h

  -- the log has the state's chunks
  pub log_outdated : (l k : Logged) → parts_of l ≡ parts_of k → IsRowedLog l k → IsOutdated l → IsOutdated (all_copies_given_up k)
  log_outdated l k parts tied h =
      let less : IsOutdated (all_copies_given_up l) = less_outdated l h in
      let low = h.0 in
      let next : l.next_handle ≡ k.next_handle = ap (λ (p : Parts). p.next_handle) parts in
      (omega (arith, low, next), fit_same Above (rows_of (all_copies_given_up l)) (rows_of (all_copies_given_up k)) (given_up_same l k tied) less.1)

  -- after a record

  fresh : (l : Logged) (r : Record) → IsDue (Unit {0}) l r → IsOutdated l → IsFitRecord Above r
  fresh l (log.AddChunk file chunk) due h = λ same. absurd (let low = h.0 in let next = due.0 in omega (arith, low, next, same))
  fresh l (log.CopyStart file index source copy copy_version) due h = λ same. absurd (let low = h.0 in let next = due.0 in omega (arith, low, next, same))
  fresh l (log.Grant chunk number primary members) due h = λ same. let low = h.1 chunk.0 due.0 due.1 same in let above = due.2 tt in omega (arith, low, above)
  fresh l other due h = tt

  outdated_after : (l : Logged) (r : Record) → IsDue (Unit {0}) l r → IsOutdated l → IsOutdated (after_record l r)
  outdated_after l r due h = (let low = h.0 in let grown = next_grows l l r due in omega (arith, low, grown), fit_after Above l l r due (fresh l r due h) h.1)

  -- a step so far

  record IsGoing (start : LogDisk) (c : Core) : Type 0 where
    state : IsOutdated c.logged
    disk : IsLogOutdated c.disk
    stops : AllStops IsLogOutdated start c.changes

  log_by : (start : LogDisk) (c : Core) → IsRowing start c → IsOutdated c.logged → IsLogOutdated c.disk
  log_by start c n h = log_outdated c.logged (state_of c.disk) n.same n.tied h

  -- the disk and the state change together
  changed : (start : LogDisk) (c : Core) (x : LogChange) (l : Logged) → log_changed_by_all start c.changes ≡ c.disk → IsOutdated l → IsLogOutdated (log_changed c.disk x) → IsGoing start c → IsGoing start (record (core_changed c x) { logged = l })
  changed start c x l disk state written h =
      record {
        state = state;
        disk = written;
        stops = stops_push IsLogOutdated start c.changes x h.stops (subst (λ (d : LogDisk). IsLogOutdated (log_changed d x)) (sym disk) written);
      }

  appended : (start : LogDisk) (c : Core) (r : Record) → IsDue (Unit {0}) c.logged r → IsRowing start c → IsRowing start (core_appended c r) → IsGoing start c → IsGoing start (core_appended c r)
  appended start c r due n after h =
      let state : IsOutdated (after_record c.logged r) = outdated_after c.logged r due h.state in
      changed start c (AppendRecord r) (after_record c.logged r) n.disk state (log_by start (core_appended c r) after state) h

  abbrev checkpointed_core : Core → Core
  checkpointed_core c = record (core_changed c (WriteCheckpoint (checkpoint_of c.logged))) { logged = all_copies_given_up c.logged }

  checkpointed : (start : LogDisk) (c : Core) → IsRowing start c → IsRowing start (checkpointed_core c) → IsGoing start c → IsGoing start (checkpointed_core c)
  checkpointed start c n after h =
      let state : IsOutdated (all_copies_given_up c.logged) = less_outdated c.logged h.state in
      changed start c (WriteCheckpoint (checkpoint_of c.logged)) (all_copies_given_up c.logged) n.disk state (log_by start (checkpointed_core c) after state) h

  granted : (start : LogDisk) (c : Core) (chunk number until primary : ℕ) (members : List ℕ) → IsDue (Unit {0}) c.logged (grant_record chunk number primary members) → IsRowing start c
      → IsRowing start (core_granted c chunk number until primary members) → IsGoing start c → IsGoing start (core_granted c chunk number until primary members)
  granted start c chunk number until primary members due n after h =
      let r : Record = grant_record chunk number primary members in
      let one : Core = core_appended c r in
      let state : IsOutdated (core_ended one chunk until).logged = outdated_from one.logged (core_ended one chunk until).logged (ended_rows one chunk until) (omega arith) (outdated_after c.logged r due h.state) in
      let disk : IsLogOutdated (log_changed c.disk (AppendRecord r)) = log_by start (core_granted c chunk number until primary members) after state in
      let two : IsGoing start (record (core_changed c (AppendRecord r)) { logged = (core_ended one chunk until).logged }) = changed start c (AppendRecord r) (core_ended one chunk until).logged n.disk state disk h in
      record { state = two.state; disk = two.disk; stops = two.stops }

  -- the state's rows alone change
  quieter : (start : LogDisk) (c : Core) (l : Logged) → From (rows_of c.logged) (rows_of l) → c.logged.next_handle ≤ l.next_handle → IsGoing start c → IsGoing start (record c { logged = l })
  quieter start c l f grows h = record { state = outdated_from c.logged l f grows h.state; disk = h.disk; stops = h.stops }

  ended : (start : LogDisk) (c : Core) (chunk moment : ℕ) → IsGoing start c → IsGoing start (core_ended c chunk moment)
  ended start c chunk moment h = quieter start c (core_ended c chunk moment).logged (ended_rows c chunk moment) (omega arith) h

  sends : (start : LogDisk) (c : Core) (ms : List Message) (count : ℕ) → IsGoing start c → IsGoing start (record c { sent = ms; order_count = count })
  sends start c ms count h = record { state = h.state; disk = h.disk; stops = h.stops }

  going_keeps : (start : LogDisk) → Keeps (Unit {0}) Nothing NoneEnded (λ c. IsRowing start c × IsGoing start c)
  going_keeps start =
      let base : Keeps (Unit {0}) Nothing NoneEnded (IsRowing start) = naming_keeps IsFoundRows IsRowedLog rows_kept start NoneEnded in
      record {
        sound = λ asks c h. base.sound asks c h.0;
        tells = λ c receiver b quiet h. (base.tells c receiver b quiet h.0, sends start c _ c.order_count h.1);
        orders = λ c server b is plain h. (base.orders c server b is plain h.0, sends start c _ (suc c.order_count) h.1);
        revokes = λ c chunk row is h. (base.revokes c chunk row is h.0, sends start c _ (suc c.order_count) h.1);
        grants = λ c chunk number until primary members told due names from idle h.
            let after = base.grants c chunk number until primary members told due names from idle h.0 in
            (after, granted start c chunk number until primary members due h.0 after h.1);
        appends = λ c r due plain names h. let after = base.appends c r due plain names h.0 in (after, appended start c r due h.0 after h.1);
        checkpoint = λ c tree h. let after = base.checkpoint c tree h.0 in (after, checkpointed start c h.0 after h.1);
        less = λ c handles copied h. (base.less c handles copied h.0, quieter start c (copies_given_up c.logged handles) (removed_from (rows_of c.logged) handles) (omega arith) h.1);
        ends = λ c chunk row is word h. (base.ends c chunk row is word h.0, ended start c chunk 0 h.1);
        extends = λ c chunk until row is lasts later from h. (base.extends c chunk until row is lasts later from h.0, sends start (core_ended c chunk until) _ c.order_count (ended start c chunk until h.1));
      }

  -- the master between its steps

  pub record AreGoing (m : MasterState) : Type 0 where
    pub found : AllFound IsLogOutdated m.disk m.under_way
    pub up : IsTrue m.up → IsOutdated m.logged

  down_going : (m : MasterState) (disk : LogDisk) (under_way : List LogChange) → AllFound IsLogOutdated disk under_way → AreGoing (stopped_master m disk under_way)
  down_going m disk under_way found = record { found = found; up = λ up. absurd (let both : false ≡ true = up in cc) }

  running : (start : LogDisk) (d : MasterDoing) → IsRowing start (core_of d) → IsGoing start (core_of d) → AreGoing d.master
  running start d n g =
      record { found = subst (λ (xs : List LogChange). AllFound IsLogOutdated d.master.disk xs) (sym n.none) (found_same IsLogOutdated d.master.disk g.disk); up = λ _. g.state }

  ends_going : (m : MasterState) (d : MasterDoing) (choice : Choice) (e : Ending) → AreGoing m → IsRowing m.disk (core_of d) → IsGoing m.disk (core_of d) → AreGoing (master_ends m d choice e).state
  ends_going m d choice Goes h n g = running m.disk d n g
  ends_going m d choice Lost h n g = down_going m m.disk [] (found_same IsLogOutdated m.disk (h.found []))
  ends_going m d choice (Stops made) h n g =
      down_going m (log_changed_by_all m.disk (take made d.changes)) (take 1 (drop made d.changes)) (found_stopped IsLogOutdated m.disk d.changes made g.stops)

  step_going : (m : MasterState) (moment : ℕ) (i : NodeInput) (choice : Choice) → IsLogged IsFoundRows IsRowedLog rows_kept m → AreGoing m → AreGoing (master_step m moment i choice).state
  step_going m moment i choice logged h =
      let d : MasterDoing = master_goes m moment i choice.refused in
      let good : Taken MasterState → Type 0 = λ t. AreGoing t.state in
      on_cond good m.up (master_bounded m i d choice) (no_step m)
      (λ up. on_cond good (may_end m i d choice.ending) (master_ends m d choice choice.ending) (no_step m)
      (λ _.
      let u : IsUpToLog IsFoundRows IsRowedLog rows_kept m = logged.up up in
      let end = goes_named NoneEnded (λ c. IsRowing m.disk c × IsGoing m.disk c) (going_keeps m.disk) m moment i choice.refused (no_input i) u.bound u.names u.ready
      (record { none = u.idle; disk = refl; same = u.same; tied = u.tied; stops = logged.found [] }, record { state = h.up up; disk = h.found []; stops = h.found [] }) in
      ends_going m d choice choice.ending h (end.0).0 (end.0).1)
      (λ _. h))
      (λ _. h)

  -- a master that opens

  started_outdated : (config : Config) (count : ℕ) (found : LogDisk) (moment : ℕ) → IsLogOutdated found → IsOutdated (started_master config count found moment).logged
  started_outdated config count found moment h = (
    h.0,
    λ q row at same.
        let was = mapped_cases (row_after_restart config moment) (rows_of (replayed found)) q row at in
        let low : version < (was.0).granted = h.1 q was.0 was.1 same in
        let granted : (was.0).granted ≡ row.granted = same_granted was.0 ∙ ap (λ (r : ChunkRow). r.granted) was.2 in
        omega (arith, low, granted),
  )
    where
      same_granted : (row : ChunkRow) → row.granted ≡ (row_after_restart config moment row).granted
      same_granted row = refl

  epoch_begun : (start : LogDisk) (c : Core) (epoch : ℕ) → log_changed_by_all start c.changes ≡ c.disk → IsGoing start c → IsGoing start (core_appended c (log.Epoch epoch))
  epoch_begun start c epoch disk h =
      changed start c (AppendRecord (log.Epoch epoch)) (after_record c.logged (log.Epoch epoch)) disk h.state
      (subst (λ (k : Logged). IsOutdated (all_copies_given_up k)) (sym (state-appended c.disk (log.Epoch epoch))) h.disk) h

  opening_going : (config : Config) (count : ℕ) (found : LogDisk) (moment : ℕ) → IsGood IsFoundRows IsRowedLog rows_kept found → IsLogOutdated found → IsGoing found (core_of (opening (started_master config count found moment)))
  opening_going config count found moment good h =
      let started : MasterState = started_master config count found moment in
      let d : MasterDoing = master_begins started [] in
      let epoch : ℕ = suc started.logged.epoch in
      let row : IsRowing found (core_of d) = opening_first IsFoundRows IsRowedLog rows_kept config count found moment good in
      let base : Keeps (Unit {0}) Nothing NoneEnded (IsRowing found) = naming_keeps IsFoundRows IsRowedLog rows_kept found NoneEnded in
      let after : IsRowing found (core_of (writes_checkpoint d)) = base.checkpoint (core_of d) (λ _. good.0) row in
      let first : IsGoing found (core_of d) = record { state = started_outdated config count found moment h; disk = h; stops = h } in
      let less : IsGoing found (core_of (writes_checkpoint d)) = checkpointed found (core_of d) row after first in
      logs_alone (λ e. IsGoing found (core_of e)) d (log.Epoch epoch) first (epoch_begun found (core_of d) epoch refl first) less (epoch_begun found (core_of (writes_checkpoint d)) epoch after.disk less)

  opens_going : (old : MasterState) (moment : ℕ) (choice : Choice) (e : Ending) → IsIssued old → IsLogged IsFoundRows IsRowedLog rows_kept old → AreGoing old
      → (let started : MasterState = started_master old.config old.server_count (found_log old choice) moment in AreGoing (opens_as old started (opening started) choice e).state)
  opens_going old moment choice Lost issued logged h = down_going old old.disk old.under_way h.found
  opens_going old moment choice (Stops made) issued logged h =
      let found : LogDisk = found_log old choice in
      let d : MasterDoing = opening (started_master old.config old.server_count found moment) in
      let g : IsGoing found (core_of d) = opening_going old.config old.server_count found moment (logged.found choice.decided) (h.found choice.decided) in
      down_going old (log_changed_by_all found (take made d.changes)) (take 1 (drop made d.changes)) (found_stopped IsLogOutdated found d.changes made g.stops)
  opens_going old moment choice Goes issued logged h =
      let found : LogDisk = found_log old choice in
      let started : MasterState = started_master old.config old.server_count found moment in
      let d : MasterDoing = opening started in
      let n : IsRowing found (core_of d) = (opening_naming IsFoundRows IsRowedLog rows_kept old.config old.server_count found moment (logged.found choice.decided) (issued.found choice.decided)).0 in
      let g : IsGoing found (core_of d) = opening_going old.config old.server_count found moment (logged.found choice.decided) (h.found choice.decided) in
      on_cond (λ (t : Taken MasterState). AreGoing t.state) (has_opened started d && is_within_limits d.master) _ _ (λ _. running found d n g) (λ _. down_going old d.master.disk [] (found_same IsLogOutdated d.master.disk g.disk))

  -- worlds

  pub record StaysOutdated (x : Scene) : Type 0 where
    pub base : IsOfRevoked x
    pub going : AreGoing x.master

  pub stays_outdated : IsKeptOn StaysOutdated
  stays_outdated =
      record {
        passes = λ x moment h. record { base = revoked_kept.passes x moment h.base; going = h.going };
        says = λ x k ms quiet h. record { base = revoked_kept.says x k ms quiet h.base; going = h.going };
        masters = λ x k moment i choice now is up h. record { base = revoked_kept.masters x k moment i choice now is up h.base; going = step_going x.master moment i choice h.base.sent.logged h.going };
        opens = λ x k moment choice now h. record { base = revoked_kept.opens x k moment choice now h.base; going = opens_going x.master moment choice choice.ending h.base.sent.issued h.base.sent.logged h.going };
        serves = λ x k index moment s i choice now at is up h. record { base = revoked_kept.serves x k index moment s i choice now at is up h.base; going = h.going };
        restarts = λ x k index moment s choice now at h. record { base = revoked_kept.restarts x k index moment s choice now at h.base; going = h.going };
        rots = λ x index c s e is at up h. record { base = revoked_kept.rots x index c s e is at up h.base; going = h.going };
      }

  -- a chunk that is gone, or whose granted version is newer, at a master that is up
  pub outdated_now : (m : MasterState) → IsLogged IsFoundRows IsRowedLog rows_kept m → IsTrue m.up → IsOutdated m.logged → AreGoing m
  outdated_now m logged up h =
      let u : IsUpToLog IsFoundRows IsRowedLog rows_kept m = logged.up up in
      record {
        found = subst (λ (xs : List LogChange). AllFound IsLogOutdated m.disk xs) (sym u.idle) (found_same IsLogOutdated m.disk (log_outdated m.logged (state_of m.disk) u.same u.tied h));
        up = λ _. h;
      }
