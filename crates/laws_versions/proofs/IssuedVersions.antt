-- In each reached world whose clocks were kept the leases of a chunk are over once a number was issued since the last grant: at a master that is up, and in each log that may be found.
use Rattle.std.proofs.Common.{◌≡◌, ℕ, suc, ◌+◌, ◌≤◌, ◌<◌, true, false, List, [], take, drop, Some, None, refl, sym, ap, subst, ◌∙◌, inl, inr, arith}
use Rattle.std.specs.Prelude.{nat_le, ◌&&◌, IsTrue}
use Rattle.std.specs.Ordering.{nat_cmp}
use Rattle.std.specs.FinMap as table
use Rattle.std.proofs.lemmas.Bool.{and_parts, cases_lt}
use Rattle.std.proofs.Math.Nat.{max-le}
use Rattle.gfs_types.specs.declared.config.Config.{Config}
use Rattle.gfs_types.specs.declared.ids.Node.TheVariants as node
use Rattle.messages.specs.declared.event.NodeInput.{NodeInput}
use Rattle.log_records.specs.declared.record.Record.TheVariants as log
use Rattle.chunk_table.specs.ChunkTable.{ChunkRow}
use Rattle.primary_order.specs.SerialOrder.{SerialOrder}
use Rattle.protocol.specs.Choice.{Choice, Ending, Goes, Lost, Stops}
use Rattle.protocol.specs.Seen.{Taken, no_step}
use Rattle.protocol.specs.Logged.{Logged, LogDisk, LogChange, first_logged, log_changed_by_all, replayed}
use Rattle.protocol.specs.Master.{MasterState, MasterDoing, stopped_master, master_begins, writes_checkpoint}
use Rattle.protocol.specs.MasterStep.{master_at, master_goes, master_ends, master_bounded, master_step, is_within_limits, may_end, found_log, row_after_restart, started_master, opening, has_opened, opens_as, new_master, first_log}
use Rattle.protocol.specs.ServerStep.{server_step, server_restart}
use Rattle.protocol.specs.World.{WorldState, IsReached, new_world, stamped}
use Rattle.laws_base.specs.Laws.{grants_of, HoldsLastingLease}
use Rattle.laws_base.proofs.Steps.{on_cond, none_some, same_or_not, removed_cases}
use Rattle.laws_base.proofs.Entries.{mapped_cases}
use Rattle.laws_base.proofs.ChunkRows.{rows_of}
use Rattle.laws_base.proofs.MasterMoves.{Core, core_of, logs_alone}
use Rattle.laws_base.proofs.ClientMoves.{quiet_orders}
use Rattle.laws_base.proofs.SentReached.{server_quiet, server_restarts_quiet}
use Rattle.laws_base.proofs.OrderNumbers.{state_of, AllFound, found_same, found_stopped}
use Rattle.laws_base.proofs.NamesReached.{IsGood, IsUpToLog, IsLogged, opening_first, opening_naming}
use Rattle.laws_base.proofs.RowsLogged.{IsFoundRows, IsRowedLog}
use Rattle.laws_base.proofs.RowsKept.{rows_kept}
use Rattle.laws_base.proofs.LeaseEnds.{WasSaidOver, IsTelling}
use Rattle.laws_base.proofs.LeasesTimed.{telling_keeps, AreTimely}
use Rattle.laws_base.proofs.LeasesTimely.{IsOfTimes, times_kept}
use Rattle.laws_base.proofs.ServerSettings.{AreSet, settings_kept}
use Rattle.laws_base.proofs.ScenesReached.{Scene, scene_of, passed, IsNow, more_sent, IsSentTo, after_master_step, IsKeptByScenes, lifted, scene_reached}
use Rattle.laws_base.specs.Versions.{IsLeaseOver}
use Rattle.laws_base.proofs.EndedLeases.{ended_leases_are_over, leases_in_the_log_are_over}
use Rattle.laws_base.proofs.LeasesStayOver.{stays_over}
use Rattle.laws_base.proofs.MasterActs.{IsRowing, rowing_keeps}
use Rattle.laws_base.proofs.WaitsKept.{IsOfWaits, waits_kept}
use Rattle.laws_base.proofs.ActsOfSteps.{goes_acts}
use Rattle.laws_base.proofs.Awaited.{Attempts}
use Rattle.laws_versions.specs.MasterKnowledge.{IsRowOf}
use Rattle.laws_versions.specs.IssuedVersions.{IssuedChunksHaveNoLease, LastingLeasesAreOfTheLastNumber}
use Rattle.laws_versions.proofs.SharedSteps.{Stepping}
use Rattle.laws_versions.proofs.SharedChunks.{IsOverIn, settled, stay, sent_over, quiet_sent, input_said, begins_telling, none_sent, done_over, each_over}
use Rattle.laws_versions.proofs.IssuedSteps.{IsStateDone, IsLogDone, less_state, log_done, IsLastNumber, AreUsed, IsIssuing, state_done, checkpoint_done, epoch_done, issuing_acts}

-- the number of each attempt is the last one issued of its chunk, whose handle was used
record AreLast (l : Logged) (attempts : Attempts) : Type 0 where
  last : (handle : ℕ) (row : ChunkRow) → table.get (rows_of l) handle ≡ Some row → IsLastNumber attempts handle row.issued
  used : AreUsed attempts l.next_handle

-- In each log that may be found, and at a master that is up, the lease is over of the granted version of each chunk of which a later number was issued.
record AreIssuedOver (Over : ℕ → ℕ → Type 0) (m : MasterState) : Type 0 where
  found : AllFound (IsLogDone Over) m.disk m.under_way
  up : IsTrue m.up → IsStateDone Over m.logged × AreLast m.logged m.attempts

state_stays : (Over More : ℕ → ℕ → Type 0) (l : Logged) → ((handle version : ℕ) → Over handle version → More handle version) → IsStateDone Over l → IsStateDone More l
state_stays Over More l stays h handle row there ahead = stays handle row.granted (h handle row there ahead)

issued_stay : (Over More : ℕ → ℕ → Type 0) (m : MasterState) → ((handle version : ℕ) → Over handle version → More handle version) → AreIssuedOver Over m → AreIssuedOver More m
issued_stay Over More m stays h =
    record {
      found = λ decided handle row there ahead. stays handle row.granted (h.found decided handle row there ahead);
      up = λ up. (state_stays Over More m.logged stays (h.up up).0, (h.up up).1);
    }

-- a master that is put down
down_issued : (Over More : ℕ → ℕ → Type 0) (m : MasterState) (disk : LogDisk) (under_way : List LogChange) → ((handle version : ℕ) → Over handle version → More handle version) → AllFound (IsLogDone Over) disk under_way
    → AreIssuedOver More (stopped_master m disk under_way)
down_issued Over More m disk under_way stays found =
    record { found = λ decided handle row there ahead. stays handle row.granted (found decided handle row there ahead); up = λ up. absurd (let both : false ≡ true = up in cc) }

record IsOfIssued (x : Scene) : Type 0 where
  base : IsOfTimes x
  set : AreSet x
  waits : IsOfWaits x.sent x.master
  over : IsTrue x.are_clocks_kept → AreIssuedOver (IsOverIn x) x.master

-- a step of the master

module _ (x : Scene) (base : IsOfTimes x) where
  abbrev lease : ℕ
  lease = x.config.lease_ms

  abbrev Issuing : LogDisk → MasterDoing → Type 0
  Issuing start d = IsIssuing x.sent x.greatest lease (IsOverIn x) (settled x base) start (core_of d) d.master.attempts d.master.snapshots

  ends_issued : (k : ℕ) (d : MasterDoing) (choice : Choice) (e : Ending) → AreIssuedOver (IsOverIn x) x.master → IsRowing x.master.disk (core_of d) → Issuing x.master.disk d
      → (let y : Scene = after_master_step x k (master_ends x.master d choice e) in IsOfTimes y → AreIssuedOver (IsOverIn y) y.master)
  ends_issued k d choice Goes h n g after =
      let y : Scene = after_master_step x k (master_ends x.master d choice Goes) in
      let over : IsStateDone (IsOverIn y) d.master.logged = λ handle row there ahead. done_over x base k choice.order d handle row.granted row.lease_end after ((g.done handle row there).1 ahead) in
      record {
        found = subst (λ (xs : List LogChange). AllFound (IsLogDone (IsOverIn y)) d.master.disk xs) (sym n.none) (found_same (IsLogDone (IsOverIn y)) d.master.disk (log_done x.master.disk (IsOverIn y) (core_of d) n over));
        up = λ _. (over, record { last = λ handle row there. (g.done handle row there).0; used = g.used });
      }
  ends_issued k d choice Lost h n g after =
      down_issued (IsOverIn x) (IsOverIn (after_master_step x k (master_ends x.master d choice Lost))) x.master x.master.disk [] (none_sent x base k) (found_same (IsLogDone (IsOverIn x)) x.master.disk (h.found []))
  ends_issued k d choice (Stops made) h n g after =
      down_issued (IsOverIn x) (IsOverIn (after_master_step x k (master_ends x.master d choice (Stops made)))) x.master (log_changed_by_all x.master.disk (take made d.changes)) (take 1 (drop made d.changes)) (none_sent x base k)
      (found_stopped (IsLogDone (IsOverIn x)) x.master.disk d.changes made g.stops)

  step_issued : (k moment : ℕ) (i : NodeInput) (choice : Choice) → IsNow x moment → IsSentTo x.sent node.Master i → IsTrue x.are_clocks_kept → IsOfWaits x.sent x.master → AreIssuedOver (IsOverIn x) x.master
      → (let y : Scene = after_master_step x k (master_step x.master moment i choice) in IsOfTimes y → AreIssuedOver (IsOverIn y) y.master)
  step_issued k moment i choice now is clocks waits h =
      let m : MasterState = x.master in
      let d : MasterDoing = master_goes m moment i choice.refused in
      let good : Taken MasterState → Type 0 = λ t. IsOfTimes (after_master_step x k t) → AreIssuedOver (IsOverIn (after_master_step x k t)) t.state in
      let same : good (no_step m) = λ _. issued_stay (IsOverIn x) (IsOverIn (after_master_step x k (no_step m))) m (none_sent x base k) h in
      let timely : AreTimely x.sent x.greatest lease m = base.timely clocks in
      on_cond good m.up (master_bounded m i d choice) (no_step m)
      (λ up. on_cond good (may_end m i d choice.ending) (master_ends m d choice choice.ending) (no_step m)
      (λ _.
      let logged : IsLogged IsFoundRows IsRowedLog rows_kept m = base.base.sent.logged in
      let u : IsUpToLog IsFoundRows IsRowedLog rows_kept m = logged.up up in
      let first : Core = core_of (master_begins (master_at m moment) choice.refused) in
      let telling : IsTelling x.sent x.greatest lease m.disk first =
      begins_telling x.sent x.greatest lease m first refl refl (max-le base.clock.1 now.reached) (ap (λ (c : Config). c.lease_ms) base.clock.0) timely (timely.up up) (timely.found []) (timely.found []) in
      let before = h.up up in
      let end =
      goes_acts (WasSaidOver x.sent) (Stepping x.sent x.greatest lease (IsOverIn x) (settled x base) m.disk) (IsIssuing x.sent x.greatest lease (IsOverIn x) (settled x base) m.disk) m moment i choice.refused
      (telling_keeps x.sent x.greatest lease m.disk) (λ c p. p.0) (issuing_acts x.sent x.greatest lease (IsOverIn x) (settled x base) m.disk) (input_said x.sent i is) logged up waits.waits
      (record { none = u.idle; disk = refl; same = u.same; tied = u.tied; stops = logged.found [] }, telling)
      (record { done = λ handle row there. (before.1.last handle row there, λ ahead. inl (before.0 handle row there ahead, refl)); used = before.1.used; stops = h.found [] }) in
      ends_issued k d choice choice.ending h (end.0).0 end.2)
      (λ _. same))
      (λ _. same)

  -- a master that opens

  started_done : (config : Config) (count : ℕ) (found : LogDisk) (moment : ℕ) → IsLogDone (IsOverIn x) found → IsStateDone (IsOverIn x) (started_master config count found moment).logged
  started_done config count found moment h handle row there ahead =
      let was = mapped_cases (row_after_restart config moment) (rows_of (replayed found)) handle row there in
      let numbers = same_numbers was.0 in
      let granted : (was.0).granted ≡ row.granted = numbers.0 ∙ ap (λ (r : ChunkRow). r.granted) was.2 in
      let issued : (was.0).issued ≡ row.issued = numbers.1 ∙ ap (λ (r : ChunkRow). r.issued) was.2 in
      subst (λ (v : ℕ). IsOverIn x handle v) granted (h handle was.0 was.1 (omega (arith, granted, issued, ahead)))
    where
      same_numbers : (r : ChunkRow) → (r.granted ≡ (row_after_restart config moment r).granted) × (r.issued ≡ (row_after_restart config moment r).issued)
      same_numbers r = (refl, refl)

  opening_issued : (config : Config) (count : ℕ) (found : LogDisk) (moment : ℕ) → IsGood IsFoundRows IsRowedLog rows_kept found → IsLogDone (IsOverIn x) found → Issuing found (opening (started_master config count found moment))
  opening_issued config count found moment good h =
      let started : MasterState = started_master config count found moment in
      let d : MasterDoing = master_begins started [] in
      let b : MasterDoing = writes_checkpoint d in
      let epoch : ℕ = suc started.logged.epoch in
      let over : IsStateDone (IsOverIn x) started.logged = started_done config count found moment h in
      let n : IsRowing found (core_of d) = opening_first IsFoundRows IsRowedLog rows_kept config count found moment good in
      let written : IsRowing found (core_of b) = (rowing_keeps found).checkpoint (core_of d) (λ _. good.0) n in
      let first : Issuing found d = record {
        done = λ handle row there. (λ a is. none_some a (sym (table.get-empty nat_cmp handle) ∙ is), λ ahead. inl (over handle row there ahead, refl));
        used = λ handle a is. none_some a (sym (table.get-empty nat_cmp handle) ∙ is);
        stops = h;
      } in
      let less : Issuing found b = checkpoint_done x.sent x.greatest lease (IsOverIn x) (settled x base) found (core_of d) d.master.attempts d.master.snapshots n written first in
      logs_alone (λ e. Issuing found e) d (log.Epoch epoch) first
      (epoch_done x.sent x.greatest lease (IsOverIn x) (settled x base) found (core_of d) d.master.attempts d.master.snapshots epoch n first) less
      (epoch_done x.sent x.greatest lease (IsOverIn x) (settled x base) found (core_of b) b.master.attempts b.master.snapshots epoch written less)

  opens_issued : (k moment : ℕ) (choice : Choice) (e : Ending) → AreIssuedOver (IsOverIn x) x.master
      → (let started : MasterState = started_master x.master.config x.master.server_count (found_log x.master choice) moment in
      let y : Scene = after_master_step x k (opens_as x.master started (opening started) choice e) in AreIssuedOver (IsOverIn y) y.master)
  opens_issued k moment choice Lost h = down_issued (IsOverIn x) _ x.master x.master.disk x.master.under_way (none_sent x base k) h.found
  opens_issued k moment choice (Stops made) h =
      let old : MasterState = x.master in
      let found : LogDisk = found_log old choice in
      let d : MasterDoing = opening (started_master old.config old.server_count found moment) in
      let g : Issuing found d = opening_issued old.config old.server_count found moment (base.base.sent.logged.found choice.decided) (h.found choice.decided) in
      down_issued (IsOverIn x) _ old (log_changed_by_all found (take made d.changes)) (take 1 (drop made d.changes)) (none_sent x base k) (found_stopped (IsLogDone (IsOverIn x)) found d.changes made g.stops)
  opens_issued k moment choice Goes h =
      let old : MasterState = x.master in
      let found : LogDisk = found_log old choice in
      let started : MasterState = started_master old.config old.server_count found moment in
      let d : MasterDoing = opening started in
      let n : IsRowing found (core_of d) = (opening_naming IsFoundRows IsRowedLog rows_kept old.config old.server_count found moment (base.base.sent.logged.found choice.decided) (base.base.sent.issued.found choice.decided)).0 in
      let g : Issuing found d = opening_issued old.config old.server_count found moment (base.base.sent.logged.found choice.decided) (h.found choice.decided) in
      let over : IsStateDone (IsOverIn x) d.master.logged = state_done x.sent x.greatest lease (IsOverIn x) (settled x base) found (core_of d) d.master.attempts g.done in
      let disk : AllFound (IsLogDone (IsOverIn x)) d.master.disk [] = found_same (IsLogDone (IsOverIn x)) d.master.disk (log_done found (IsOverIn x) (core_of d) n over) in
      on_cond (λ (t : Taken MasterState). AreIssuedOver (IsOverIn (after_master_step x k t)) t.state) (has_opened started d && is_within_limits d.master) _ _
      (λ _. issued_stay (IsOverIn x) _ d.master (none_sent x base k)
      (record { found = subst (λ (xs : List LogChange). AllFound (IsLogDone (IsOverIn x)) d.master.disk xs) (sym n.none) disk; up = λ _. (over, record { last = λ handle row there. (g.done handle row there).0; used = g.used }) }))
      (λ _. down_issued (IsOverIn x) _ old d.master.disk [] (none_sent x base k) disk)

-- worlds

no_rows : (Over : ℕ → ℕ → Type 0) (l : Logged) → ((handle : ℕ) → table.get (rows_of l) handle ≡ None) → IsStateDone Over l
no_rows Over l none handle row there ahead = none_some row (sym (none handle) ∙ there)

new_issued : (Over : ℕ → ℕ → Type 0) (config : Config) (servers : ℕ) → AreIssuedOver Over (new_master config servers)
new_issued Over config servers =
    let one : Logged = record first_logged { epoch = 1 } in
    let none : IsStateDone Over one = no_rows Over one (λ handle. table.get-empty nat_cmp handle) in
    record {
      found = found_same (IsLogDone Over) first_log (less_state Over one none);
      up = λ up. (none, record { last = λ handle row there. none_some row (sym (table.get-empty nat_cmp handle) ∙ there); used = λ handle a is. none_some a (sym (table.get-empty nat_cmp handle) ∙ is) });
    }

issued_kept : IsKeptByScenes IsOfIssued
issued_kept =
    let waiting : IsKeptByScenes (λ x. IsOfWaits x.sent x.master) = lifted IsOfWaits waits_kept in
    record {
      new = λ config servers clients. record {
        base = times_kept.new config servers clients;
        set = settings_kept.new config servers clients;
        waits = waiting.new config servers clients;
        over = λ clocks. new_issued (IsOverIn (scene_of (new_world config servers clients))) config servers;
      };
      passes = λ x moment h. record {
        base = times_kept.passes x moment h.base;
        set = settings_kept.passes x moment h.set;
        waits = waiting.passes x moment h.waits;
        over = λ clocks. issued_stay (IsOverIn x) (IsOverIn (passed x moment)) x.master
            (λ handle version over. ((stays_over handle version (grants_of handle version x.sent)).passes x moment (stay x h.base h.set handle version over)).over clocks (omega arith))
            (h.over (and_parts x.are_clocks_kept (nat_le x.greatest (moment + x.config.skew_ms)) clocks).0);
      };
      says = λ x k ms quiet h. record {
        base = times_kept.says x k ms quiet h.base;
        set = settings_kept.says x k ms quiet h.set;
        waits = waiting.says x k ms quiet h.waits;
        over = λ clocks. issued_stay (IsOverIn x) (IsOverIn (more_sent x k ms)) x.master (λ handle version over. sent_over x (stamped k ms) handle version (quiet_sent x.sent k ms handle version (quiet_orders ms quiet)) over) (h.over clocks);
      };
      masters = λ x k moment i choice now is up h.
          let after : IsOfTimes (after_master_step x k (master_step x.master moment i choice)) = times_kept.masters x k moment i choice now is up h.base in
          record {
            base = after;
            set = settings_kept.masters x k moment i choice now is up h.set;
            waits = waiting.masters x k moment i choice now is up h.waits;
            over = λ clocks. step_issued x h.base k moment i choice now is clocks h.waits (h.over clocks) after;
          };
      opens = λ x k moment choice now h. record {
        base = times_kept.opens x k moment choice now h.base;
        set = settings_kept.opens x k moment choice now h.set;
        waits = waiting.opens x k moment choice now h.waits;
        over = λ clocks. opens_issued x h.base k moment choice choice.ending (h.over clocks);
      };
      serves = λ x k index moment s i choice now at is up h. record {
        base = times_kept.serves x k index moment s i choice now at is up h.base;
        set = settings_kept.serves x k index moment s i choice now at is up h.set;
        waits = waiting.serves x k index moment s i choice now at is up h.waits;
        over = λ clocks. issued_stay (IsOverIn x) _ x.master
            (λ handle version over. ((stays_over handle version (grants_of handle version x.sent)).serves x k index moment s i choice now at is up (stay x h.base h.set handle version over)).over clocks
            (quiet_sent x.sent k (server_step s moment i choice).out.sent handle version (server_quiet s moment i choice))) (h.over clocks);
      };
      restarts = λ x k index moment s choice now at h. record {
        base = times_kept.restarts x k index moment s choice now at h.base;
        set = settings_kept.restarts x k index moment s choice now at h.set;
        waits = waiting.restarts x k index moment s choice now at h.waits;
        over = λ clocks. issued_stay (IsOverIn x) _ x.master
            (λ handle version over. ((stays_over handle version (grants_of handle version x.sent)).restarts x k index moment s choice now at (stay x h.base h.set handle version over)).over clocks
            (quiet_sent x.sent k (server_restart s moment choice).out.sent handle version (server_restarts_quiet s moment choice choice.ending))) (h.over clocks);
      };
      rots = λ x index c s e is at up h. record {
        base = times_kept.rots x index c s e is at up h.base;
        set = settings_kept.rots x index c s e is at up h.set;
        waits = waiting.rots x index c s e is at up h.waits;
        over = λ clocks. issued_stay (IsOverIn x) _ x.master
            (λ handle version over. ((stays_over handle version (grants_of handle version x.sent)).rots x index c s e is at up (stay x h.base h.set handle version over)).over clocks (omega arith)) (h.over clocks);
      };
    }

-- as the laws say it

module _ (config : Config) (servers clients : ℕ) (w : WorldState) (r : IsReached config servers clients w) (clocks : IsTrue w.observer.are_clocks_kept) where
  reached : IsOfIssued (scene_of w)
  reached = scene_reached IsOfIssued issued_kept config servers clients w r

  -- the lease of each version but the granted one
  others_over : (handle : ℕ) (row : ChunkRow) → IsRowOf w.master handle row → (version : ℕ) → (version ≡ row.granted → ⊥) → IsLeaseOver w handle version
  others_over handle row (inl at) version other = ended_leases_are_over config servers clients w r clocks at.0 handle row at.1 version (λ same. absurd (other same))
  others_over handle row (inr at) version other = leases_in_the_log_are_over config servers clients w r clocks handle row at version other

  granted_over : (handle : ℕ) (row : ChunkRow) → IsRowOf w.master handle row → row.granted < row.issued → IsOverIn (scene_of w) handle row.granted
  granted_over handle row (inl at) ahead = ((reached.over clocks).up at.0).0 handle row at.1 ahead
  granted_over handle row (inr at) ahead = (reached.over clocks).found [] handle row at ahead

  issued_most : (handle : ℕ) (row : ChunkRow) → IsRowOf w.master handle row → row.granted ≤ row.issued
  issued_most handle row (inl at) = reached.base.base.sent.issued.now handle row at.1
  issued_most handle row (inr at) = reached.base.base.sent.issued.found [] handle row (removed_cases (rows_of (state_of w.master.disk)) (table.keys (state_of w.master.disk).copies) handle row at)

  no_lease : (handle : ℕ) (row : ChunkRow) → IsRowOf w.master handle row → row.granted < row.issued → (version : ℕ) → IsLeaseOver w handle version
  no_lease handle row at ahead = each_over w handle row.granted (granted_over handle row at ahead) (others_over handle row at)

  last_number : (index handle : ℕ) (p : SerialOrder) → HoldsLastingLease w index handle p → (row : ChunkRow) → IsRowOf w.master handle row → (row.granted ≡ p.held.version) × (row.issued ≡ p.held.version)
  last_number index handle p holds row at =
      let granted : row.granted ≡ p.held.version =
      elim (same_or_not p.held.version row.granted) [
        | inl same ↦ sym same
        | inr other ↦ absurd ((others_over handle row at p.held.version other).held index p holds refl)
      ] in
      elim (cases_lt row.granted row.issued) [
        | inl ahead ↦ absurd ((no_lease handle row at ahead p.held.version).held index p holds refl)
        | inr most ↦ let least = issued_most handle row at in (granted, omega (arith, granted, most, least))
      ]

pub issued_chunks_have_no_lease : IssuedChunksHaveNoLease
issued_chunks_have_no_lease config servers clients w r clocks handle row at ahead = no_lease config servers clients w r clocks handle row at ahead

pub lasting_leases_are_of_the_last_number : LastingLeasesAreOfTheLastNumber
lasting_leases_are_of_the_last_number config servers clients w r clocks index handle p holds row at = last_number config servers clients w r clocks index handle p holds row at
