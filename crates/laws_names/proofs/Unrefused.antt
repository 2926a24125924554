-- In each reached world the names of a master that is up refuse no snapshot that waits.
use Rattle.std.proofs.Common.{◌≡◌, ℕ, List, [], refl, sym, subst}
use Rattle.std.specs.Prelude.{◌&&◌, IsTrue}
use Rattle.std.proofs.lemmas.Bool.{true≢false}
use Rattle.messages.specs.declared.event.NodeInput.{NodeInput}
use Rattle.log_records.specs.declared.record.Record.TheVariants as log
use Rattle.protocol.specs.Choice.{Choice, Ending, Goes, Lost, Stops, made_changes, change_under_way}
use Rattle.protocol.specs.Seen.{Taken, no_step}
use Rattle.protocol.specs.Logged.{LogDisk, LogChange, log_changed_by_all}
use Rattle.protocol.specs.Master.{MasterState, MasterDoing, PendingSnapshot, stopped_master, master_begins}
use Rattle.protocol.specs.MasterStep.{master_goes, master_ends, master_bounded, master_step, master_restart, is_within_limits, may_end, found_log, started_master, opening, has_opened, opens_as}
use Rattle.laws_base.proofs.Steps.{on_cond}
use Rattle.laws_base.proofs.GrantedIssued.{IsIssued, step_issued, opens_issued, new_issued}
use Rattle.laws_base.proofs.CountsLogged.{IsFoundCounts, IsCountedLog}
use Rattle.laws_base.proofs.CountsKept.{counts_kept}
use Rattle.laws_base.proofs.NamesReached.{IsLogged, step_logged, opens_logged, new_logged}
use Rattle.laws_base.proofs.MasterReached.{reached_here}
use Rattle.laws_names.specs.WaitingSnapshots.{AreUnrefused}
use Rattle.laws_names.proofs.Chunks.{logs_holds}
use Rattle.laws_names.proofs.WaitingSnapshotsWalk.{steps_leave_snapshots_unrefused}
use Rattle.laws_names.specs.NamesDue.{WaitingSnapshotsAreUnrefused}

abbrev AreWaiting : MasterState → Type 0
AreWaiting m = IsTrue m.up → AreUnrefused m.logged.names m.snapshots

-- what is known of the log, of which that each file has one name
abbrev HasLog : MasterState → Type 0
HasLog m = IsIssued m × IsLogged IsFoundCounts IsCountedLog counts_kept m

stopped_waits : (m : MasterState) (disk : LogDisk) (under_way : List LogChange) → AreWaiting (stopped_master m disk under_way)
stopped_waits m disk under_way up = absurd (true≢false (sym up))

ends_waits : (m : MasterState) (d : MasterDoing) (choice : Choice) (e : Ending) → AreUnrefused d.master.logged.names d.master.snapshots → AreWaiting (master_ends m d choice e).state
ends_waits m d choice Goes h = λ up. h
ends_waits m d choice Lost h = stopped_waits m m.disk []
ends_waits m d choice (Stops made) h = stopped_waits m (log_changed_by_all m.disk (made_changes made d.changes)) (change_under_way made d.changes)

step_waits : (m : MasterState) (moment : ℕ) (i : NodeInput) (choice : Choice) → HasLog m → AreWaiting m → AreWaiting (master_step m moment i choice).state
step_waits m moment i choice log h =
    let d : MasterDoing = master_goes m moment i choice.refused in
    let good : Taken MasterState → Type 0 = λ t. AreWaiting t.state in
    on_cond good m.up (master_bounded m i d choice) (no_step m)
    (λ up. on_cond good (may_end m i d choice.ending) (master_ends m d choice choice.ending) (no_step m)
    (λ _. ends_waits m d choice choice.ending
    (steps_leave_snapshots_unrefused m moment i choice.refused (λ file one other at too. (log.1.up up).tied.base.here.named.one one other file at too) (h up)))
    (λ _. h))
    (λ _. h)

-- none waits after a restart
none_waits : (m : MasterState) → m.snapshots ≡ [] → (opening m).master.snapshots ≡ []
none_waits m none = logs_holds (λ names snapshots. snapshots ≡ []) (master_begins m []) (log.Epoch _) (λ e. e) (λ e g. g) none none none

opens_waits : (old m : MasterState) (d : MasterDoing) (choice : Choice) (e : Ending) → d.master.snapshots ≡ [] → AreWaiting (opens_as old m d choice e).state
opens_waits old m d choice Lost none = stopped_waits old old.disk old.under_way
opens_waits old m d choice (Stops made) none = stopped_waits old (log_changed_by_all m.disk (made_changes made d.changes)) (change_under_way made d.changes)
opens_waits old m d choice Goes none =
    on_cond (λ (t : Taken MasterState). AreWaiting t.state) (has_opened m d && is_within_limits d.master) _ _
    (λ _ up. subst (λ (ss : List PendingSnapshot). AreUnrefused d.master.logged.names ss) (sym none) (record { unrefused = tt; apart = tt })) (λ _. stopped_waits old d.master.disk [])

restart_waits : (m : MasterState) (moment : ℕ) (choice : Choice) → AreWaiting (master_restart m moment choice).state
restart_waits m moment choice =
    let started : MasterState = started_master m.config m.server_count (found_log m choice) moment in
    opens_waits m started (opening started) choice choice.ending (none_waits started refl)

pub waiting_snapshots_are_unrefused : WaitingSnapshotsAreUnrefused
waiting_snapshots_are_unrefused config servers clients w r =
    (reached_here (λ m. HasLog m × AreWaiting m)
    (record {
      new = λ c n. ((new_issued c n, new_logged IsFoundCounts IsCountedLog counts_kept c n), λ up. record { unrefused = tt; apart = tt });
      steps = λ m moment i choice h. (
        (step_issued m moment i choice h.0.0, step_logged IsFoundCounts IsCountedLog counts_kept m moment i choice h.0.1),
        step_waits m moment i choice h.0 h.1,
      );
      restarts = λ m moment choice h. (
        (opens_issued m moment choice choice.ending h.0.0, opens_logged IsFoundCounts IsCountedLog counts_kept m moment choice choice.ending h.0.0 h.0.1),
        restart_waits m moment choice,
      );
    }) config servers clients w r).1
