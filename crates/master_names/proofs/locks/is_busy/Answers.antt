use Rattle.std.proofs.Common.{◌≡◌, ap, subst, ◌∙◌}
use Rattle.std.specs.Prelude.{Option, MatchOption, IsTrue, IsFalse}
use Rattle.std.specs.List.{list_any}
use Rattle.name_locks.specs.Locks.{sets_clash}
use Rattle.protocol.specs.Master.{PendingSnapshot}
use Rattle.master_waiting.specs.CallLocks.{are_paths, locks_of, locks_of_snapshot}
use Rattle.master_plan.specs.Plans.{known}
use Rattle.master_waiting.proofs.Clashes.{busy_is}
use Rattle.master_names.proofs.locks.is_busy.Goals as goal

pub returns-in-Some : goal.returns-in-Some
returns-in-Some g c paths =
    let m = known c.args.plan.now in
    let told = c.args.call.now in
    let locks = subst (λ o. MatchOption o (IsFalse (are_paths told)) (λ all. IsTrue (are_paths told) × (all.items ≡ locks_of told))) c.in-Some.is c.in_ok-locks.ensures in
    c.conflicts.ensures.answer
    ∙ ap (λ all. list_any (λ (s : PendingSnapshot). sets_clash (locks_of_snapshot s) all) m.snapshots) (c.deref.ensures.value ∙ locks.1)
    ∙ busy_is m told m.snapshots c.conflicts.ensures.paths paths
