use Rattle.std.proofs.Common.{ap, ◌∙◌}
use Rattle.std.specs.List.{list_any}
use Rattle.name_locks.specs.Locks.{sets_clash}
use Rattle.protocol.specs.Master.{PendingSnapshot}
use Rattle.master_waiting.specs.CallLocks.{locks_of_snapshot}
use Rattle.master_waiting.proofs.Locked.{conflicts_are}
use Rattle.master_waiting.proofs.locked_list.LockedSnapshots.conflicts.Goals as goal

pub returns-clause-answer : goal.returns-clause-answer
returns-clause-answer c =
    let w = c.self.inside in
    c.conflicts.ensures ∙ conflicts_are w.snapshots.items w.tickets.items w.locks c.args.locks.now c.self.invariant
    ∙ ap (list_any (λ (s : PendingSnapshot). sets_clash (locks_of_snapshot s) c.args.locks.now)) c.self.view_is
