use Rattle.std.proofs.Common.{List, ap, ◌∙◌}
use Rattle.std.specs.List.{list_any}
use Rattle.name_locks.specs.Locks.{Lock, sets_clash}
use Rattle.protocol.specs.Master.{PendingSnapshot}
use Rattle.master_waiting.specs.CallLocks.{locks_of_snapshot}
use Rattle.master_waiting.proofs.waiting_list.WaitingSnapshots.are_locked.Goals as goal

pub returns-clause-answer : goal.returns-clause-answer
returns-clause-answer c =
    c.conflicts.ensures.answer
    ∙ ap (λ (all : List Lock). list_any (λ (s : PendingSnapshot). sets_clash (locks_of_snapshot s) all) c.args.self.now) (c.deref.ensures.value ∙ c.in_ok-locks.ensures.locks)
