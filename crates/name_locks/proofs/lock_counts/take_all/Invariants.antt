use Rattle.std.proofs.Common.{take}
use Rattle.name_locks.specs.LockCounts.{TakesAll}
use Rattle.name_locks.proofs.lock_counts.take_all.Given as goal

abbrev pub invariant-loop-lock : goal.invariant-loop-lock
invariant-loop-lock l = TakesAll l.fn.counts l.counts (take l.lock-index l.locks)
