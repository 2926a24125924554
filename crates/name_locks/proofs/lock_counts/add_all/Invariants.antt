use Rattle.std.proofs.Common.{◌≡◌, take}
use Rattle.name_locks.specs.LockCounts.{AddsAll}
use Rattle.name_locks.proofs.lock_counts.add_all.Given as goal

abbrev pub invariant-loop-lock : goal.invariant-loop-lock
invariant-loop-lock l = (l.added ≡ l.lock-index) × AddsAll l.fn.counts l.counts (take l.lock-index l.locks)
