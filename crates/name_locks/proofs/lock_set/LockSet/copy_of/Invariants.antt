use Rattle.std.proofs.Common.{◌≡◌, take}
use Rattle.name_locks.proofs.lock_set.LockSet.copy_of.Given as goal

abbrev pub invariant-loop-lock : goal.invariant-loop-lock
invariant-loop-lock l = l.copies.items ≡ take l.lock-index l.locks
