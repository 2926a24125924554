use Rattle.std.proofs.Common.{◌≡◌, take}
use Rattle.master_waiting.proofs.waiting_snapshots.copies_of.Given as goal

-- those so far are copied
abbrev pub invariant-loop-snapshot : goal.invariant-loop-snapshot
invariant-loop-snapshot l = l.copies.items ≡ take l.snapshot-index l.snapshots
