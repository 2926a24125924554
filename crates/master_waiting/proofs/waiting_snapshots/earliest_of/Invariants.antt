use Rattle.std.proofs.Common.{◌≡◌, true, take}
use Rattle.master_waiting.specs.Due.{are_due_from}
use Rattle.master_waiting.proofs.waiting_snapshots.earliest_of.Given as goal

-- none so far is due before
abbrev pub invariant-loop-snapshot : goal.invariant-loop-snapshot
invariant-loop-snapshot l = are_due_from l.earliest (take l.snapshot-index l.snapshots) ≡ true
