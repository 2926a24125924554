use Rattle.std.proofs.Common.{◌≡◌, drop}
use Rattle.std.specs.FinMap.{empty}
use Rattle.master_waiting.specs.Concerned.{chunks_of_all}
use Rattle.master_waiting.proofs.waiting_concerned.chunks_of_all.Given as goal

-- what is left to put gives what is wanted
abbrev pub invariant-loop-snapshot : goal.invariant-loop-snapshot
invariant-loop-snapshot g l = chunks_of_all l.state (drop l.snapshot-index l.snapshots) l.set ≡ chunks_of_all l.state l.snapshots empty
