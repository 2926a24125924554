use Rattle.std.proofs.Common.{◌≡◌, drop}
use Rattle.std.specs.FinMap.{empty}
use Rattle.master_waiting.specs.Concerned.{files_of_all}
use Rattle.master_waiting.proofs.waiting_concerned.files_of_all.Given as goal

-- what is left to put gives what is wanted
abbrev pub invariant-loop-snapshot : goal.invariant-loop-snapshot
invariant-loop-snapshot g l = files_of_all l.state (drop l.snapshot-index l.snapshots) l.set ≡ files_of_all l.state l.snapshots empty
