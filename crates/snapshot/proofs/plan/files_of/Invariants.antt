use Rattle.std.proofs.Common.{◌≡◌, ◌++◌, drop}
use Rattle.snapshot.specs.Copies.{files_of}
use Rattle.snapshot.proofs.plan.files_of.Given as goal

-- what is left completes the list
abbrev pub invariant-loop-copy : goal.invariant-loop-copy
invariant-loop-copy l = l.files.items ++ files_of (drop l.copy-index l.copies) ≡ files_of l.copies
