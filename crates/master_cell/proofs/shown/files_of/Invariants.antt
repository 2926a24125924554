use Rattle.std.proofs.Common.{◌≡◌, ℕ}
use Rattle.std.specs.FinMap.{get}
use Rattle.master_cell.proofs.Copying.{below}
use Rattle.master_cell.proofs.shown.files_of.Given as goal

abbrev pub invariant-loop-number : goal.invariant-loop-number
invariant-loop-number l = (q : ℕ) → get l.files q ≡ below l.table.table.files l.number q
