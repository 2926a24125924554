use Rattle.std.proofs.Common.{◌≡◌, ◌<◌, ℕ, Some}
use Rattle.std.specs.Prelude.{slice_get}
use mathlib.Core.List.{IsPrefix}
use Rattle.cell_journal.specs.WholeHistories.{whole_of}
use Rattle.serve.specs.Printing.{Stand}
use Rattle.serve.proofs.run.agree_all.Given as goal

-- what was seen of the first ones begins the cell's history
abbrev pub invariant-loop-before : goal.invariant-loop-before
invariant-loop-before g l = (k : ℕ) (p : Stand) → k < l.before → slice_get l.fn.printed k ≡ Some p → IsPrefix p.seen.items (whole_of l.fn.journal.now)
