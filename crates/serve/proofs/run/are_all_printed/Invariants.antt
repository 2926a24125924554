use Rattle.std.proofs.Common.{◌≡◌, ◌<◌, ℕ, Some}
use Rattle.std.specs.Prelude.{slice_get}
use Rattle.serve.specs.Printing.{Stand}
use Rattle.serve.proofs.run.are_all_printed.Given as goal

-- of each of the first ones as many answers were printed
abbrev pub invariant-loop-before : goal.invariant-loop-before
invariant-loop-before g l = (k : ℕ) (p : Stand) → k < l.before → slice_get l.fn.printed k ≡ Some p → (count : ℕ) → slice_get l.fn.asked k ≡ Some count → p.count ≡ count
