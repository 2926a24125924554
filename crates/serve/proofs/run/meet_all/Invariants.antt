use Rattle.std.proofs.Common.{◌≡◌, ◌<◌, ℕ, Some}
use Rattle.std.specs.Prelude.{slice_get}
use Rattle.serve.specs.Printing.{Stand, IsPrintedOf, MeetsEach}
use Rattle.serve.proofs.run.meet_all.Given as goal

-- the first ones
abbrev pub invariant-loop-before : goal.invariant-loop-before
invariant-loop-before g l = record {
  printed : (k : ℕ) (p : Stand) → k < l.before → slice_get l.fn.printed k ≡ Some p → IsPrintedOf g.S.Serving.of p;
  meet : (k : ℕ) (p : Stand) → k < l.before → slice_get l.fn.printed k ≡ Some p → MeetsEach l.fn.printed k;
}
