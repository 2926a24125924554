use Rattle.std.proofs.Common.{◌≡◌, ◌<◌, ◌≤◌, ℕ, Some, length}
use Rattle.std.specs.Prelude.{slice_get}
use mathlib.Core.List.{IsPrefix}
use Rattle.serve.specs.Printing.{Stand}
use Rattle.serve.proofs.run.meet_each.Given as goal

-- it meets the first ones
abbrev pub invariant-loop-before : goal.invariant-loop-before
invariant-loop-before g l =
    (k : ℕ) (q : Stand) → k < l.before → slice_get l.fn.printed k ≡ Some q → (p : Stand) → slice_get l.fn.printed l.fn.one ≡ Some p → length p.seen.items ≤ length q.seen.items → IsPrefix p.seen.items q.seen.items
