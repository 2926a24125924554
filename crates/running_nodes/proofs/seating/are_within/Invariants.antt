use Rattle.std.proofs.Common.{◌≡◌, ◌<◌, ℕ, true, false}
use Rattle.std.specs.Prelude.{get_or}
use Rattle.running_nodes.proofs.seating.are_within.Given as goal

-- so far each stands among those
abbrev pub invariant-loop-place : goal.invariant-loop-place
invariant-loop-place l = (k : ℕ) → k < l.place → get_or l.fn.flags k false ≡ true → get_or l.fn.all k false ≡ true
