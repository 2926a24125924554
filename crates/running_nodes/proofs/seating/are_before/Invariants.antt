use Rattle.std.proofs.Common.{◌≡◌, ◌<◌, ◌≤◌, ◌+◌, ℕ, false}
use Rattle.std.specs.Prelude.{get_or}
use Rattle.running_nodes.proofs.seating.are_before.Given as goal

-- so far those from the number on are down
abbrev pub invariant-loop-place : goal.invariant-loop-place
invariant-loop-place l = (k : ℕ) → k < l.place → l.fn.number ≤ k + 1 → get_or l.fn.flags k false ≡ false
