use Rattle.std.proofs.Common.{◌≡◌, ◌≤◌, ℕ, false}
use Rattle.std.specs.Prelude.{get_or}
use Rattle.cell_run.proofs.parked.without_stays.Given as goal

-- those from there on are down
abbrev pub invariant-loop-seat : goal.invariant-loop-seat
invariant-loop-seat l = (k : ℕ) → l.fn.count ≤ k → get_or l.left k false ≡ false
