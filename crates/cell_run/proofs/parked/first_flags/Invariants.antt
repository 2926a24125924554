use Rattle.std.proofs.Common.{◌≡◌, ◌≤◌, ℕ, false}
use Rattle.std.specs.Prelude.{get_or}
use Rattle.cell_run.proofs.parked.first_flags.Given as goal

-- those from here on are down
abbrev pub invariant-loop-before : goal.invariant-loop-before
invariant-loop-before l = (k : ℕ) → l.before ≤ k → get_or l.flags k false ≡ false
