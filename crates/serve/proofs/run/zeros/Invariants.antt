use Rattle.std.proofs.Common.{◌≡◌, replicate}
use Rattle.serve.proofs.run.zeros.Given as goal

-- so many zeros are there
abbrev pub invariant-loop-made : goal.invariant-loop-made
invariant-loop-made l = l.all.items ≡ replicate l._made 0
