use Rattle.std.proofs.Common.{◌≡◌, ℕ, false, ◌<◌, None}
use Rattle.std.specs.FinMap.{get}
use Rattle.rereplicate.specs.Whole.{lacks_at}
use Rattle.rereplicate.proofs.whole.lacking.Given as goal

-- none of the chunks so far lacks replicas but those that were found
abbrev pub invariant-loop-number : goal.invariant-loop-number
invariant-loop-number g l = (q : ℕ) → q < l.number → get l.found q ≡ None → lacks_at (g.H.Holders.servers l.holders) l.table.table.chunks q ≡ false
