use Rattle.std.proofs.Common.{◌≡◌, ℕ, false, None}
use Rattle.std.specs.Ordering.{nat_cmp}
use Rattle.std.specs.FinMap.{get}
use Rattle.std.specs.FinMap.Entries.{find}
use Rattle.rereplicate.specs.Whole.{lacks_at}
use Rattle.rereplicate.proofs.whole.still_lacking.Given as goal

-- no chunk lacks replicas but those that were found, and those that are left
abbrev pub invariant-loop-number : goal.invariant-loop-number
invariant-loop-number g l = (q : ℕ) → get l.found q ≡ None → find nat_cmp q l.number-iterator ≡ None → lacks_at (g.H.Holders.servers l.holders) l.table.table.chunks q ≡ false
