use Rattle.std.proofs.Common.{◌≡◌, ◌≤◌, length}
use Rattle.rereplicate.proofs.Choosing.{among}
use Rattle.rereplicate.proofs.servers.count_current.Given as goal

abbrev pub invariant-loop-index : goal.invariant-loop-index
invariant-loop-index g l = (l.count ≡ length (among (g.H.Holders.servers l.holders) l.handle.0 l.chunk l.index)) × (l.count ≤ l.index)
