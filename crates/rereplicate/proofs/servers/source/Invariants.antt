use Rattle.std.proofs.Common.{◌≡◌, option_map}
use Rattle.rereplicate.specs.Servers.{held_version}
use Rattle.rereplicate.proofs.Choosing.{source_among}
use Rattle.rereplicate.proofs.servers.source.Given as goal

abbrev pub invariant-loop-index : goal.invariant-loop-index
invariant-loop-index g l = l.found ≡ option_map held_version (source_among (g.H.Holders.servers l.holders) l.handle.0 l.chunk l.index)
