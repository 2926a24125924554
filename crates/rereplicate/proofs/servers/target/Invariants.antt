use Rattle.std.proofs.Common.{◌≡◌, option_map}
use Rattle.rereplicate.specs.Servers.{server_id}
use Rattle.rereplicate.proofs.Choosing.{target_among}
use Rattle.rereplicate.proofs.servers.target.Given as goal

abbrev pub invariant-loop-index : goal.invariant-loop-index
invariant-loop-index g l = l.best ≡ option_map server_id (target_among (g.H.Holders.servers l.holders) l.handle.0 l.index)
