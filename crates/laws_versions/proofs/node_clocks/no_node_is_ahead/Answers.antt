use Rattle.laws_versions.proofs.NodeClocks.{no_node_is_ahead}
use Rattle.laws_versions.proofs.node_clocks.no_node_is_ahead.Goals as goal

pub returns : goal.returns
returns c = no_node_is_ahead
