use Rattle.laws_versions.proofs.RefusedOrders.{pending_clones_refuse_their_order}
use Rattle.laws_versions.proofs.given_once.pending_clones_refuse_their_order.Goals as goal

pub returns : goal.returns
returns c = pending_clones_refuse_their_order
