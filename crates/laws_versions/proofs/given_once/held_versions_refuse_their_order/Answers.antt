use Rattle.laws_versions.proofs.RefusedOrders.{held_versions_refuse_their_order}
use Rattle.laws_versions.proofs.given_once.held_versions_refuse_their_order.Goals as goal

pub returns : goal.returns
returns c = held_versions_refuse_their_order
