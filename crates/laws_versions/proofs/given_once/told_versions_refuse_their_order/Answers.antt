use Rattle.laws_versions.proofs.RefusedOrders.{told_versions_refuse_their_order}
use Rattle.laws_versions.proofs.given_once.told_versions_refuse_their_order.Goals as goal

pub returns : goal.returns
returns c = told_versions_refuse_their_order
