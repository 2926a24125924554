use Rattle.laws_versions.proofs.RefusedOrders.{granted_orders_are_refused}
use Rattle.laws_versions.proofs.given_once.granted_orders_are_refused.Goals as goal

pub returns : goal.returns
returns c = granted_orders_are_refused
