use Rattle.laws_versions.proofs.AnsweredOrders.{recorded_orders_are_refused}
use Rattle.laws_versions.proofs.answered_orders.recorded_orders_are_refused.Goals as goal

pub returns : goal.returns
returns c = recorded_orders_are_refused
