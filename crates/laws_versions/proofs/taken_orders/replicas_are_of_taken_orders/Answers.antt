use Rattle.laws_versions.proofs.TakenOrders.{replicas_are_of_taken_orders}
use Rattle.laws_versions.proofs.taken_orders.replicas_are_of_taken_orders.Goals as goal

pub returns : goal.returns
returns c = replicas_are_of_taken_orders
