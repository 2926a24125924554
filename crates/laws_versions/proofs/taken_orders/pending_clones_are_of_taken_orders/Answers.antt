use Rattle.laws_versions.proofs.TakenOrders.{pending_clones_are_of_taken_orders}
use Rattle.laws_versions.proofs.taken_orders.pending_clones_are_of_taken_orders.Goals as goal

pub returns : goal.returns
returns c = pending_clones_are_of_taken_orders
