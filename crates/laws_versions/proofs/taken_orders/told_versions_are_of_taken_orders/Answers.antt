use Rattle.laws_versions.proofs.ToldOrders.{told_versions_are_of_taken_orders}
use Rattle.laws_versions.proofs.taken_orders.told_versions_are_of_taken_orders.Goals as goal

pub returns : goal.returns
returns c = told_versions_are_of_taken_orders
