use Rattle.laws_versions.proofs.LawfulOrders.{orders_are_lawful}
use Rattle.laws_versions.proofs.lawful_orders.orders_are_lawful.Goals as goal

pub returns : goal.returns
returns c = orders_are_lawful
