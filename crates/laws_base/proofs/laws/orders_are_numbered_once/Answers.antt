use Rattle.laws_base.proofs.OrdersOnce.{orders_are_numbered_once}
use Rattle.laws_base.proofs.laws.orders_are_numbered_once.Goals as goal

pub returns : goal.returns
returns c = orders_are_numbered_once
