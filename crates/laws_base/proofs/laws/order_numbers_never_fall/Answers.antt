use Rattle.laws_base.proofs.RisingOrders.{order_numbers_never_fall}
use Rattle.laws_base.proofs.laws.order_numbers_never_fall.Goals as goal

pub returns : goal.returns
returns c = order_numbers_never_fall
