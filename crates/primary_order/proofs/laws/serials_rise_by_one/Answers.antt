use Rattle.primary_order.proofs.Serials.{rise_by_one}
use Rattle.primary_order.proofs.laws.serials_rise_by_one.Goals as goal

pub returns : goal.returns
returns c = rise_by_one
