use Rattle.primary_order.proofs.Numbers.{at_most_once}
use Rattle.primary_order.proofs.laws.new_at_most_once.Goals as goal

pub returns : goal.returns
returns c = at_most_once
