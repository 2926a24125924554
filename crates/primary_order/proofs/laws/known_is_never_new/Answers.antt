use Rattle.primary_order.proofs.Numbers.{never_new}
use Rattle.primary_order.proofs.laws.known_is_never_new.Goals as goal

pub returns : goal.returns
returns c = never_new
