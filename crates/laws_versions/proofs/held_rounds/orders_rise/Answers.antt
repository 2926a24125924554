use Rattle.laws_versions.proofs.Rising.{orders_rise}
use Rattle.laws_versions.proofs.held_rounds.orders_rise.Goals as goal

pub returns : goal.returns
returns c = orders_rise
