use Rattle.laws_base.proofs.RisingRounds.{rounds_of_orders_rise}
use Rattle.laws_base.proofs.rising_rounds.rounds_of_orders_rise.Goals as goal

pub returns : goal.returns
returns c = rounds_of_orders_rise
