use Rattle.laws_base.proofs.RisingRounds.{lower_leases_are_over}
use Rattle.laws_base.proofs.rising_rounds.lower_leases_are_over.Goals as goal

pub returns : goal.returns
returns c = lower_leases_are_over
