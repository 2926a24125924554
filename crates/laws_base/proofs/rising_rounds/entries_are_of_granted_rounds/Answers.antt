use Rattle.laws_base.proofs.RisingRounds.{entries_are_of_granted_rounds}
use Rattle.laws_base.proofs.rising_rounds.entries_are_of_granted_rounds.Goals as goal

pub returns : goal.returns
returns c = entries_are_of_granted_rounds
