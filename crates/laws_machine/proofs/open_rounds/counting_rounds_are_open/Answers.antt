use Rattle.laws_machine.proofs.OpenRounds.{counting_rounds_are_open}
use Rattle.laws_machine.proofs.open_rounds.counting_rounds_are_open.Goals as goal

pub returns : goal.returns
returns c = counting_rounds_are_open
