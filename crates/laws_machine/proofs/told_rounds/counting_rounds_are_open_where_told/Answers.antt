use Rattle.laws_machine.proofs.ToldRounds.{counting_rounds_are_open_where_told}
use Rattle.laws_machine.proofs.told_rounds.counting_rounds_are_open_where_told.Goals as goal

pub returns : goal.returns
returns c = counting_rounds_are_open_where_told
