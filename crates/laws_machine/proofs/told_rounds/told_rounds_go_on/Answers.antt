use Rattle.laws_machine.proofs.ToldRounds.{told_rounds_go_on}
use Rattle.laws_machine.proofs.told_rounds.told_rounds_go_on.Goals as goal

pub returns : goal.returns
returns c = told_rounds_go_on
