use Rattle.laws_machine.proofs.OverRounds.{rounds_that_end_stay_over}
use Rattle.laws_machine.proofs.whole_steps.rounds_that_end_stay_over.Goals as goal

pub returns : goal.returns
returns c = rounds_that_end_stay_over
