use Rattle.laws_machine.proofs.OverRounds.{rounds_that_end_are_over}
use Rattle.laws_machine.proofs.whole_steps.rounds_that_end_are_over.Goals as goal

pub returns : goal.returns
returns c = rounds_that_end_are_over
