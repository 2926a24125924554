use Rattle.laws_machine.proofs.OverRounds.{steps_keep_rounds}
use Rattle.laws_machine.proofs.whole_steps.steps_keep_rounds.Goals as goal

pub returns : goal.returns
returns c = steps_keep_rounds
