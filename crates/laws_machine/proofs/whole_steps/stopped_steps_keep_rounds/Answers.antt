use Rattle.laws_machine.proofs.OverRounds.{stopped_steps_keep_rounds}
use Rattle.laws_machine.proofs.whole_steps.stopped_steps_keep_rounds.Goals as goal

pub returns : goal.returns
returns c = stopped_steps_keep_rounds
