use Rattle.laws_machine.proofs.WholeRestarts.{restarts_keep_rounds}
use Rattle.laws_machine.proofs.whole_steps.restarts_keep_rounds.Goals as goal

pub returns : goal.returns
returns c = restarts_keep_rounds
