use Rattle.laws_machine.proofs.WholeLogs.{restarts_are_taken}
use Rattle.laws_machine.proofs.whole_steps.restarts_are_taken.Goals as goal

pub returns : goal.returns
returns c = restarts_are_taken
