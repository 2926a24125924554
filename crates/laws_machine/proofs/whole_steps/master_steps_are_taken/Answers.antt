use Rattle.laws_machine.proofs.WholeSteps.{master_steps_are_taken}
use Rattle.laws_machine.proofs.whole_steps.master_steps_are_taken.Goals as goal

pub returns : goal.returns
returns c = master_steps_are_taken
