use Rattle.laws_machine.proofs.MasterSteps.{records_are_taken}
use Rattle.laws_machine.proofs.master_steps.records_are_taken.Goals as goal

pub returns : goal.returns
returns c = records_are_taken
