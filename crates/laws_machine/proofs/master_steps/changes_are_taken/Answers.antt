use Rattle.laws_machine.proofs.MasterSteps.{changes_are_taken}
use Rattle.laws_machine.proofs.master_steps.changes_are_taken.Goals as goal

pub returns : goal.returns
returns c = changes_are_taken
