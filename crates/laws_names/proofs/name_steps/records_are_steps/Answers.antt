use Rattle.laws_names.proofs.NameSteps.{records_are_steps, refusals_are_steps}
use Rattle.laws_names.proofs.name_steps.records_are_steps.Goals as goal

pub returns-clause-done : goal.returns-clause-done
returns-clause-done c = records_are_steps

pub returns-clause-refused : goal.returns-clause-refused
returns-clause-refused c = refusals_are_steps
