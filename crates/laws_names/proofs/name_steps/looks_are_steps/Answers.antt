use Rattle.laws_names.proofs.NameSteps.{looks_are_steps}
use Rattle.laws_names.proofs.name_steps.looks_are_steps.Goals as goal

pub returns : goal.returns
returns c = looks_are_steps
