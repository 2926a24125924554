use Rattle.laws_names.proofs.NameSteps.{full_names_are_found}
use Rattle.laws_names.proofs.name_steps.full_names_are_found.Goals as goal

pub returns : goal.returns
returns c = full_names_are_found
