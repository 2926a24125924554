use Rattle.machine_names.proofs.Actions.{name_actions_are_taken}
use Rattle.machine_names.proofs.name_projections.name_actions_are_taken.Goals as goal

pub returns : goal.returns
returns c = name_actions_are_taken
