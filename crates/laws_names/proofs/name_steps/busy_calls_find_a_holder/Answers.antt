use Rattle.laws_names.proofs.NameSteps.{busy_calls_find_a_holder}
use Rattle.laws_names.proofs.name_steps.busy_calls_find_a_holder.Goals as goal

pub returns : goal.returns
returns c = busy_calls_find_a_holder
