use Rattle.machine_names.proofs.Seen.{answered_names_came_to_it}
use Rattle.machine_names.proofs.name_traces.answered_names_came_to_it.Goals as goal

pub returns : goal.returns
returns c = answered_names_came_to_it
