use Rattle.machine_names.proofs.Runs.{name_runs_go_on}
use Rattle.machine_names.proofs.name_runs.name_runs_go_on.Goals as goal

pub returns : goal.returns
returns c = name_runs_go_on
