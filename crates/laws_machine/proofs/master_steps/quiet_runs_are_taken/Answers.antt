use Rattle.laws_machine.proofs.MasterNames.{quiet_runs_are_taken}
use Rattle.laws_machine.proofs.master_steps.quiet_runs_are_taken.Goals as goal

pub returns : goal.returns
returns c = quiet_runs_are_taken
