use Rattle.laws_machine.proofs.StoppedSteps.{logs_within_steps_end_leases}
use Rattle.laws_machine.proofs.rounds.logs_within_steps_end_leases.Goals as goal

pub returns : goal.returns
returns c = logs_within_steps_end_leases
