use Rattle.laws_machine.proofs.ServerSteps.{other_events_are_taken}
use Rattle.laws_machine.proofs.server_steps.other_events_are_taken.Goals as goal

pub returns : goal.returns
returns c = other_events_are_taken
