use Rattle.laws_machine.proofs.OverRounds.{masters_events_are_steps}
use Rattle.laws_machine.proofs.whole_steps.masters_events_are_steps.Goals as goal

pub returns : goal.returns
returns c = masters_events_are_steps
