use Rattle.laws_machine.proofs.WholeStops.{stops_are_taken}
use Rattle.laws_machine.proofs.whole_steps.stops_are_taken.Goals as goal

pub returns : goal.returns
returns c = stops_are_taken
