use Rattle.laws_machine.proofs.WholeStops.{ends_are_reached}
use Rattle.laws_machine.proofs.whole_steps.ends_are_reached.Goals as goal

pub returns : goal.returns
returns c = ends_are_reached
