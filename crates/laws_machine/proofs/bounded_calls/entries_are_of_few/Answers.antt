use Rattle.laws_machine.proofs.BoundedCalls.{entries_are_of_few}
use Rattle.laws_machine.proofs.bounded_calls.entries_are_of_few.Goals as goal

pub returns : goal.returns
returns c = entries_are_of_few
