use Rattle.laws_machine.proofs.AskedParts.{records_are_placed_as_few}
use Rattle.laws_machine.proofs.bounded_calls.records_are_placed_as_few.Goals as goal

pub returns : goal.returns
returns c = records_are_placed_as_few
