use Rattle.laws_machine.proofs.BoundedCalls.{placings_are_of_few_entries}
use Rattle.laws_machine.proofs.bounded_calls.placings_are_of_few_entries.Goals as goal

pub returns : goal.returns
returns c = placings_are_of_few_entries
