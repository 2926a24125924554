use Rattle.laws_machine.proofs.BoundedCalls.{parts_have_few_entries}
use Rattle.laws_machine.proofs.bounded_calls.parts_have_few_entries.Goals as goal

pub returns : goal.returns
returns c = parts_have_few_entries
