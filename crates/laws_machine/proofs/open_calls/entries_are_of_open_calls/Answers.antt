use Rattle.laws_machine.proofs.OpenEntries.{entries_are_of_open_calls}
use Rattle.laws_machine.proofs.open_calls.entries_are_of_open_calls.Goals as goal

pub returns : goal.returns
returns c = entries_are_of_open_calls
