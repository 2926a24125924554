use Rattle.laws_machine.proofs.OpenEntries.{entries_were_asked_for_in_their_call}
use Rattle.laws_machine.proofs.open_calls.entries_were_asked_for_in_their_call.Goals as goal

pub returns : goal.returns
returns c = entries_were_asked_for_in_their_call
