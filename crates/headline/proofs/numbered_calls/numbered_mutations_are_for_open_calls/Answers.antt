use Rattle.headline.proofs.NumberedCalls.{numbered_mutations_are_for_open_calls}
use Rattle.headline.proofs.numbered_calls.numbered_mutations_are_for_open_calls.Goals as goal

pub returns : goal.returns
returns c = numbered_mutations_are_for_open_calls
