use Rattle.laws_names.proofs.Ends.{answers_end_calls}
use Rattle.laws_names.proofs.name_clients.answers_end_calls.Goals as goal

pub returns : goal.returns
returns c = answers_end_calls
