use Rattle.relaxed_file.proofs.NamesGo.{names_go_by_calls}
use Rattle.relaxed_file.proofs.laws.names_go_by_calls.Goals as goal

pub returns : goal.returns
returns c = names_go_by_calls
