use Rattle.relaxed_file.proofs.NamesKept.{names_are_not_taken_over}
use Rattle.relaxed_file.proofs.laws.names_are_not_taken_over.Goals as goal

pub returns : goal.returns
returns c = names_are_not_taken_over
