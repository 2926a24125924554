use Rattle.relaxed_file.proofs.NamesTree.{names_stay_a_tree}
use Rattle.relaxed_file.proofs.laws.names_stay_a_tree.Goals as goal

pub returns : goal.returns
returns c = names_stay_a_tree
