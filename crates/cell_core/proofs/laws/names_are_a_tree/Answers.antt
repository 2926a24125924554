use Rattle.cell_core.proofs.CellLaws.{has_tree_of_names}
use Rattle.cell_core.proofs.laws.names_are_a_tree.Goals as goal

pub returns : goal.returns
returns c = has_tree_of_names
