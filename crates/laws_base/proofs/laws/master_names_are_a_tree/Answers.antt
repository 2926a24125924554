use Rattle.laws_base.proofs.NamesLogged.{master_names_are_a_tree}
use Rattle.laws_base.proofs.laws.master_names_are_a_tree.Goals as goal

pub returns : goal.returns
returns c = master_names_are_a_tree
