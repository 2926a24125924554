use Rattle.laws_names.proofs.Explained.{names_are_explained}
use Rattle.laws_names.proofs.explained_names.names_are_explained.Goals as goal

pub returns : goal.returns
returns c = names_are_explained
