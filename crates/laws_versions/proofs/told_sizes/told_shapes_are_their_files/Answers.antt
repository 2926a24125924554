use Rattle.laws_versions.proofs.GrantedSizes.{told_shapes_are_their_files}
use Rattle.laws_versions.proofs.told_sizes.told_shapes_are_their_files.Goals as goal

pub returns : goal.returns
returns c = told_shapes_are_their_files
