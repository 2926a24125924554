use Rattle.laws_versions.proofs.OneSizes.{told_shapes_have_the_granted_size}
use Rattle.laws_versions.proofs.told_sizes.told_shapes_have_the_granted_size.Goals as goal

pub returns : goal.returns
returns c = told_shapes_have_the_granted_size
