use Rattle.laws_versions.proofs.ToldSizes.{forwards_tell_the_granted_size}
use Rattle.laws_versions.proofs.told_sizes.forwards_tell_the_granted_size.Goals as goal

pub returns : goal.returns
returns c = forwards_tell_the_granted_size
