use Rattle.laws_versions.proofs.GrantedSizes.{grants_tell_their_files_sizes}
use Rattle.laws_versions.proofs.told_sizes.grants_tell_their_files_sizes.Goals as goal

pub returns : goal.returns
returns c = grants_tell_their_files_sizes
