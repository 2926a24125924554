use Rattle.laws_versions.proofs.OneSizes.{copies_have_their_sources_size}
use Rattle.laws_versions.proofs.told_sizes.copies_have_their_sources_size.Goals as goal

pub returns : goal.returns
returns c = copies_have_their_sources_size
