use Rattle.laws_versions.proofs.OneSizes.{chunks_have_one_size}
use Rattle.laws_versions.proofs.told_sizes.chunks_have_one_size.Goals as goal

pub returns : goal.returns
returns c = chunks_have_one_size
