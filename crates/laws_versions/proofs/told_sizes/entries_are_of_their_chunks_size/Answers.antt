use Rattle.laws_versions.proofs.OneSizes.{entries_are_of_their_chunks_size}
use Rattle.laws_versions.proofs.told_sizes.entries_are_of_their_chunks_size.Goals as goal

pub returns : goal.returns
returns c = entries_are_of_their_chunks_size
