use Rattle.laws_versions.proofs.ReplacedChunks.{replaced_chunks_have_no_lease}
use Rattle.laws_versions.proofs.replaced_chunks.replaced_chunks_have_no_lease.Goals as goal

pub returns : goal.returns
returns c = replaced_chunks_have_no_lease
