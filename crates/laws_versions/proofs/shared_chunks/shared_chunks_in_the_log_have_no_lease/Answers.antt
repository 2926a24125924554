use Rattle.laws_versions.proofs.SharedChunks.{shared_chunks_in_the_log_have_no_lease}
use Rattle.laws_versions.proofs.shared_chunks.shared_chunks_in_the_log_have_no_lease.Goals as goal

pub returns : goal.returns
returns c = shared_chunks_in_the_log_have_no_lease
