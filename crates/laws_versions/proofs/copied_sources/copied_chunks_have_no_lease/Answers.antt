use Rattle.laws_versions.proofs.CopiedSources.{copied_chunks_have_no_lease}
use Rattle.laws_versions.proofs.copied_sources.copied_chunks_have_no_lease.Goals as goal

pub returns : goal.returns
returns c = copied_chunks_have_no_lease
