use Rattle.laws_versions.proofs.IssuedVersions.{issued_chunks_have_no_lease}
use Rattle.laws_versions.proofs.issued_versions.issued_chunks_have_no_lease.Goals as goal

pub returns : goal.returns
returns c = issued_chunks_have_no_lease
