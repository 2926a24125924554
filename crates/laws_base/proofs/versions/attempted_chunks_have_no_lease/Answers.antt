use Rattle.laws_base.proofs.EndedLeases.{attempted_chunks_have_no_lease}
use Rattle.laws_base.proofs.versions.attempted_chunks_have_no_lease.Goals as goal

pub returns : goal.returns
returns c = attempted_chunks_have_no_lease
