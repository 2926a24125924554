use Rattle.laws_base.proofs.EndedLeases.{ended_leases_are_over}
use Rattle.laws_base.proofs.versions.ended_leases_are_over.Goals as goal

pub returns : goal.returns
returns c = ended_leases_are_over
