use Rattle.laws_base.proofs.EndedLeases.{over_leases_number_nothing}
use Rattle.laws_base.proofs.versions.over_leases_number_nothing.Goals as goal

pub returns : goal.returns
returns c = over_leases_number_nothing
