use Rattle.laws_base.proofs.LeasesTold.{leases_are_told}
use Rattle.laws_base.proofs.laws.leases_are_told.Goals as goal

pub returns : goal.returns
returns c = leases_are_told
