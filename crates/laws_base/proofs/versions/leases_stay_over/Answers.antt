use Rattle.laws_base.proofs.LeasesStayOver.{leases_stay_over}
use Rattle.laws_base.proofs.versions.leases_stay_over.Goals as goal

pub returns : goal.returns
returns c = leases_stay_over
