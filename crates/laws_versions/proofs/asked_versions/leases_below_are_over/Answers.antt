use Rattle.laws_versions.proofs.LeasesBelow.{leases_below_are_over}
use Rattle.laws_versions.proofs.asked_versions.leases_below_are_over.Goals as goal

pub returns : goal.returns
returns c = leases_below_are_over
