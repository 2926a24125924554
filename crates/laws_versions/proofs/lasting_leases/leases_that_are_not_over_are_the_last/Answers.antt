use Rattle.laws_versions.proofs.LastingLeases.{leases_that_are_not_over_are_the_last}
use Rattle.laws_versions.proofs.lasting_leases.leases_that_are_not_over_are_the_last.Goals as goal

pub returns : goal.returns
returns c = leases_that_are_not_over_are_the_last
