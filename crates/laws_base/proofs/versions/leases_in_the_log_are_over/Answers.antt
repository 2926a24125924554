use Rattle.laws_base.proofs.EndedLeases.{leases_in_the_log_are_over}
use Rattle.laws_base.proofs.versions.leases_in_the_log_are_over.Goals as goal

pub returns : goal.returns
returns c = leases_in_the_log_are_over
