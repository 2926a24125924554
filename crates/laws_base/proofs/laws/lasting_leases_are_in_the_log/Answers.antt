use Rattle.laws_base.proofs.LastingLeases.{lasting_leases_are_in_the_log}
use Rattle.laws_base.proofs.laws.lasting_leases_are_in_the_log.Goals as goal

pub returns : goal.returns
returns c = lasting_leases_are_in_the_log
