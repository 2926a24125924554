use Rattle.laws_base.proofs.LastingLeases.{lasting_leases_are_of_the_master}
use Rattle.laws_base.proofs.laws.lasting_leases_are_of_the_master.Goals as goal

pub returns : goal.returns
returns c = lasting_leases_are_of_the_master
