use Rattle.laws_base.proofs.CountingLeases.{counting_leases_have_not_ended}
use Rattle.laws_base.proofs.laws.counting_leases_have_not_ended.Goals as goal

pub returns : goal.returns
returns c = counting_leases_have_not_ended
