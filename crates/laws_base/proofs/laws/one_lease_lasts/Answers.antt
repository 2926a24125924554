use Rattle.laws_base.proofs.LastingLeases.{one_lease_lasts}
use Rattle.laws_base.proofs.laws.one_lease_lasts.Goals as goal

pub returns : goal.returns
returns c = one_lease_lasts
