use Rattle.laws_base.proofs.LeasesTold.{versions_have_one_primary}
use Rattle.laws_base.proofs.laws.versions_have_one_primary.Goals as goal

pub returns : goal.returns
returns c = versions_have_one_primary
