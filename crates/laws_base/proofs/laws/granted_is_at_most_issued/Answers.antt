use Rattle.laws_base.proofs.GrantedIssued.{granted_is_at_most_issued}
use Rattle.laws_base.proofs.laws.granted_is_at_most_issued.Goals as goal

pub returns : goal.returns
returns c = granted_is_at_most_issued
