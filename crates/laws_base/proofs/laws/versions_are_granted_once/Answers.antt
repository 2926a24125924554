use Rattle.laws_base.proofs.GrantsOnce.{versions_are_granted_once}
use Rattle.laws_base.proofs.laws.versions_are_granted_once.Goals as goal

pub returns : goal.returns
returns c = versions_are_granted_once
