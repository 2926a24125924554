use Rattle.laws_versions.proofs.UsedGrants.{numbered_versions_have_used_grants}
use Rattle.laws_versions.proofs.empty_grants.numbered_versions_have_used_grants.Goals as goal

pub returns : goal.returns
returns c = numbered_versions_have_used_grants
