use Rattle.laws_versions.proofs.UsedGrants.{entries_are_of_used_grants}
use Rattle.laws_versions.proofs.empty_grants.entries_are_of_used_grants.Goals as goal

pub returns : goal.returns
returns c = entries_are_of_used_grants
