use Rattle.laws_versions.proofs.FirstVersions.{first_versions_skip_no_grant}
use Rattle.laws_versions.proofs.first_versions.first_versions_skip_no_grant.Goals as goal

pub returns : goal.returns
returns c = first_versions_skip_no_grant
