use Rattle.laws_versions.proofs.RaisedVersions.{raises_skip_no_grant}
use Rattle.laws_versions.proofs.raised_versions.raises_skip_no_grant.Goals as goal

pub returns : goal.returns
returns c = raises_skip_no_grant
