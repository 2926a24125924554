use Rattle.laws_versions.proofs.ClonedVersions.{said_versions_were_issued}
use Rattle.laws_versions.proofs.cloned_versions.said_versions_were_issued.Goals as goal

pub returns : goal.returns
returns c = said_versions_were_issued
