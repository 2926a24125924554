use Rattle.laws_versions.proofs.ClonedVersions.{ordered_versions_were_issued}
use Rattle.laws_versions.proofs.cloned_versions.ordered_versions_were_issued.Goals as goal

pub returns : goal.returns
returns c = ordered_versions_were_issued
