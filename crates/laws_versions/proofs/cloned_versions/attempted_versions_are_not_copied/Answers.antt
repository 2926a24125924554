use Rattle.laws_versions.proofs.ClonedVersions.{attempted_versions_are_not_copied}
use Rattle.laws_versions.proofs.cloned_versions.attempted_versions_are_not_copied.Goals as goal

pub returns : goal.returns
returns c = attempted_versions_are_not_copied
