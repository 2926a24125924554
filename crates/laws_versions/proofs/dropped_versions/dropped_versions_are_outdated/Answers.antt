use Rattle.laws_versions.proofs.DroppedVersions.{dropped_versions_are_outdated}
use Rattle.laws_versions.proofs.dropped_versions.dropped_versions_are_outdated.Goals as goal

pub returns : goal.returns
returns c = dropped_versions_are_outdated
