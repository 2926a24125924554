use Rattle.laws_versions.proofs.ClonedVersions.{clones_are_of_closed_versions}
use Rattle.laws_versions.proofs.cloned_versions.clones_are_of_closed_versions.Goals as goal

pub returns : goal.returns
returns c = clones_are_of_closed_versions
