use Rattle.laws_versions.proofs.ClonedVersions.{replicas_are_of_issued_versions}
use Rattle.laws_versions.proofs.cloned_versions.replicas_are_of_issued_versions.Goals as goal

pub returns : goal.returns
returns c = replicas_are_of_issued_versions
