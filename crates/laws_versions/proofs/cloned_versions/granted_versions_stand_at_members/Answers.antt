use Rattle.laws_versions.proofs.ClonedVersions.{granted_versions_stand_at_members}
use Rattle.laws_versions.proofs.cloned_versions.granted_versions_stand_at_members.Goals as goal

pub returns : goal.returns
returns c = granted_versions_stand_at_members
