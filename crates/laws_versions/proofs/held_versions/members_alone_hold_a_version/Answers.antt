use Rattle.laws_versions.proofs.HeldVersions.{members_alone_hold_a_version}
use Rattle.laws_versions.proofs.held_versions.members_alone_hold_a_version.Goals as goal

pub returns : goal.returns
returns c = members_alone_hold_a_version
