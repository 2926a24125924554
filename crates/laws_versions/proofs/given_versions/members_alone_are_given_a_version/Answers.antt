use Rattle.laws_versions.proofs.GivenVersions.{members_alone_are_given_a_version}
use Rattle.laws_versions.proofs.given_versions.members_alone_are_given_a_version.Goals as goal

pub returns : goal.returns
returns c = members_alone_are_given_a_version
