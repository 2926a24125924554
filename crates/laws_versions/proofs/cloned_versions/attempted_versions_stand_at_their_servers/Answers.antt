use Rattle.laws_versions.proofs.ClonedVersions.{attempted_versions_stand_at_their_servers}
use Rattle.laws_versions.proofs.cloned_versions.attempted_versions_stand_at_their_servers.Goals as goal

pub returns : goal.returns
returns c = attempted_versions_stand_at_their_servers
