use Rattle.laws_versions.proofs.GivenOnce.{clones_follow_their_versions}
use Rattle.laws_versions.proofs.given_once.clones_follow_their_versions.Goals as goal

pub returns : goal.returns
returns c = clones_follow_their_versions
