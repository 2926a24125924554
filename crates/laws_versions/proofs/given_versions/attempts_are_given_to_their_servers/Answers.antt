use Rattle.laws_versions.proofs.GivenVersions.{attempts_are_given_to_their_servers}
use Rattle.laws_versions.proofs.given_versions.attempts_are_given_to_their_servers.Goals as goal

pub returns : goal.returns
returns c = attempts_are_given_to_their_servers
