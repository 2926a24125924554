use Rattle.laws_versions.proofs.HeldVersions.{attempts_alone_hold_their_version}
use Rattle.laws_versions.proofs.held_versions.attempts_alone_hold_their_version.Goals as goal

pub returns : goal.returns
returns c = attempts_alone_hold_their_version
