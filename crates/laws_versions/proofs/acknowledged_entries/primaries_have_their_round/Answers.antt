use Rattle.laws_versions.proofs.JointRounds.{primaries_have_their_round}
use Rattle.laws_versions.proofs.acknowledged_entries.primaries_have_their_round.Goals as goal

pub returns : goal.returns
returns c = primaries_have_their_round
