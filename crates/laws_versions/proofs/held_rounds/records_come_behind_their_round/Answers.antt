use Rattle.laws_versions.proofs.HeldRounds.{records_come_behind_their_round}
use Rattle.laws_versions.proofs.held_rounds.records_come_behind_their_round.Goals as goal

pub returns : goal.returns
returns c = records_come_behind_their_round
