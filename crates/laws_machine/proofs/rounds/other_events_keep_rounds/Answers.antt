use Rattle.laws_machine.proofs.EndedRounds.{other_events_keep_rounds}
use Rattle.laws_machine.proofs.rounds.other_events_keep_rounds.Goals as goal

pub returns : goal.returns
returns c = other_events_keep_rounds
