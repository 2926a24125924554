use Rattle.laws_machine.proofs.EndedRounds.{ended_rounds_are_over}
use Rattle.laws_machine.proofs.rounds.ended_rounds_are_over.Goals as goal

pub returns : goal.returns
returns c = ended_rounds_are_over
