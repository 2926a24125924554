use Rattle.laws_machine.proofs.EndedRounds.{each_event_keeps_rounds}
use Rattle.laws_machine.proofs.rounds.each_event_keeps_rounds.Goals as goal

pub returns : goal.returns
returns c = each_event_keeps_rounds
