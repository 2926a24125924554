use Rattle.laws_machine.proofs.OpenRounds.{rounds_are_open_at_their_place}
use Rattle.laws_machine.proofs.open_rounds.rounds_are_open_at_their_place.Goals as goal

pub returns : goal.returns
returns c = rounds_are_open_at_their_place
