use Rattle.laws_machine.proofs.EndedRounds.{open_rounds_have_one_spot}
use Rattle.laws_machine.proofs.rounds.open_rounds_have_one_spot.Goals as goal

pub returns : goal.returns
returns c = open_rounds_have_one_spot
