use Rattle.laws_machine.proofs.OpenRounds.{chunks_of_one_owner_stand_once}
use Rattle.laws_machine.proofs.open_rounds.chunks_of_one_owner_stand_once.Goals as goal

pub returns : goal.returns
returns c = chunks_of_one_owner_stand_once
