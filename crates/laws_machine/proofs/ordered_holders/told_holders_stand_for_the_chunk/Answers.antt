use Rattle.laws_machine.proofs.ToldPlaces.{told_holders_stand_for_the_chunk}
use Rattle.laws_machine.proofs.ordered_holders.told_holders_stand_for_the_chunk.Goals as goal

pub returns : goal.returns
returns c = told_holders_stand_for_the_chunk
