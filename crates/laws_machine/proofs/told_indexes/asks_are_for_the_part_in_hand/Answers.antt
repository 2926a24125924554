use Rattle.laws_machine.proofs.AskedIndexes.{asks_are_for_the_part_in_hand}
use Rattle.laws_machine.proofs.told_indexes.asks_are_for_the_part_in_hand.Goals as goal

pub returns : goal.returns
returns c = asks_are_for_the_part_in_hand
