use Rattle.laws_machine.proofs.UsedIndexes.{parts_go_to_their_chunk}
use Rattle.laws_machine.proofs.told_indexes.parts_go_to_their_chunk.Goals as goal

pub returns : goal.returns
returns c = parts_go_to_their_chunk
