use Rattle.laws_machine.proofs.ChunksBeside.{new_chunks_are_beside}
use Rattle.laws_machine.proofs.chunks_beside.new_chunks_are_beside.Goals as goal

pub returns : goal.returns
returns c = new_chunks_are_beside
