use Rattle.laws_machine.proofs.ChunksBeside.{same_files_keep_chunks_beside}
use Rattle.laws_machine.proofs.chunks_beside.same_files_keep_chunks_beside.Goals as goal

pub returns : goal.returns
returns c = same_files_keep_chunks_beside
