use Rattle.laws_machine.proofs.ChunksBeside.{other_events_keep_chunks_beside}
use Rattle.laws_machine.proofs.chunks_beside.other_events_keep_chunks_beside.Goals as goal

pub returns : goal.returns
returns c = other_events_keep_chunks_beside
