use Rattle.laws_machine.proofs.ChunksBeside.{masters_events_keep_chunks_beside}
use Rattle.laws_machine.proofs.chunks_beside.masters_events_keep_chunks_beside.Goals as goal

pub returns : goal.returns
returns c = masters_events_keep_chunks_beside
