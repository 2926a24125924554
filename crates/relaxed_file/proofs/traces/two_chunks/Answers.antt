use Rattle.relaxed_file.proofs.ChunkRuns.{two_chunks_run}
use Rattle.relaxed_file.proofs.traces.two_chunks.Goals as goal

pub returns : goal.returns
returns c = two_chunks_run
