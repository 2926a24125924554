use Rattle.relaxed_file.proofs.ChunkRuns.{second_try_run}
use Rattle.relaxed_file.proofs.traces.second_try.Goals as goal

pub returns : goal.returns
returns c = second_try_run
