use Rattle.relaxed_file.proofs.ChunkRuns.{empty_file_run}
use Rattle.relaxed_file.proofs.traces.empty_file.Goals as goal

pub returns : goal.returns
returns c = empty_file_run
