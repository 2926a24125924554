use Rattle.relaxed_file.proofs.ChunkRuns.{padding_run}
use Rattle.relaxed_file.proofs.traces.padding.Goals as goal

pub returns : goal.returns
returns c = padding_run
