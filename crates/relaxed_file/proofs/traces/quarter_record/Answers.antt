use Rattle.relaxed_file.proofs.ChunkRuns.{quarter_record_run}
use Rattle.relaxed_file.proofs.traces.quarter_record.Goals as goal

pub returns : goal.returns
returns c = quarter_record_run
