use Rattle.relaxed_file.proofs.NotRuns.{no_shared_offset}
use Rattle.relaxed_file.proofs.not_runs.no_shared_offset.Goals as goal

pub returns : goal.returns
returns c = no_shared_offset
