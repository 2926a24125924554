use Rattle.relaxed_file.proofs.DeletionRun.{deletion_run}
use Rattle.relaxed_file.proofs.traces.deletion.Goals as goal

pub returns : goal.returns
returns c = deletion_run
