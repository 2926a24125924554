use Rattle.relaxed_file.proofs.SnapshotRun.{snapshot_run}
use Rattle.relaxed_file.proofs.traces.snapshot.Goals as goal

pub returns : goal.returns
returns c = snapshot_run
