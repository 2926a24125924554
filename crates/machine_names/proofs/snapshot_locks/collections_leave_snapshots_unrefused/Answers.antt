use Rattle.machine_names.proofs.Unrefused.{collections_leave_snapshots_unrefused}
use Rattle.machine_names.proofs.snapshot_locks.collections_leave_snapshots_unrefused.Goals as goal

pub returns : goal.returns
returns c = collections_leave_snapshots_unrefused
