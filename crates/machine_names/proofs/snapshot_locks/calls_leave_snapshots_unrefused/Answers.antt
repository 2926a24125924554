use Rattle.machine_names.proofs.Unrefused.{calls_leave_snapshots_unrefused}
use Rattle.machine_names.proofs.snapshot_locks.calls_leave_snapshots_unrefused.Goals as goal

pub returns : goal.returns
returns c = calls_leave_snapshots_unrefused
