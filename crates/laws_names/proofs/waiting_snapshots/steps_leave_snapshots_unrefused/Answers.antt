use Rattle.laws_names.proofs.WaitingSnapshotsWalk.{steps_leave_snapshots_unrefused}
use Rattle.laws_names.proofs.waiting_snapshots.steps_leave_snapshots_unrefused.Goals as goal

pub returns : goal.returns
returns c = steps_leave_snapshots_unrefused
