use Rattle.laws_names.proofs.Unrefused.{waiting_snapshots_are_unrefused}
use Rattle.laws_names.proofs.names_due.waiting_snapshots_are_unrefused.Goals as goal

pub returns : goal.returns
returns c = waiting_snapshots_are_unrefused
