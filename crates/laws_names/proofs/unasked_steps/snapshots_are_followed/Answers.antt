use Rattle.laws_names.proofs.Unasked.{snapshots_are_followed}
use Rattle.laws_names.proofs.unasked_steps.snapshots_are_followed.Goals as goal

pub returns : goal.returns
returns c = snapshots_are_followed
