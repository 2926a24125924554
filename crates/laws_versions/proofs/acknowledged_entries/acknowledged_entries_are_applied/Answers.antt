use Rattle.laws_versions.proofs.JointRounds.{acknowledged_entries_are_applied}
use Rattle.laws_versions.proofs.acknowledged_entries.acknowledged_entries_are_applied.Goals as goal

pub returns : goal.returns
returns c = acknowledged_entries_are_applied
