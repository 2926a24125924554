use Rattle.laws_versions.proofs.Selections.{replicas_are_selections}
use Rattle.laws_versions.proofs.acknowledged_entries.replicas_are_selections.Goals as goal

pub returns : goal.returns
returns c = replicas_are_selections
