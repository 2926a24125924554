use Rattle.laws_versions.proofs.Selections.{replicas_have_settled_entries}
use Rattle.laws_versions.proofs.acknowledged_entries.replicas_have_settled_entries.Goals as goal

pub returns : goal.returns
returns c = replicas_have_settled_entries
