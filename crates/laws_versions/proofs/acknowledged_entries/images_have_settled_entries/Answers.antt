use Rattle.laws_versions.proofs.Selections.{images_have_settled_entries}
use Rattle.laws_versions.proofs.acknowledged_entries.images_have_settled_entries.Goals as goal

pub returns : goal.returns
returns c = images_have_settled_entries
