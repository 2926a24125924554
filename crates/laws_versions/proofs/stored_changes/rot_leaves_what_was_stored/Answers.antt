use Rattle.laws_versions.proofs.KeptDisks.{rot_leaves_what_was_stored}
use Rattle.laws_versions.proofs.stored_changes.rot_leaves_what_was_stored.Goals as goal

pub returns : goal.returns
returns c = rot_leaves_what_was_stored
