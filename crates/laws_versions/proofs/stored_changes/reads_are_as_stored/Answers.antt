use Rattle.laws_versions.proofs.KeptDisks.{reads_are_as_stored}
use Rattle.laws_versions.proofs.stored_changes.reads_are_as_stored.Goals as goal

pub returns : goal.returns
returns c = reads_are_as_stored
