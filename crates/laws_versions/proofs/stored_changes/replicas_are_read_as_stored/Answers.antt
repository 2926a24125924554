use Rattle.laws_versions.proofs.KeptDisks.{replicas_are_read_as_stored}
use Rattle.laws_versions.proofs.stored_changes.replicas_are_read_as_stored.Goals as goal

pub returns : goal.returns
returns c = replicas_are_read_as_stored
