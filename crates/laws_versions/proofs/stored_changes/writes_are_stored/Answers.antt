use Rattle.laws_versions.proofs.KeptDisks.{writes_are_stored}
use Rattle.laws_versions.proofs.stored_changes.writes_are_stored.Goals as goal

pub returns : goal.returns
returns c = writes_are_stored
