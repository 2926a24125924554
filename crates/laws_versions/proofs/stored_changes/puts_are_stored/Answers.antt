use Rattle.laws_versions.proofs.KeptDisks.{puts_are_stored}
use Rattle.laws_versions.proofs.stored_changes.puts_are_stored.Goals as goal

pub returns : goal.returns
returns c = puts_are_stored
