use Rattle.laws_versions.proofs.Acknowledging.{settled_mutations_were_acknowledged}
use Rattle.laws_versions.proofs.waiting_mutations.settled_mutations_were_acknowledged.Goals as goal

pub returns : goal.returns
returns c = settled_mutations_were_acknowledged
