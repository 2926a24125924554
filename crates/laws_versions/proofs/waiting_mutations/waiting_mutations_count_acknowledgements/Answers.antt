use Rattle.laws_versions.proofs.Acknowledging.{waiting_mutations_count_acknowledgements}
use Rattle.laws_versions.proofs.waiting_mutations.waiting_mutations_count_acknowledgements.Goals as goal

pub returns : goal.returns
returns c = waiting_mutations_count_acknowledgements
