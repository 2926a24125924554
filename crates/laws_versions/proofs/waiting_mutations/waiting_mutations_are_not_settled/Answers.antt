use Rattle.laws_versions.proofs.Unsettled.{waiting_mutations_are_not_settled}
use Rattle.laws_versions.proofs.waiting_mutations.waiting_mutations_are_not_settled.Goals as goal

pub returns : goal.returns
returns c = waiting_mutations_are_not_settled
