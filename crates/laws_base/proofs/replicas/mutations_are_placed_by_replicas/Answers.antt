use Rattle.laws_base.proofs.Placings.{mutations_are_placed_by_replicas}
use Rattle.laws_base.proofs.replicas.mutations_are_placed_by_replicas.Goals as goal

pub returns : goal.returns
returns c = mutations_are_placed_by_replicas
