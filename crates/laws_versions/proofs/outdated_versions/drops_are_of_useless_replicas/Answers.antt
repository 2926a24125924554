use Rattle.laws_versions.proofs.DropLaws.{drops_are_of_useless_replicas}
use Rattle.laws_versions.proofs.outdated_versions.drops_are_of_useless_replicas.Goals as goal

pub returns : goal.returns
returns c = drops_are_of_useless_replicas
