use Rattle.laws_base.proofs.Forwards.{images_are_of_replicas}
use Rattle.laws_base.proofs.caused_words.images_are_of_replicas.Goals as goal

pub returns : goal.returns
returns c = images_are_of_replicas
