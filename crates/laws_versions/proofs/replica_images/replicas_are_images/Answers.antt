use Rattle.laws_versions.proofs.ImagesReached.{replicas_are_images}
use Rattle.laws_versions.proofs.replica_images.replicas_are_images.Goals as goal

pub returns : goal.returns
returns c = replicas_are_images
