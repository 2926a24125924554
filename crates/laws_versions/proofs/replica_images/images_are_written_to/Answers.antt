use Rattle.laws_versions.proofs.Written.{images_are_written_to}
use Rattle.laws_versions.proofs.replica_images.images_are_written_to.Goals as goal

pub returns : goal.returns
returns c = images_are_written_to
