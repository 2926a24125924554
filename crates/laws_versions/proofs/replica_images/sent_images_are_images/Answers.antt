use Rattle.laws_versions.proofs.ImagesReached.{sent_images_are_images}
use Rattle.laws_versions.proofs.replica_images.sent_images_are_images.Goals as goal

pub returns : goal.returns
returns c = sent_images_are_images
