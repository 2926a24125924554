use Rattle.headline.proofs.FilePlaces.{files_are_within_places}
use Rattle.headline.proofs.places.files_are_within_places.Goals as goal

pub returns : goal.returns
returns c = files_are_within_places
