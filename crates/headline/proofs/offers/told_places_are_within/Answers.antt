use Rattle.headline.proofs.ToldPlaces.{told_places_are_within}
use Rattle.headline.proofs.offers.told_places_are_within.Goals as goal

pub returns : goal.returns
returns c = told_places_are_within
