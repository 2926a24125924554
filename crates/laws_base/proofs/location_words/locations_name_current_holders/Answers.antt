use Rattle.laws_base.proofs.Locations.{locations_name_current_holders}
use Rattle.laws_base.proofs.location_words.locations_name_current_holders.Goals as goal

pub returns : goal.returns
returns c = locations_name_current_holders
