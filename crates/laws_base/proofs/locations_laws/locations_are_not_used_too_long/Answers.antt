use Rattle.laws_base.proofs.LocationsUsed.{locations_are_not_used_too_long}
use Rattle.laws_base.proofs.locations_laws.locations_are_not_used_too_long.Goals as goal

pub returns : goal.returns
returns c = locations_are_not_used_too_long
