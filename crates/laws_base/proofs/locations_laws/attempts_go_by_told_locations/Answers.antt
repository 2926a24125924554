use Rattle.laws_base.proofs.LocationsUsed.{attempts_go_by_told_locations}
use Rattle.laws_base.proofs.locations_laws.attempts_go_by_told_locations.Goals as goal

pub returns : goal.returns
returns c = attempts_go_by_told_locations
