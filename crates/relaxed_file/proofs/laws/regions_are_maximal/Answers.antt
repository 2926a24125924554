use Rattle.relaxed_file.proofs.Regions.{regions_are_maximal}
use Rattle.relaxed_file.proofs.laws.regions_are_maximal.Goals as goal

pub returns : goal.returns
returns c = regions_are_maximal
