use Rattle.relaxed_file.proofs.ShapesKept.{shapes_stay}
use Rattle.relaxed_file.proofs.laws.shapes_stay.Goals as goal

pub returns : goal.returns
returns c = shapes_stay
