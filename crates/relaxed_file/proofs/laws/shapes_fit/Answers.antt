use Rattle.relaxed_file.proofs.ShapesKept.{shapes_fit}
use Rattle.relaxed_file.proofs.laws.shapes_fit.Goals as goal

pub returns : goal.returns
returns c = shapes_fit
