use Rattle.laws_base.proofs.OpenShapes.{open_shapes_were_told}
use Rattle.laws_base.proofs.told_shapes.open_shapes_were_told.Goals as goal

pub returns : goal.returns
returns c = open_shapes_were_told
