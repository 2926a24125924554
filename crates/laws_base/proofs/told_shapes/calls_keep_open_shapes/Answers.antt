use Rattle.laws_base.proofs.OpenShapes.{calls_keep_open_shapes}
use Rattle.laws_base.proofs.told_shapes.calls_keep_open_shapes.Goals as goal

pub returns : goal.returns
returns c = calls_keep_open_shapes
