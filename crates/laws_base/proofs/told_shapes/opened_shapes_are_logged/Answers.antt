use Rattle.laws_base.proofs.ToldShapes.{opened_shapes_are_logged}
use Rattle.laws_base.proofs.told_shapes.opened_shapes_are_logged.Goals as goal

pub returns : goal.returns
returns c = opened_shapes_are_logged
