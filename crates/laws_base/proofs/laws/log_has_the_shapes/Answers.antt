use Rattle.laws_base.proofs.ShapesTold.{log_has_the_shapes}
use Rattle.laws_base.proofs.laws.log_has_the_shapes.Goals as goal

pub returns : goal.returns
returns c = log_has_the_shapes
