use Rattle.laws_machine.proofs.ToldShapes.{told_shapes_go_on}
use Rattle.laws_machine.proofs.told_rounds.told_shapes_go_on.Goals as goal

pub returns : goal.returns
returns c = told_shapes_go_on
