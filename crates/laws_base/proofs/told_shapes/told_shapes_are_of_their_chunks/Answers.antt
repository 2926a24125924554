use Rattle.laws_base.proofs.ToldShapes.{told_shapes_are_of_their_chunks}
use Rattle.laws_base.proofs.told_shapes.told_shapes_are_of_their_chunks.Goals as goal

pub returns : goal.returns
returns c = told_shapes_are_of_their_chunks
