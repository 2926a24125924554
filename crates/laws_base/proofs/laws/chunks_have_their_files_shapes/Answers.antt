use Rattle.laws_base.proofs.ShapesKept.{chunks_have_their_files_shapes}
use Rattle.laws_base.proofs.laws.chunks_have_their_files_shapes.Goals as goal

pub returns : goal.returns
returns c = chunks_have_their_files_shapes
