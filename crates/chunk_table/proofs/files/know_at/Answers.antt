use Rattle.chunk_table.proofs.Shaped.{known_lent}
use Rattle.chunk_table.proofs.files.know_at.Goals as goal

pub returns-in-Some : goal.returns-in-Some
returns-in-Some c =
    known_lent c.args.shapes.now c.args.file c.args.usual c.get_mut.result c.in-Some.shape _ c.known_shape.result c.in-Some.is (c.get_mut.follows.holds c.known_shape.result) c.in-Some.ensures.value c.known_shape.ensures
