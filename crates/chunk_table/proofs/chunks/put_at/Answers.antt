use Rattle.chunk_table.specs.ChunkTable.{row_put}
use Rattle.chunk_table.proofs.Lookups.{changed_lent}
use Rattle.chunk_table.proofs.chunks.put_at.Goals as goal

pub returns-in-Some : goal.returns-in-Some
returns-in-Some c =
    changed_lent c.args.chunks.now c.args.handle (row_put c.args.granted.0 c.args.issued.0 c.args.primary.0 c.args.members) c.get_mut.result c.in-Some.chunk _ c.put.new.self c.in-Some.is (c.get_mut.follows.holds c.put.new.self) c.in-Some.ensures.value c.put.ensures
