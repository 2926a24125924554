use Rattle.chunk_table.specs.ChunkTable.{row_shared}
use Rattle.chunk_table.proofs.Lookups.{changed_lent}
use Rattle.chunk_table.proofs.chunks.share_at.Goals as goal

pub returns-in-Some : goal.returns-in-Some
returns-in-Some c =
    changed_lent c.args.chunks.now c.args.handle (row_shared) c.get_mut.result c.in-Some.chunk _ c.share.new.self c.in-Some.is (c.get_mut.follows.holds c.share.new.self) c.in-Some.ensures.value c.share.ensures
