use Rattle.chunk_table.specs.ChunkTable.{row_ended}
use Rattle.chunk_table.proofs.Lookups.{changed_lent}
use Rattle.chunk_table.proofs.chunks.end_at.Goals as goal

pub returns-in-Some : goal.returns-in-Some
returns-in-Some c =
    changed_lent c.args.chunks.now c.args.handle (row_ended c.args.moment.0) c.get_mut.result c.in-Some.chunk _ c.set_end.new.self c.in-Some.is (c.get_mut.follows.holds c.set_end.new.self) c.in-Some.ensures.value c.set_end.ensures
