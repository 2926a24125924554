use Rattle.chunk_table.specs.ChunkTable.{row_restarted}
use Rattle.chunk_table.proofs.Lookups.{changed_lent}
use Rattle.chunk_table.proofs.chunks.restart_at.Goals as goal

pub returns-in-Some : goal.returns-in-Some
returns-in-Some c =
    changed_lent c.args.chunks.now c.args.handle (row_restarted c.args.until.0 c.args.usual) c.get_mut.result c.in-Some.chunk _ c.restart.new.self c.in-Some.is (c.get_mut.follows.holds c.restart.new.self) c.in-Some.ensures.value c.restart.ensures
