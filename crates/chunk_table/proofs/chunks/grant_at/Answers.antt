use Rattle.chunk_table.specs.ChunkTable.{row_granted}
use Rattle.chunk_table.proofs.Lookups.{changed_lent}
use Rattle.chunk_table.proofs.chunks.grant_at.Goals as goal

pub returns-in-Some : goal.returns-in-Some
returns-in-Some c =
    changed_lent c.args.chunks.now c.args.handle (row_granted c.args.version.0 c.args.primary.0 c.args.members) c.get_mut.result c.in-Some.chunk _ c.grant.new.self c.in-Some.is (c.get_mut.follows.holds c.grant.new.self) c.in-Some.ensures.value c.grant.ensures
