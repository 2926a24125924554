use Rattle.chunk_table.specs.ChunkTable.{row_issued}
use Rattle.chunk_table.proofs.Lookups.{changed_lent}
use Rattle.chunk_table.proofs.chunks.issue_at.Goals as goal

pub returns-in-Some : goal.returns-in-Some
returns-in-Some c =
    changed_lent c.args.chunks.now c.args.handle (row_issued c.args.version.0) c.get_mut.result c.in-Some.chunk _ c.issue.new.self c.in-Some.is (c.get_mut.follows.holds c.issue.new.self) c.in-Some.ensures.value c.issue.ensures
