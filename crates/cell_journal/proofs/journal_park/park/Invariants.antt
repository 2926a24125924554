use Rattle.std.proofs.Common.{◌≡◌}
use Rattle.cell_journal.specs.Writers.{IsWaiting}
use Rattle.cell_journal.proofs.journal_park.park.Given as goal

-- the writer waits
abbrev pub invariant-loop : goal.invariant-loop
invariant-loop g l = record { table : l.writer.table_id ≡ l.fn.writer.table_id; waits : IsWaiting l.fn.writer.me.0 l.writer.me }
