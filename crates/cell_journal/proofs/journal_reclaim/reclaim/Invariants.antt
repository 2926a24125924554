use Rattle.std.proofs.Common.{◌≡◌}
use Rattle.cell_journal.proofs.journal_reclaim.reclaim.Given as goal

-- the writer is as it was
abbrev pub invariant-loop : goal.invariant-loop
invariant-loop g l = record { table : l.writer.table_id ≡ l.fn.writer.table_id; me : l.writer.me ≡ l.fn.writer.me }
