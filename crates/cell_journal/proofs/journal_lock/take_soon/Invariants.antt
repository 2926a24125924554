use Rattle.std.proofs.Common.{◌≡◌}
use Rattle.cell_journal.proofs.journal_lock.take_soon.Given as goal

-- the writer is as it was
abbrev pub invariant-loop : goal.invariant-loop
invariant-loop l = (l.writer.table_id ≡ l.fn.writer.table_id) × (l.writer.id ≡ l.fn.writer.id) × (l.writer.me ≡ l.fn.writer.me)
