use Rattle.std.proofs.Common.{◌≡◌}
use Rattle.cell_journal.proofs.Keeping.{begins}
use Rattle.cell_journal.proofs.journal_table.table_or_back.Goals as goal

pub new-requires : goal.new-requires
new-requires c = let h = c.requires.has in rw h.1 (begins c.args.cell.now h.0 h.2 h.3 c.requires.lawful)
