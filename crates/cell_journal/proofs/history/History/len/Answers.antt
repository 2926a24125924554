use Rattle.std.proofs.Common.{◌≡◌, arith}
use Rattle.cell_journal.proofs.CountedEntries.{entries_count}
use Rattle.cell_journal.proofs.history.History.len.Goals as goal

pub returns : goal.returns
returns c = rw (← c.self.view_is) (omega (arith, c.len.ensures, entries_count c.self.inside.rows.all))
