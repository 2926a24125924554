use Rattle.std.proofs.Common.{◌≡◌, arith}
use Rattle.cell_journal.specs.CountedEntries.{entries_in}
use Rattle.cell_journal.proofs.CountedEntries.{entries_count, history_count}
use Rattle.cell_journal.proofs.history.History.whole_len.Goals as goal

pub returns : goal.returns
returns c =
    let h = c.self.inside in
    rw (← c.self.view_is) (omega (arith, c.len.ensures, c.self.invariant.8, entries_count h.rows.all, history_count h.cell (entries_in h.rows.all)))
