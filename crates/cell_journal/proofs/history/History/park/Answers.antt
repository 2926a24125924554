use Rattle.std.proofs.Common.{◌≡◌, arith}
use Rattle.cell_journal.specs.CountedEntries.{entries_in}
use Rattle.cell_journal.proofs.Numbers.{sent_count, sent_of_all}
use Rattle.cell_journal.proofs.history.History.park.Goals as goal

pub returns-clause-sent : goal.returns-clause-sent
returns-clause-sent c =
    let h = c.self.inside in
    rw (← c.self.view_is) (omega (arith, c.self.invariant.2, c.self.invariant.7, sent_count h.rows.all, sent_of_all h.cell.base (entries_in h.rows.all)))
