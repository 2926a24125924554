use Rattle.std.proofs.Common.{◌≡◌, length, sym, ap, ◌∙◌}
use Rattle.cell_journal.specs.declared.retention.Retention.{Retention}
use Rattle.cell_journal.specs.Retained.{gone_of}
use Rattle.cell_journal.proofs.CountedEntries.{entries_count}
use Rattle.cell_journal.proofs.closed_history.ClosedHistory.first.Goals as goal

pub returns : goal.returns
returns c =
    let h = c.self.inside in
    rw (← c.self.view_is)
    (c.first.ensures ∙ (ap (λ (r : Retention). gone_of r (length h.rows.all)) c.self.invariant.6 ∙ ap (gone_of h.cell.retention) (sym (entries_count h.rows.all))))
