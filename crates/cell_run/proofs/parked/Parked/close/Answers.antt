use Rattle.std.proofs.Common.{true, sym, ap, ◌∙◌}
use Rattle.cell_journal.specs.Identity.{Closed, closed}
use Rattle.cell_journal.specs.Log.{listed}
use Rattle.cell_journal.specs.WholeHistories.{whole_of}
use Rattle.cell_seats.specs.Journals.{JournalState}
use Rattle.cell_run.specs.Parked.{ParkedState}
use Rattle.cell_run.proofs.parked.Parked.close.Goals as goal

pub close-requires : goal.close-requires
close-requires c =
    let journal = c.into_journal.ensures ∙ ap (λ (p : ParkedState). p.journal) c.into_parts-parts.ensures.parts in
    c.into_parts-parts.ensures.list ∙ ap (λ (j : Closed). listed j.cell.name (whole_of j)) (sym journal)

pub returns : goal.returns
returns c =
    let journal = c.into_journal.ensures ∙ ap (λ (p : ParkedState). p.journal) c.into_parts-parts.ensures.parts in
    ap (λ (j : JournalState). j.now) c.close.ensures ∙ ap (λ (j : Closed). closed j.cell j.entries true) journal
