use Rattle.std.proofs.Common.{◌≡◌, [], length, sym, ap, subst, ◌∙◌}
use Rattle.std.specs.Prelude.{IfOk}
use Rattle.protocol_journal.specs.Journal.{sent_after}
use Rattle.cell_journal.specs.Identity.{Closed, filled}
use Rattle.cell_journal.specs.Log.{listed}
use Rattle.cell_journal.specs.Rules.{IsJournalOf}
use Rattle.cell_journal.specs.WholeHistories.{whole_of}
use Rattle.cell_run.specs.Parked.{ParkedState}
use Rattle.cell_run.specs.Resumed.{behind_of}
use Rattle.cell_run.proofs.behind.list_behind.Goals as goal

pub behind-requires-clause-list : goal.behind-requires-clause-list
behind-requires-clause-list c =
    let same = c.history.ensures.history ∙ ap (λ (p : ParkedState). p.journal) c.parts.view_is in
    c.requires ∙ ap (λ (j : Closed). listed j.cell.name (whole_of j)) (sym same)

pub behind-requires-clause-lawful : goal.behind-requires-clause-lawful
behind-requires-clause-lawful c = subst (λ (j : Closed). IsJournalOf j.cell j.entries) (sym c.history.ensures.history) c.history.ensures.lawful

pub behind-requires-clause-sent : goal.behind-requires-clause-sent
behind-requires-clause-sent c = c.parts.invariant.sent_is ∙ ap (λ (j : Closed). length (sent_after [] (whole_of j))) (sym c.history.ensures.history)

pub returns-clause-ok : goal.returns-clause-ok
returns-clause-ok c =
    let same = c.history.ensures.history ∙ ap (λ (p : ParkedState). p.journal) c.parts.view_is in
    subst (λ (j : Closed). IfOk c.behind.result (λ h. h ≡ filled (behind_of j c.args.retired) [] 0)) same c.behind.ensures.ok
