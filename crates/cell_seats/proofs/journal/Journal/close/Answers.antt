use Rattle.std.proofs.Common.{◌≡◌, ◌≤◌, true, None, sym, ap, subst, ◌∙◌}
use Rattle.std.specs.Prelude.{vec_len}
use Rattle.gfs_types.specs.Settings.{first_out_of_range}
use Rattle.cell_journal.specs.Identity.{Closed, closed}
use Rattle.cell_journal.specs.Log.{listed}
use Rattle.cell_journal.specs.Rules.{IsJournalOf}
use Rattle.cell_journal.specs.WholeHistories.{whole_of}
use Rattle.cell_seats.specs.Journals.{JournalState, journal_state, joined, AreBehind, AreSkipped}
use Rattle.cell_seats.proofs.journal.Journal.close.Goals as goal

pub close-requires : goal.close-requires
close-requires c = c.requires ∙ ap (λ (j : JournalState). listed j.now.cell.name (whole_of j.now)) (sym c.self.view_is)

pub invariant_of-result : goal.invariant_of-result
invariant_of-result c =
    let i = c.self.inside in
    let was = c.self.invariant in
    subst (λ (j : Closed). IsJournalOf j.cell j.entries × (first_out_of_range j.cell.config ≡ None) × (vec_len i.base ≤ 1) × AreBehind j.cell (joined i.base.items) × AreSkipped j i.skip) (sym c.close.ensures) was

pub returns : goal.returns
returns c =
    ap (λ (j : Closed). journal_state j (joined c.self.inside.base.items) c.self.inside.skip) c.close.ensures
    ∙ ap (λ (j : JournalState). journal_state (closed j.now.cell j.now.entries true) j.earlier j.skip) c.self.view_is
