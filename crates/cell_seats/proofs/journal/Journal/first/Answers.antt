use Rattle.std.proofs.Common.{◌≡◌, ℕ, ◌-◌, ap, subst, ◌∙◌}
use Rattle.cell_seats.specs.Journals.{JournalState, first_kept}
use Rattle.cell_seats.proofs.journal.Journal.first.Goals as goal

pub returns : goal.returns
returns c =
    let j = c.self.inside in
    subst (λ (s : JournalState). c.saturating_sub.result ≡ first_kept s) c.self.view_is (c.saturating_sub.ensures ∙ ap (λ (n : ℕ). n - j.skip) c.first.ensures)
