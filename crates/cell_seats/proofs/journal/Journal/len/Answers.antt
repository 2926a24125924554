use Rattle.std.proofs.Common.{◌≡◌, ℕ, ◌-◌, length, sym, ap, subst, ◌∙◌}
use Rattle.std.specs.Prelude.{IsTrue}
use Rattle.std.proofs.lemmas.List.{length-drop}
use Rattle.headline.specs.Journals.{AreExplained}
use Rattle.cell_journal.specs.Clocks.{are_clocks_kept}
use Rattle.cell_journal.specs.WholeHistories.{whole_of}
use Rattle.cell_seats.specs.Journals.{JournalState, steps_in}
use Rattle.cell_seats.proofs.Sitting.{explains}
use Rattle.cell_seats.proofs.journal.Journal.len.Goals as goal

pub returns-clause-count : goal.returns-clause-count
returns-clause-count c =
    let j = c.self.inside in
    subst (λ (s : JournalState). c.saturating_sub.result ≡ length (steps_in s)) c.self.view_is
    (c.saturating_sub.ensures ∙ (ap (λ (n : ℕ). n - j.skip) c.len.ensures ∙ sym (length-drop j.skip j.history.entries)))

pub returns-clause-explained : goal.returns-clause-explained
returns-clause-explained c =
    let h = c.self.inside.history in
    subst (λ (s : JournalState). IsTrue (are_clocks_kept s.now.cell (whole_of s.now)) → AreExplained s.now.cell.config (whole_of s.now)) c.self.view_is
    (λ clocks. explains h.cell (whole_of h) c.self.invariant.1 c.self.invariant.0 clocks)
