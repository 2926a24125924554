use Rattle.std.proofs.Common.{◌≡◌, List, [], sym, ap, subst, ◌∙◌, arith}
use Rattle.std.specs.Prelude.{IfSome, IfNone, slice_get}
use Rattle.std.specs.Option.{option_copied}
use Rattle.cell_journal.specs.WholeHistories.{whole_of}
use Rattle.cell_seats.specs.Journals.{JournalState, all_in, joined, AreBehind}
use Rattle.cell_seats.proofs.EarlierJournals.{first_base, no_base, some_mapped, none_mapped}
use Rattle.cell_seats.proofs.journal.Journal.base.Goals as goal

pub returns-clause-some : goal.returns-clause-some
returns-clause-some c =
    let j = c.self.inside in
    let first = option_copied c.first.result in
    let at : first ≡ slice_get j.base.items 0 = c.first.ensures.value ∙ ap (λ (l : List JournalState). slice_get l 0) c.as_slice.ensures.value in
    some_mapped _ c.first.result _
    (subst (λ (s : JournalState). IfSome first (λ b. (s.now.cell.base ≡ whole_of b.now) × (s.earlier ≡ all_in b))) c.self.view_is
    (first_base j.history.cell j.base.items first at (omega (arith, c.self.invariant.2)) c.self.invariant.3))

pub returns-clause-none : goal.returns-clause-none
returns-clause-none c =
    let j = c.self.inside in
    let first = option_copied c.first.result in
    let at : first ≡ slice_get j.base.items 0 = c.first.ensures.value ∙ ap (λ (l : List JournalState). slice_get l 0) c.as_slice.ensures.value in
    none_mapped _ c.first.result _
    (subst (λ (s : JournalState). IfNone first ((s.now.cell.base ≡ []) × (s.earlier ≡ []))) c.self.view_is (no_base j.history.cell j.base.items first at c.self.invariant.3))
