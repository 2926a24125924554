use Rattle.std.proofs.Common.{◌≡◌, None, sym, ap, subst, ◌∙◌}
use Rattle.gfs_types.specs.Settings.{first_out_of_range}
use Rattle.cell_journal.specs.Identity.{Closed}
use Rattle.cell_journal.specs.Log.{listed}
use Rattle.cell_journal.specs.Rules.{IsJournalOf}
use Rattle.cell_journal.specs.WholeHistories.{whole_of}
use Rattle.cell_seats.specs.Journals.{joined, AreBehind}
use Rattle.cell_run.specs.Parked.{ParkedState, parked_state, ArePartsOf}
use Rattle.cell_run.proofs.park.parked_with.Goals as goal

pub parts_of-requires-clause-lawful : goal.parts_of-requires-clause-lawful
parts_of-requires-clause-lawful c = subst (λ (j : Closed). IsJournalOf j.cell j.entries) (sym (ap (λ p. p.0) c.into_parts-history.ensures)) c.requires.lawful

pub parts_of-requires-clause-range : goal.parts_of-requires-clause-range
parts_of-requires-clause-range c = subst (λ (j : Closed). first_out_of_range j.cell.config ≡ None) (sym (ap (λ p. p.0) c.into_parts-history.ensures)) c.requires.range

pub parts_of-requires-clause-base : goal.parts_of-requires-clause-base
parts_of-requires-clause-base c =
    let base = c.requires.base in
    (base.0, subst (λ (j : Closed). AreBehind j.cell (joined c.args.beside.base.items)) (sym (ap (λ p. p.0) c.into_parts-history.ensures)) base.1)

pub parts_of-requires-clause-parts : goal.parts_of-requires-clause-parts
parts_of-requires-clause-parts c =
    let beside = c.args.beside in
    subst (λ (j : Closed). ArePartsOf j beside.config beside.nothing c.args.history.sent c.args.nodes c.args.seats.items beside.servers beside.made) (sym (ap (λ p. p.0) c.into_parts-history.ensures)) c.requires.parts

pub with_list-requires : goal.with_list-requires
with_list-requires c =
    let journal = ap (λ (p : ParkedState). p.journal) c.parts_of.ensures ∙ ap (λ p. p.0) c.into_parts-history.ensures in
    ap (λ p. p.1) c.into_parts-history.ensures ∙ (c.requires.list ∙ sym (ap (λ (j : Closed). listed j.cell.name (whole_of j)) journal))

pub returns : goal.returns
returns c = c.with_list.ensures ∙ (c.parts_of.ensures ∙ ap (λ (j : Closed). parked_state j c.args.beside.made c.args.seats.items) (ap (λ p. p.0) c.into_parts-history.ensures))
