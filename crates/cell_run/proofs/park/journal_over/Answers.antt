use Rattle.std.proofs.Common.{◌≡◌, None, sym, subst, ◌∙◌}
use Rattle.gfs_types.specs.Settings.{first_out_of_range}
use Rattle.cell_journal.specs.Identity.{Closed}
use Rattle.cell_journal.specs.Rules.{IsJournalOf}
use Rattle.cell_seats.specs.Journals.{joined, AreBehind}
use Rattle.cell_run.proofs.park.journal_over.Goals as goal

pub new-requires-clause-lawful : goal.new-requires-clause-lawful
new-requires-clause-lawful c = subst (λ (j : Closed). IsJournalOf j.cell j.entries) (sym c.close.ensures) c.requires.lawful

pub new-requires-clause-range : goal.new-requires-clause-range
new-requires-clause-range c = subst (λ (j : Closed). first_out_of_range j.cell.config ≡ None) (sym c.close.ensures) c.requires.range

pub new-requires-clause-behind : goal.new-requires-clause-behind
new-requires-clause-behind c = subst (λ (j : Closed). AreBehind j.cell (joined c.args.beside.base.items)) (sym c.close.ensures) c.requires.base.1

pub returns : goal.returns
returns c = c.new.ensures.journal ∙ c.close.ensures
