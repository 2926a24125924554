use Rattle.std.proofs.Common.{◌≡◌, Some, None, sym, ap, ◌∙◌}
use Rattle.std.specs.Option.{option_map}
use Rattle.cell_journal.specs.declared.counted_entry.CountedEntry.{CountedEntry}
use Rattle.cell_journal.proofs.Retained.{kept_entries}
use Rattle.cell_journal.proofs.lookup.entry_at.Goals as goal

pub returns-in-Some : goal.returns-in-Some
returns-in-Some c = ap (option_map (λ (x : CountedEntry). x.entry)) c.in-Some.ensures ∙ sym (kept_entries c.args.rows.now c.args.place)

pub returns-in-None : goal.returns-in-None
returns-in-None c = ap (option_map (λ (x : CountedEntry). x.entry)) c.in-None.ensures ∙ sym (kept_entries c.args.rows.now c.args.place)
