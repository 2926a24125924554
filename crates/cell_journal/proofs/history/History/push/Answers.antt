use Rattle.std.proofs.Common.{◌≡◌, ℕ, ◌+◌, ◌-◌, ◌++◌, ◌∷◌, [], length, List, sym, subst, ap, ◌∙◌, arith}
use Rattle.std.proofs.lemmas.List.{length-append}
use Rattle.protocol_journal.specs.Journal.{Entry, sent_after}
use Rattle.protocol_journal.specs.Whole.{raised_entry}
use Rattle.protocol_journal.proofs.CutJournals.{whole_more}
use Rattle.cell_journal.specs.declared.clocks.Clocks.{Clocks}
use Rattle.cell_journal.specs.declared.counted_entry.CountedEntry.{CountedEntry}
use Rattle.cell_journal.specs.Clocks.{moved, clocks_after}
use Rattle.cell_journal.specs.Identity.{Identity, Filled, filled}
use Rattle.cell_journal.specs.WholeHistories.{history_of}
use Rattle.cell_journal.specs.CountedEntries.{entries_in, sent_in, AreCounted}
use Rattle.cell_journal.proofs.Observed.{clocks_more}
use Rattle.cell_journal.proofs.CountedEntries.{entries_push, sent_push, counted_push}
use Rattle.cell_journal.proofs.Retained.{room_after}
use Rattle.cell_journal.proofs.history.History.push.Goals as goal

pub invariant_of-self : goal.invariant_of-self
invariant_of-self c =
    let i = c.self.invariant in
    let rows = c.self.inside.rows.all in
    let row : CountedEntry = record { entry = c.args.entry; before = c.self.inside.count } in
    let now = c.add.ensures.all in
    let more = c.len.ensures ∙ ap (λ o. length o.sent) c.out.ensures in
    let longer = ap length now ∙ length-append rows (row ∷ []) in
    let sent = ap (λ rs. length (sent_in rs)) now ∙ (ap length (sent_push rows row) ∙ length-append (sent_in rows) row.entry.out.sent) in
    let cell : Identity = c.self.inside.cell in
    let here : Entry = raised_entry (length (sent_after [] cell.base)) c.args.entry in
    let raised = ap (λ (k : ℕ). c.self.inside.list.items ++ raised_entry k c.args.entry ∷ []) i.7 in
    let longer_history : history_of cell (entries_in c.add.new.rows.all) ≡ history_of cell (entries_in rows) ++ here ∷ [] =
    ap (history_of cell) (ap entries_in now ∙ entries_push rows row) ∙ whole_more cell.base (entries_in rows) c.args.entry in (
      ap (λ l. l.name) c.push.ensures ∙ i.0,
      ap (λ l. l.items) c.push.ensures ∙ (raised ∙ (ap (λ (es : List Entry). es ++ here ∷ []) i.1 ∙ sym longer_history)),
      omega (arith, i.2, more, sent),
      subst (AreCounted 0) (sym now) (counted_push 0 rows row i.3 (i.2 ∙ omega arith)),
      room_after c.self.inside.rows c.add.new.rows row c.self.inside.reserved (omega (arith, c.requires, ap (λ (f : Filled). f.reserved) c.self.view_is)) i.4
          c.add.ensures.retention c.add.ensures.all c.add.ensures.capacity,
      omega (arith, i.5, longer, c.len.type_inv),
      c.clocks_with-clocks.ensures
          ∙ (ap (λ (k : Clocks). moved cell.config.skew_ms k c.args.entry.moment) i.6
          ∙ (sym (clocks_more cell.config (history_of cell (entries_in rows)) here)
          ∙ ap (λ (es : List Entry). clocks_after cell.config es) (sym longer_history))),
      i.7,
      i.8,
      i.9,
      omega (arith, i.10, longer, c.requires, ap (λ (f : Filled). f.reserved) c.self.view_is),
      i.11,
      i.12,
      i.13,
      c.add.ensures.retention ∙ i.14,
    )

pub returns : goal.returns
returns c =
    let rows = c.self.inside.rows.all in
    let row : CountedEntry = record { entry = c.args.entry; before = c.self.inside.count } in
    rw (← c.self.view_is) (ap (λ es. filled c.self.inside.cell es (c.self.inside.reserved - 1)) (ap entries_in c.add.ensures.all ∙ entries_push rows row))
