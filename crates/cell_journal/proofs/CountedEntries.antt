-- Rows of the journal.
use Rattle.std.proofs.Common.{zero, suc, get_or, Some, None, slice_get, ◌≡◌, ◌≤◌, ◌<◌, ◌*◌, ◌^◌, ℕ, ◌+◌, List, [], ◌∷◌, ◌++◌, length, refl, sym, subst, ap, ◌∙◌, arith, append_assoc}
use Rattle.std.specs.Prelude.{map}
use Rattle.std.proofs.lemmas.List.{append-nil, length-append, length-map}
use Rattle.messages.specs.declared.message.Message.{Message}
use Rattle.protocol_journal.specs.Journal.{Entry, sent_after}
use Rattle.protocol_journal.specs.Whole.{raised_entry, whole}
use Rattle.cell_journal.specs.Identity.{Identity}
use Rattle.cell_journal.specs.WholeHistories.{history_of}
use Rattle.cell_journal.specs.declared.counted_entry.CountedEntry.{CountedEntry}
use Rattle.cell_journal.specs.CountedEntries.{entries_in, sent_in, AreCounted}

pub entries_push : (rows : List CountedEntry) (r : CountedEntry) → entries_in (rows ++ r ∷ []) ≡ entries_in rows ++ r.entry ∷ []
entries_push [] r = refl
entries_push (x ∷ rows) r = ap (λ es. x.entry ∷ es) (entries_push rows r)

pub entries_count : (rows : List CountedEntry) → length (entries_in rows) ≡ length rows
entries_count [] = refl
entries_count (x ∷ rows) = ap suc (entries_count rows)

-- the whole history has the base's entries and these
pub history_count : (cell : Identity) (es : List Entry) → length (history_of cell es) ≡ length cell.base + length es
history_count cell es =
    let raise : Entry → Entry = raised_entry (length (sent_after [] cell.base)) in
    length-append cell.base (map raise es) ∙ ap (λ (n : ℕ). length cell.base + n) (length-map es raise)

-- of a cell that did nothing there is none
pub history_none : (cell : Identity) → cell.base ≡ [] → history_of cell [] ≡ []
history_none cell none = ap (λ (base : List Entry). whole base []) none

pub sent_push : (rows : List CountedEntry) (r : CountedEntry) → sent_in (rows ++ r ∷ []) ≡ sent_in rows ++ r.entry.out.sent
sent_push [] r = append-nil r.entry.out.sent
sent_push (x ∷ rows) r = ap (λ rest. x.entry.out.sent ++ rest) (sent_push rows r) ∙ sym (append_assoc x.entry.out.sent (sent_in rows) r.entry.out.sent)

pub counted_push : (before : ℕ) (rows : List CountedEntry) (r : CountedEntry) → AreCounted before rows → r.before ≡ before + length (sent_in rows) → AreCounted before (rows ++ r ∷ [])
counted_push before [] r h e = (e ∙ omega arith, tt)
counted_push before (x ∷ rows) r h e =
    (h.0, counted_push (before + length x.entry.out.sent) rows r h.1 (e ∙ omega (arith, length-append x.entry.out.sent (sent_in rows))))

pub entry_got : (rows : List CountedEntry) (k : ℕ) (r d : CountedEntry) → k < length rows → r ≡ get_or rows k d → slice_get (entries_in rows) k ≡ Some r.entry
entry_got [] k r d h is = absurd (omega (arith, h))
entry_got (x ∷ rows) zero r d h is = ap (λ (y : CountedEntry). Some y.entry) (sym is)
entry_got (x ∷ rows) (suc k) r d h is = entry_got rows k r d (omega (arith, h)) is

pub no_entry : (rows : List CountedEntry) (k : ℕ) → length rows ≤ k → slice_get (entries_in rows) k ≡ None
no_entry [] k h = refl
no_entry (x ∷ rows) zero h = absurd (omega (arith, h))
no_entry (x ∷ rows) (suc k) h = no_entry rows k (omega (arith, h))
