-- What is noted of steps, by the parts of their list.
use Rattle.std.proofs.Common.{◌≡◌, ℕ, zero, suc, ◌+◌, ◌<◌, ◌≤◌, Bool, true, false, List, [], ◌∷◌, ◌++◌, length, map, drop, Option, Some, None, refl, sym, ap, ◌∙◌, append_assoc, arith}
use Rattle.std.specs.Prelude.{if◌then◌else◌, Contains, slice_get, nat_lt}
use Rattle.std.proofs.lemmas.Bool.Decides.{nat_tests}
use Rattle.std.proofs.lemmas.List.{append-nil, map-append, drop_all}
use Rattle.gfs_types.specs.declared.ids.Node.{Node}
use Rattle.protocol.specs.declared.seen.Seen.{Seen}
use Rattle.protocol_journal.specs.Journal.{Entry}
use Rattle.cell_journal.specs.Identity.{Closed}
use Rattle.cell_journal.specs.WholeHistories.{whole_of}
use Rattle.cell_journal.specs.Retained.{gone_of, kept_entry}
use Rattle.cell_journal.specs.declared.retention.Retention.{Retention}
use Rattle.cell_seats.specs.Journals.{JournalState, all_in, AreBehind}
use Rattle.cell_world.specs.Kept.{blank_seen}
use Rattle.cell_looks.specs.declared.look_fault.LookFault.{LookFault}
use Rattle.cell_looks.specs.declared.look_fault.LookFault.TheVariants as fault
use Rattle.cell_looks.specs.Faults.{IsHistoryFault, IsJournalFault}
use Rattle.cell_looks.specs.Noted.{is_client, noted_of, noted, noted_in}
use Rattle.cell_looks.proofs.Behind.{behind, behind_whole, taken}

-- of one step

pub none_noted : (n : Node) (seen was : List Seen) → is_client n ≡ true → was ≡ was ++ map blank_seen (noted_of n seen)
none_noted n seen was is = sym (ap (λ (b : Bool). was ++ map blank_seen (if b then [] else seen)) is ∙ append-nil was)

pub all_noted : (n : Node) (seen was now : List Seen) → is_client n ≡ false → now ≡ was ++ map blank_seen seen → now ≡ was ++ map blank_seen (noted_of n seen)
all_noted n seen was now is same = same ∙ sym (ap (λ (b : Bool). was ++ map blank_seen (if b then [] else seen)) is)

-- of a journal

drop_at : (es : List Entry) (k : ℕ) (e : Entry) → slice_get es k ≡ Some e → drop k es ≡ e ∷ drop (suc k) es
drop_at [] zero e h = absurd (let none : None ≡ Some e = h in cc)
drop_at [] (suc k) e h = absurd (let none : None ≡ Some e = h in cc)
drop_at (x ∷ es) zero e h = ap (λ (y : Entry). y ∷ es) (let same : Some x ≡ Some e = h in cc)
drop_at (x ∷ es) (suc k) e h = drop_at es k e h

pub note_more : (es : List Entry) (place : ℕ) (e : Entry) (was now end : List Seen) → slice_get es place ≡ Some e → now ≡ was ++ map blank_seen (noted_of e.node e.seen)
    → was ++ map blank_seen (noted_in (drop place es)) ≡ end → now ++ map blank_seen (noted_in (drop (place + 1) es)) ≡ end
note_more es place e was now end at is inv =
    let next : place + 1 ≡ suc place = omega arith in
    let one : List Seen = map blank_seen (noted_of e.node e.seen) in
    let rest : List Seen = map blank_seen (noted_in (drop (suc place) es)) in
    ap (λ (k : ℕ). now ++ map blank_seen (noted_in (drop k es))) next
    ∙ (ap (λ (l : List Seen). l ++ rest) is
    ∙ (append_assoc was one rest
    ∙ (ap (λ (l : List Seen). was ++ l) (sym (map-append blank_seen (noted_of e.node e.seen) (noted_in (drop (suc place) es))))
    ∙ (ap (λ (xs : List Entry). was ++ map blank_seen (noted_in xs)) (sym (drop_at es place e at)) ∙ inv))))

pub none_left : (es : List Entry) (place : ℕ) (seen end : List Seen) → length es ≤ place → seen ++ map blank_seen (noted_in (drop place es)) ≡ end → seen ≡ end
none_left es place seen end past inv =
    let none : drop place es ≡ [] = drop_all place es past in
    sym (ap (λ (xs : List Entry). seen ++ map blank_seen (noted_in xs)) none ∙ append-nil seen) ∙ inv

-- an entry that is not there any more was let go
pub was_gone : (r : Retention) (es : List Entry) (place : ℕ) → place < length es → None ≡ kept_entry r es place → 0 < gone_of r (length es)
was_gone r es place within none = by_test (nat_lt place (gone_of r (length es))) refl none
  where
    some_there : (xs : List Entry) (k : ℕ) → k < length xs → ◌≡◌ {A = Option Entry} None (slice_get xs k) → 0 < gone_of r (length es)
    some_there [] k h e = absurd (omega (arith, h))
    some_there (x ∷ xs) zero h e = absurd (let both : None ≡ Some x = e in cc)
    some_there (x ∷ xs) (suc k) h e = some_there xs k (omega (arith, h)) e

    by_test : (b : Bool) → nat_lt place (gone_of r (length es)) ≡ b → None ≡ (if b then None else slice_get es place) → 0 < gone_of r (length es)
    by_test true is e =
        let lt : place < gone_of r (length es) = grind (arith, nat_tests) in
        omega (arith, lt)
    by_test false is e = some_there es place within e

-- of journals one behind the other: the first of them is noted, which stands last

module _ {X : Type 0} (f : X → Closed) where
  pub first_noted : (items : List X) (seen : List Seen) (j : JournalState) → seen ≡ [] → map f items ≡ all_in j → AreBehind j.now.cell j.earlier
      → seen ++ map blank_seen (behind noted (map f items)) ≡ map blank_seen (noted_in (whole_of j.now))
  first_noted items seen j none all base =
      ap (λ (l : List Seen). l ++ map blank_seen (behind noted (map f items))) none
      ∙ ap (map blank_seen) (ap (behind noted) all ∙ behind_whole noted (λ before e. refl) j.now j.earlier base)

  pub note_first : (was now : List X) (x : X) (seen after end : List Seen) → was ≡ now ++ x ∷ [] → after ≡ seen ++ map blank_seen (noted_in (f x).entries)
      → seen ++ map blank_seen (behind noted (map f was)) ≡ end → after ++ map blank_seen (behind noted (map f now)) ≡ end
  note_first was now x seen after end is same inv =
      let one : List Seen = noted_in (f x).entries in
      let rest : List Seen = behind noted (map f now) in
      ap (λ (l : List Seen). l ++ map blank_seen rest) same
      ∙ (append_assoc seen (map blank_seen one) (map blank_seen rest)
      ∙ (ap (λ (l : List Seen). seen ++ l) (sym (map-append blank_seen one rest) ∙ ap (map blank_seen) (sym (taken noted f was now x is))) ∙ inv))

  pub last_noted : (items : List X) (seen end : List Seen) → items ≡ [] → seen ++ map blank_seen (behind noted (map f items)) ≡ end → seen ≡ end
  last_noted items seen end none inv = sym (append-nil seen) ∙ (ap (λ (l : List X). seen ++ map blank_seen (behind noted (map f l))) (sym none) ∙ inv)

-- why one of them is not noted
pub fault_of_one : (j : JournalState) (one : Closed) (f : LookFault) → Contains (all_in j) one → IsHistoryFault one f → IsJournalFault j f
fault_of_one j one fault.Down there h = h
fault_of_one j one fault.Partial there h = record { journal = one; one = there; gone = h }
fault_of_one j one fault.NoMemory there h = tt
