-- Rows as files come and go: what was granted stays, and a row goes with its last owner.
use Rattle.std.proofs.Common.{◌≡◌, ℕ, zero, suc, ◌-◌, ◌<◌, ◌≤◌, Bool, true, false, cond, List, [], ◌∷◌, length, Option, Some, None, refl, sym, ap, ◌∙◌, arith}
use Rattle.std.specs.Prelude.{◌==◌, nat_le, is_some, option_map, slice_set}
use Rattle.std.specs.FinMap as table
use Rattle.std.proofs.lemmas.Bool.{eqb-true, eqb-false, le-leb}
use Rattle.chunk_table.specs.ChunkTable.{ChunkRow, ChunkTable, chunk_of, row_shared, share_one, share_all, leave_one, leave_all}
use Rattle.protocol.specs.Tables.{element_at}
use Rattle.laws_base.specs.Laws.{HasAllReferences, times_in}
use Rattle.laws_base.proofs.Steps.{none_some, same_some, count-cons}
use Rattle.laws_base.proofs.ChunkRows.{Rows}
use Rattle.laws_base.proofs.RowsSame.{changed_at, leave, left_at}
use Rattle.laws_base.proofs.Owners.{stands, refs, references_of, AreCounted, tally_same, placed_stands}

-- what was granted, as far as there is a row
abbrev pub granted_of : Option ChunkRow → Option ℕ
granted_of o = option_map (λ row. row.granted) o

pub shared_grant : (rows : Rows) (x q : ℕ) → granted_of (table.get (share_one rows x) q) ≡ granted_of (table.get rows q)
shared_grant rows x q = ap granted_of (changed_at rows x q row_shared (table.get rows x) refl) ∙ by_key (q == x) (table.get rows q)
  where
    by_key : (b : Bool) (o : Option ChunkRow) → granted_of (cond b (option_map row_shared o) o) ≡ granted_of o
    by_key true None = refl
    by_key true (Some row) = refl
    by_key false o = refl

pub all_shared_grant : (rows : Rows) (hs : List ℕ) (q : ℕ) → granted_of (table.get (share_all rows hs) q) ≡ granted_of (table.get rows q)
all_shared_grant rows [] q = refl
all_shared_grant rows (x ∷ xs) q = all_shared_grant (share_one rows x) xs q ∙ shared_grant rows x q

-- a row that is there was so before, as far as it was granted
abbrev pub WasGranted : Rows → ℕ → ChunkRow → Type 0
WasGranted rows q row = (old : ChunkRow) × (table.get rows q ≡ Some old) × (old.granted ≡ row.granted)

pub left_grant : (rows : Rows) (x q : ℕ) (row : ChunkRow) → table.get (leave_one rows x) q ≡ Some row → WasGranted rows q row
left_grant rows x q row is = by_key (q == x) (table.get rows q) refl (sym (left_at rows x q (table.get rows x) refl) ∙ is)
  where
    by_test : (b : Bool) (old : ChunkRow) → table.get rows q ≡ Some old → cond b None (Some (record old { references = old.references - 1 })) ≡ Some row → WasGranted rows q row
    by_test true old was now = none_some row now
    by_test false old was now = (old, was, ap (λ (r : ChunkRow). r.granted) (same_some (record old { references = old.references - 1 }) row now))

    by_key : (b : Bool) (o : Option ChunkRow) → table.get rows q ≡ o → cond b (leave o) o ≡ Some row → WasGranted rows q row
    by_key true None was now = none_some row now
    by_key true (Some old) was now = by_test (nat_le old.references 1) old was now
    by_key false None was now = none_some row now
    by_key false (Some old) was now = (old, was, ap (λ (r : ChunkRow). r.granted) (same_some old row now))

pub all_left_grant : (rows : Rows) (hs : List ℕ) (q : ℕ) (row : ChunkRow) → table.get (leave_all rows hs) q ≡ Some row → WasGranted rows q row
all_left_grant rows [] q row is = (row, is, refl)
all_left_grant rows (x ∷ xs) q row is =
    let later = all_left_grant (leave_one rows x) xs q row is in
    let first = left_grant rows x q later.0 later.1 in
    (first.0, first.1, first.2 ∙ later.2)

pub left_none : (rows : Rows) (x q : ℕ) → table.get rows q ≡ None → table.get (leave_one rows x) q ≡ None
left_none rows x q none = left_at rows x q (table.get rows x) refl ∙ ap (λ (o : Option ChunkRow). cond (q == x) (leave o) o) none ∙ by_key (q == x)
  where
    by_key : (b : Bool) → cond b (leave None) None ≡ None
    by_key true = refl
    by_key false = refl

pub all_left_none : (rows : Rows) (hs : List ℕ) (q : ℕ) → table.get rows q ≡ None → table.get (leave_all rows hs) q ≡ None
all_left_none rows [] q none = none
all_left_none rows (x ∷ xs) q none = all_left_none (leave_one rows x) xs q (left_none rows x q none)

pub shared_none : (rows : Rows) (x q : ℕ) → table.get rows q ≡ None → table.get (share_one rows x) q ≡ None
shared_none rows x q none = changed_at rows x q row_shared (table.get rows x) refl ∙ ap (λ (o : Option ChunkRow). cond (q == x) (option_map row_shared o) o) none ∙ by_key (q == x)
  where
    by_key : (b : Bool) → cond b (option_map row_shared None) None ≡ None
    by_key true = refl
    by_key false = refl

differs_too : (a b : ℕ) → (b ≡ a → ⊥) → (a == b) ≡ false
differs_too a b differs = by_test (a == b) refl
  where
    by_test : (t : Bool) → (a == b) ≡ t → (a == b) ≡ false
    by_test true e = absurd (differs (sym (eqb-true a b e)))
    by_test false e = e

-- the row of a chunk's only owner goes with it
pub last_left : (rows : Rows) (hs : List ℕ) (q : ℕ) (row : ChunkRow) → table.get rows q ≡ Some row → row.references ≤ 1 → 1 ≤ stands q hs → table.get (leave_all rows hs) q ≡ None
last_left rows [] q row is few some = absurd (omega (arith, some))
last_left rows (x ∷ xs) q row is few some = by_key (q == x) refl (λ stays more. last_left (leave_one rows x) xs q row stays few more)
  where
    by_key : (b : Bool) → (q == x) ≡ b → (table.get (leave_one rows x) q ≡ Some row → 1 ≤ stands q xs → table.get (leave_all (leave_one rows x) xs) q ≡ None) → table.get (leave_all (leave_one rows x) xs) q ≡ None
    by_key true e later =
        all_left_none (leave_one rows x) xs q
        (left_at rows x q (table.get rows x) refl ∙ ap (λ (b : Bool). cond b (leave (table.get rows q)) (table.get rows q)) e ∙ ap leave is
        ∙ ap (λ (b : Bool). cond b None (Some (record row { references = row.references - 1 }))) (le-leb row.references 1 few))
    by_key false e later =
        let stays : table.get (leave_one rows x) q ≡ Some row = left_at rows x q (table.get rows x) refl ∙ ap (λ (b : Bool). cond b (leave (table.get rows q)) (table.get rows q)) e ∙ is in
        let whole = count-cons (λ h. h == q) x xs in
        let differs : (x == q) ≡ false = differs_too x q (eqb-false q x e) in
        let first = ap {B = ℕ} (λ (b : Bool). cond b 1 0) differs in
        later stays (omega (arith, some, whole, first))

-- references are counted
pub counted : (t : ChunkTable) → HasAllReferences t → AreCounted t
counted t all q = by_row (chunk_of t q) refl
  where
    none_stands : table.get t.chunks q ≡ None → (n : ℕ) → times_in t.files q ≡ n → times_in t.files q ≡ 0
    none_stands is zero e = e
    none_stands is (suc n) e = absurd (let both : true ≡ false = sym (all.1 q (omega (arith, e))) ∙ ap is_some is in cc)

    by_row : (o : Option ChunkRow) → chunk_of t q ≡ o → refs t.chunks q ≡ times_in t.files q
    by_row None is = ap references_of is ∙ sym (none_stands is (times_in t.files q) refl)
    by_row (Some row) is = ap references_of is ∙ all.0 q row is

-- one place at most
pub one_place : (hs : List ℕ) (q i n : ℕ) → stands q hs ≤ 1 → element_at hs i ≡ Some q → element_at hs n ≡ Some q → i ≡ n
one_place [] q i n few at other = none_some q at
one_place (x ∷ xs) q zero zero few at other = refl
one_place (x ∷ xs) q zero (suc n) few at other =
    let whole = count-cons (λ h. h == q) x xs in
    let first = tally_same x q (sym (same_some x q at)) in
    let more = placed_stands xs n q other in
    absurd (omega (arith, whole, first, more, few))
one_place (x ∷ xs) q (suc i) zero few at other =
    let whole = count-cons (λ h. h == q) x xs in
    let first = tally_same x q (sym (same_some x q other)) in
    let more = placed_stands xs i q at in
    absurd (omega (arith, whole, first, more, few))
one_place (x ∷ xs) q (suc i) (suc n) few at other = let whole = count-cons (λ h. h == q) x xs in ap suc (one_place xs q i n (omega (arith, whole, few)) at other)

-- a list with another element at a place
pub set_there : (xs : List ℕ) (at y : ℕ) → at < length xs → element_at (slice_set xs at y) at ≡ Some y
set_there [] at y low = absurd (omega (arith, low))
set_there (x ∷ xs) zero y low = refl
set_there (x ∷ xs) (suc at) y low = set_there xs at y (omega (arith, low))

pub set_other : (xs : List ℕ) (at y n : ℕ) → (n ≡ at → ⊥) → element_at (slice_set xs at y) n ≡ element_at xs n
set_other [] at y n differs = refl
set_other (x ∷ xs) zero y zero differs = absurd (differs refl)
set_other (x ∷ xs) zero y (suc n) differs = refl
set_other (x ∷ xs) (suc at) y zero differs = refl
set_other (x ∷ xs) (suc at) y (suc n) differs = set_other xs at y n (λ same. differs (ap suc same))

pub set_length : (xs : List ℕ) (at y : ℕ) → length (slice_set xs at y) ≡ length xs
set_length [] at y = refl
set_length (x ∷ xs) zero y = refl
set_length (x ∷ xs) (suc at) y = ap suc (set_length xs at y)
