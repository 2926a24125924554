-- A chunk that stands in a file's list has an owner, so that a number may be issued just where it isn't shared.
use Rattle.std.proofs.Common.{◌≡◌, ℕ, zero, suc, ◌+◌, ◌≤◌, Bool, true, false, not, cond, ltb, leb, ◌==◌, List, [], ◌∷◌, Option, Some, None, ◌↔◌, refl, sym, ap, ◌∙◌, subst, arith}
use Rattle.std.specs.Prelude.{slice_get, unwrap_or, IsTrue}
use Rattle.std.proofs.lemmas.List.Sums.{sum_by-cons}
use Rattle.std.proofs.lemmas.Bool.Decides.{nat_tests}
use Rattle.std.specs.FinMap.{get, remove}
use Rattle.chunk_table.specs.ChunkTable.{NumberTable, ChunkRow, TableState, handles_of, chunk_of}
use Rattle.chunk_table.specs.Owners.{times, owners, total, references_at, references_in}
use Rattle.chunk_table.proofs.Sums.{total_removed}
use Rattle.protocol.specs.Tables.{element_at, has_number, removed_all}
use Rattle.snapshot.specs.declared.copy_plan.CopyPlan.{CopyPlan}
use Rattle.snapshot.specs.CopyPlans.{copy_of_row, copy_of_handle, copy_of_chunk, file_id, handle_id, version_id}

is_it : (x n : ℕ) → x ≡ n → (x == n) ≡ true
is_it x n e = grind (arith, nat_tests)

one_of : (b : Bool) (n k : ℕ) → b ≡ true → n ≡ cond b 1 0 + k → 1 ≤ n
one_of true n k e s = omega (arith, s)
one_of false n k e s = cc

stands_in : (hs : List ℕ) (index handle : ℕ) → element_at hs index ≡ Some handle → 1 ≤ times handle hs
stands_in [] index handle e = cc
stands_in (x ∷ xs) zero handle e =
    let same : x ≡ handle = cc in
    let split : times handle (x ∷ xs) ≡ cond (x == handle) 1 0 + times handle xs = sum_by-cons (λ y. cond (y == handle) 1 0) x xs in
    one_of (x == handle) (times handle (x ∷ xs)) (times handle xs) (is_it x handle same) split
stands_in (x ∷ xs) (suc n) handle e =
    let rest : 1 ≤ times handle xs = stands_in xs n handle e in
    let split : times handle (x ∷ xs) ≡ cond (x == handle) 1 0 + times handle xs = sum_by-cons (λ y. cond (y == handle) 1 0) x xs in
    omega (arith, split, rest)

has_owner : (files : NumberTable (List ℕ)) (file index handle : ℕ) (o : Option (List ℕ)) → get files file ≡ o → element_at (unwrap_or o []) index ≡ Some handle → 1 ≤ owners files handle
has_owner files file index handle None is e = cc
has_owner files file index handle (Some hs) is e =
    let here : 1 ≤ times handle hs = stands_in hs index handle e in
    let all : total (times handle) files ≡ times handle hs + total (times handle) (remove files file) = total_removed (times handle) files file hs is in
    omega (arith, here, all)

one_owner : (references : ℕ) → 1 ≤ references → (b : Bool) → (b ≡ true → references ≡ 1) → (references ≡ 1 → b ≡ true) → b ≡ not (ltb 1 references)
one_owner references le true f g =
    let is : references ≡ 1 = f refl in
    let no : ltb 1 references ≡ false = grind (arith, nat_tests) in
    sym (ap not no)
one_owner references le false f g =
    elim (ltb 1 references) as (λ x. ltb 1 references ≡ x → false ≡ not x) [
      | true ↦ λ e. refl
      | false ↦ λ e. absurd (let one : references ≡ 1 = grind (arith, nat_tests) in let both : false ≡ true = g one in cc)
    ] refl

-- whether a number may be issued, of a chunk whose lease has ended
pub issuable : (s : TableState) (file index handle now : ℕ) (row : ChunkRow) (b : Bool) → references_at s.table.chunks handle ≡ owners s.table.files handle
    → element_at (handles_of s.table file) index ≡ Some handle → chunk_of s.table handle ≡ Some row → row.lease_end ≤ now
    → (IsTrue b ↔ (row.lease_end ≤ now) × (row.references ≡ 1)) → b ≡ not (ltb 1 row.references)
issuable s file index handle now row b counts listed stands ended is =
    let owned : 1 ≤ owners s.table.files handle = has_owner s.table.files file index handle (get s.table.files file) refl listed in
    let kept : row.references ≡ owners s.table.files handle = sym (ap references_in stands) ∙ counts in
    one_owner row.references (subst (λ n. 1 ≤ n) (sym kept) owned) b (λ e. (is.0 e).1) (λ e. is.1 (ended, e))

-- the place of a list is that of a slice
same_place : (xs : List ℕ) (n : ℕ) → slice_get xs n ≡ element_at xs n
same_place [] zero = refl
same_place [] (suc n) = refl
same_place (x ∷ xs) zero = refl
same_place (x ∷ xs) (suc n) = same_place xs n

-- the copy of a shared chunk
pub planned : (s : TableState) (file index handle : ℕ) (row : ChunkRow) → element_at (handles_of s.table file) index ≡ Some handle → chunk_of s.table handle ≡ Some row
    → ltb 1 row.references ≡ true
    → copy_of_chunk s file index ≡ Some (record { file = file_id file; index = index; source = handle_id handle; copy = handle_id s.next_handle; version = version_id (suc row.issued) })
planned s file index handle row listed stands shared =
    ap (copy_of_handle s file index) (same_place (handles_of s.table file) index ∙ listed)
    ∙ ap (copy_of_row s file index handle) stands
    ∙ ap (λ b. cond b (Some (record { file = file_id file; index = index; source = handle_id handle; copy = handle_id s.next_handle; version = version_id (suc row.issued) })) None) shared

-- the row that was found is the one that is known
pub found_row : (found known : ChunkRow) → Some found ≡ Some known → found ≡ known
found_row found known e = cc

-- a lease that has ended, by the step's moment
pub has_ended_at : (end now moment : ℕ) → leb end now ≡ true → moment ≡ now → end ≤ moment
has_ended_at end now moment e is = let ended : end ≤ now = grind (arith, nat_tests) in omega (arith, ended, is)
