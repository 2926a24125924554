-- Lists that were copied from a table are put in the place of older ones.
use Rattle.std.proofs.Common.{◌≡◌, ℕ, Bool, true, false, cond, List, [], ◌∷◌, ◌++◌, Some, None, Option, refl, sym, ap, ◌∙◌, ◌+◌, ◌-◌, ◌<◌, length, get_or, drop, arith}
use Rattle.std.specs.Prelude.{◌==◌, ◌||◌, option_to_list, IsSome}
use Rattle.std.specs.List.{list_any}
use Rattle.std.specs.Ordering.{nat_cmp, eq_by_cmp}
use Rattle.std.specs.Cmp.{nat_cmp_total}
use Rattle.std.specs.FinMap.{get, get-insert, get-remove, same_map, nat_cmp-IsAntisymmetric}
use Rattle.std.proofs.lemmas.Bool.{eqb-true, eqb-false}
use Rattle.std.proofs.lemmas.List.{at_drop_more, length-append}
use Rattle.std.proofs.Math.Seq.{get_or-append_seam}
use Rattle.chunk_table.specs.ChunkTable.{NumberTable, ChunkTable, file_of}
use Rattle.chunk_table.proofs.Lookups.{at_key}
use Rattle.master_cell.specs.declared.copy.FileCopy.{FileCopy}
use Rattle.master_cell.specs.Copies.{with_file_as, with_list, with_lists, copy_of, copies_of}

get_file : (m : NumberTable (List ℕ)) (n : ℕ) (o : Option (List ℕ)) (q : ℕ) → get (with_file_as m n o) q ≡ cond (eq_by_cmp nat_cmp q n) o (get m q)
get_file m n None q = get-remove nat_cmp_total m n q
get_file m n (Some handles) q = get-insert nat_cmp_total m n handles q

-- one list is looked up, and the others stay
pub at_file : (m : NumberTable (List ℕ)) (c : FileCopy) (q : ℕ) → q ≡ c.file.0 → get (with_list m c) q ≡ c.handles
at_file m c q same =
    get_file m c.file.0 c.handles q
    ∙ at_key (λ x o. x ≡ c.file.0 → o ≡ c.handles) q c.file.0 c.handles (get m q) (λ _. refl) (λ apart here. absurd (apart here)) same

pub other_file : (m : NumberTable (List ℕ)) (c : FileCopy) (q : ℕ) → (q ≡ c.file.0 → ⊥) → get (with_list m c) q ≡ get m q
other_file m c q apart =
    get_file m c.file.0 c.handles q
    ∙ at_key (λ x o. (x ≡ c.file.0 → ⊥) → o ≡ get m x) q c.file.0 c.handles (get m q) (λ other. absurd (other refl)) (λ _ _. refl) apart

-- the last of the lists is put first
pub last_first : (m : NumberTable (List ℕ)) (copies : List FileCopy) (c : FileCopy) → with_lists m (copies ++ c ∷ []) ≡ with_lists (with_list m c) copies
last_first m [] c = refl
last_first m (x ∷ rest) c = ap (λ files. with_list files x) (last_first m rest c)

-- the last one is put and taken out
pub settled_one : (m m' : NumberTable (List ℕ)) (late left : List FileCopy) (popped : Option FileCopy) (c : FileCopy) → 0 < length late → c ≡ get_or late (length late - 1) c → late ≡ left ++ option_to_list popped
    → m' ≡ with_list m c → IsSome popped → (with_lists m' left ≡ with_lists m late) × (length left + 1 ≡ length late)
settled_one m m' late left None c some is parts made there = absurd cc
settled_one m m' late left (Some x) c some is parts made there =
    let sizes : length late ≡ length left + 1 = ap length parts ∙ length-append left (x ∷ []) in
    let at : length late - 1 ≡ length left = omega (arith, sizes) in
    let same : c ≡ x = is ∙ ap (λ n. get_or late n c) at ∙ ap (λ l. get_or l (length left) c) parts ∙ get_or-append_seam left x [] c in
    (ap (λ f. with_lists f left) (made ∙ ap (with_list m) same) ∙ sym (last_first m left x) ∙ ap (with_lists m) (sym parts), sym sizes)

-- the lists from a place on, of which the first is for this file, or isn't
pub from_place : (m : NumberTable (List ℕ)) (late : List FileCopy) (i q : ℕ) (c : FileCopy) → i < length late → c ≡ get_or late i c
    → get (with_lists m (drop i late)) q ≡ get (with_list (with_lists m (drop (i + 1) late)) c) q
from_place m late i q c within is =
    at_drop_more (λ l. get (with_lists m l) q) late i c within ∙ ap (λ (x : FileCopy). get (with_list (with_lists m (drop (i + 1) late)) x) q) (sym is)

-- at each file that is named the new list, else the old one
one_more : (old m : NumberTable (List ℕ)) (t : ChunkTable) (n : ℕ) (rest : List ℕ) (q : ℕ) (b : Bool) → (n == q) ≡ b → get m q ≡ cond (list_any (λ x. x == q) rest) (file_of t q) (get old q)
    → get (with_list m (copy_of t n)) q ≡ cond (b || list_any (λ x. x == q) rest) (file_of t q) (get old q)
one_more old m t n rest q true e h =
    let same : n ≡ q = eqb-true n q e in
    at_file m (copy_of t n) q (sym same) ∙ ap (file_of t) same
one_more old m t n rest q false e h = other_file m (copy_of t n) q (λ same. eqb-false n q e (sym same)) ∙ h

looked_up : (old : NumberTable (List ℕ)) (t : ChunkTable) (files : List ℕ) (q : ℕ) → get (with_lists old (copies_of t files)) q ≡ cond (list_any (λ x. x == q) files) (file_of t q) (get old q)
looked_up old t [] q = refl
looked_up old t (n ∷ rest) q = one_more old (with_lists old (copies_of t rest)) t n rest q (n == q) refl (looked_up old t rest q)

-- where all other files have their lists, all files have theirs then
pub updated : (old : NumberTable (List ℕ)) (t : ChunkTable) (files : List ℕ) → ((q : ℕ) → list_any (λ x. x == q) files ≡ false → file_of t q ≡ get old q) → with_lists old (copies_of t files) ≡ t.files
updated old t files others =
    same_map nat_cmp_total nat_cmp-IsAntisymmetric _ _ (λ q. looked_up old t files q ∙ by_test q (list_any (λ x. x == q) files) refl)
  where
    by_test : (q : ℕ) (b : Bool) → list_any (λ x. x == q) files ≡ b → cond b (file_of t q) (get old q) ≡ file_of t q
    by_test q true e = refl
    by_test q false e = sym (others q e)
