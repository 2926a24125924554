-- Paths of which neither lies at or below the other have nothing in common that lies at or below both.
use Rattle.std.proofs.Common.{◌≡◌, ◌⊎◌, ℕ, Bool, true, false, List, [], ◌∷◌, ◌++◌, length, refl, sym, ap, subst, ◌∙◌, inl, inr, arith, append_assoc}
use Rattle.std.specs.Prelude.{◌&&◌, ◌||◌}
use Rattle.std.specs.Str.{bytes_eq}
use Rattle.std.proofs.lemmas.Bool.{true≢false, or_parts}
use Rattle.gfs_types.specs.Paths.{Path, root, trash, is_path, parent, is_below, is_at_or_below}
use Rattle.relaxed_file.specs.NameStep.{is_in_trash, is_reserved}
use Rattle.relaxed_file.specs.Locks.{conflict_at}
use Rattle.relaxed_file.proofs.PathParts.{same_paths, other_paths, Parted, at_slash, whole, parted, parent_of, below_is, child_of_parent, IsTail, at_or_below_from, at_or_below_is}

-- neither path is at or below the other
pub record IsApart (p q : Path) : Type 0 where
  pub below : is_at_or_below p q ≡ false
  pub above : is_at_or_below q p ≡ false

-- two that lie at or above one path lie one above the other
abbrev IsContinued : List ℕ → List ℕ → Type 0
IsContinued a b = (u : List ℕ) × IsTail u × (b ≡ a ++ u)

same_head : (x y : ℕ) (xs ys : List ℕ) → x ∷ xs ≡ y ∷ ys → (x ≡ y) × (xs ≡ ys)
same_head x y xs ys h = (
  ap (λ (t : List ℕ). elim t as (λ s. ℕ) [ [] ↦ x | z ∷ zs ↦ z ]) h,
  ap (λ (t : List ℕ). elim t as (λ s. List ℕ) [ [] ↦ xs | z ∷ zs ↦ zs ]) h,
)

tail_begins : (c : ℕ) (rest s t : List ℕ) → IsTail s → s ≡ (c ∷ rest) ++ t → c ≡ 47
tail_begins c rest [] t tail same = let l : 0 ≡ length ((c ∷ rest) ++ t) = ap (λ (k : List ℕ). length k) same in absurd (omega (arith, l))
tail_begins c rest (x ∷ s) t tail same = sym (same_head x c s (rest ++ t) same).0 ∙ tail

comparable : (a b s t : List ℕ) → IsTail s → IsTail t → a ++ s ≡ b ++ t → IsContinued a b ⊎ IsContinued b a
comparable [] [] s t tail_s tail_t same = inl ([], tt, refl)
comparable [] (c ∷ b) s t tail_s tail_t same = inl (c ∷ b, tail_begins c b s t tail_s same, refl)
comparable (c ∷ a) [] s t tail_s tail_t same = inr (c ∷ a, tail_begins c a t s tail_t (sym same), refl)
comparable (c ∷ a) (d ∷ b) s t tail_s tail_t same =
    let parts : (c ≡ d) × (a ++ s ≡ b ++ t) = same_head c d (a ++ s) (b ++ t) same in
    elim (comparable a b s t tail_s tail_t parts.1) [
      | inl more ↦ inl (more.0, more.1, ap (λ (k : ℕ). k ∷ b) (sym parts.0) ∙ ap (λ (k : List ℕ). c ∷ k) more.2)
      | inr more ↦ inr (more.0, more.1, ap (λ (k : ℕ). k ∷ a) parts.0 ∙ ap (λ (k : List ℕ). d ∷ k) more.2)
    ]

continued_at : (a b : Path) → (a ≡ root → ⊥) → IsContinued a b → is_at_or_below a b ≡ true
continued_at a b other h = subst (λ (p : Path). is_at_or_below a p ≡ true) (sym h.2) (at_or_below_from a h.0 other h.1)

pub nothing_in_both : (p q x : Path) → (p ≡ root → ⊥) → (q ≡ root → ⊥) → IsApart p q → is_at_or_below p x ≡ true → is_at_or_below q x ≡ true → ⊥
nothing_in_both p q x p_other q_other h one two =
    let by_p = at_or_below_is p x p_other one in
    let by_q = at_or_below_is q x q_other two in
    elim (comparable p q by_p.0 by_q.0 by_p.2 by_q.2 (sym by_p.1 ∙ by_q.1)) [
      | inl more ↦ true≢false (sym (continued_at p q p_other more) ∙ h.below)
      | inr more ↦ true≢false (sym (continued_at q p q_other more) ∙ h.above)
    ]

pub at_itself : (p : Path) → is_at_or_below p p ≡ true
at_itself p = ap (λ (b : Bool). b || is_below p p) (same_paths p p refl)

pub apart_differ : (p q : Path) → IsApart p q → p ≡ q → ⊥
apart_differ p q h same = true≢false (sym (at_itself p) ∙ ap (λ (x : Path). is_at_or_below p x) same ∙ h.below)

-- no lock conflicts, of two that write
first_false : (b : Bool) → b && true ≡ false → b ≡ false
first_false false e = refl
first_false true e = e

both_false : (a b : Bool) → a ≡ false → b ≡ false → a || b ≡ false
both_false a b e f = ap (λ (x : Bool). x || b) e ∙ f

pub passes_lock : (p q : Path) → conflict_at true p true q ≡ false → IsApart p q
passes_lock p q h =
    let last = or_parts ((bytes_eq p q && true) || is_below p q) (is_below q p) h in
    let more = or_parts (bytes_eq p q && true) (is_below p q) last.0 in
    let other : bytes_eq p q ≡ false = first_false (bytes_eq p q) more.0 in
    record {
      below = both_false (bytes_eq q p) (is_below p q) (other_paths q p (λ same. true≢false (sym (same_paths p q (sym same)) ∙ other))) more.1;
      above = both_false (bytes_eq p q) (is_below q p) other last.1;
    }

-- paths and their parents

above_parts : (d r : List ℕ) → Parted r → (c : ℕ) (e : List ℕ) → d ≡ c ∷ e → (d ≡ root → ⊥) → is_at_or_below d (parent (d ++ 47 ∷ r)) ≡ true
above_parts d r (whole part h) c e is other =
    let up : parent (d ++ 47 ∷ part) ≡ d = ap (λ (x : List ℕ). parent (x ++ 47 ∷ part)) is ∙ parent_of c e part h ∙ sym is in
    ap (λ (x : Path). is_at_or_below d x) up ∙ at_itself d
above_parts d r (at_slash front part h) c e is other =
    let up : parent (d ++ 47 ∷ (front ++ 47 ∷ part)) ≡ d ++ 47 ∷ front =
    ap (λ (x : List ℕ). parent (x ++ 47 ∷ (front ++ 47 ∷ part))) is ∙ ap parent (sym (append_assoc (c ∷ e) (47 ∷ front) (47 ∷ part))) ∙ parent_of c (e ++ 47 ∷ front) part h
    ∙ ap (λ (x : List ℕ). x ++ 47 ∷ front) (sym is) in
    ap (λ (x : Path). is_at_or_below d x) up ∙ at_or_below_from d (47 ∷ front) other refl

-- what is below a directory has a parent at or below it
pub parent_below : (d p : Path) → is_path d ≡ true → (d ≡ root → ⊥) → is_below d p ≡ true → is_at_or_below d (parent p) ≡ true
parent_below [] p path other below = absurd (true≢false (sym path))
parent_below (c ∷ e) p path other below =
    let rest = below_is (c ∷ e) p other below in
    ap (λ (x : Path). is_at_or_below (c ∷ e) (parent x)) rest.1 ∙ above_parts (c ∷ e) rest.0 (parted rest.0) c e refl other

-- what is at or below a path, and not it
further : (d p : Path) → (p ≡ d → ⊥) → is_at_or_below d p ≡ true → is_below d p ≡ true
further d p differs at = ap (λ (b : Bool). b || is_below d p) (sym (other_paths p d differs)) ∙ at

at_top : (d : Path) → is_path d ≡ true → (d ≡ root → ⊥) → is_at_or_below d root ≡ true → ⊥
at_top [] path other at = true≢false (sym path)
at_top (c ∷ e) path other at =
    let is = at_or_below_is (c ∷ e) root other at in
    let parts : (47 ≡ c) × ([] ≡ e ++ is.0) = same_head 47 c [] (e ++ is.0) is.1 in
    let l : 0 ≡ length (e ++ is.0) = ap (λ (k : List ℕ). length k) parts.1 in
    other (ap (λ (k : ℕ). k ∷ e) (sym parts.0) ∙ ap (λ (k : List ℕ). 47 ∷ k) (nothing e is.0 l))
  where
    nothing : (a b : List ℕ) → 0 ≡ length (a ++ b) → a ≡ []
    nothing [] b l = refl
    nothing (x ∷ a) b l = absurd (omega (arith, l))

pub open_path : (d : Path) → is_reserved d ≡ false → (d ≡ root → ⊥) × (is_in_trash d ≡ false)
open_path d h =
    let parts = or_parts (bytes_eq d root) (is_in_trash d) h in
    (λ same. true≢false (sym (same_paths d root same) ∙ parts.0), parts.1)

-- a directory that is open to clients lies not above the directory of deleted files
pub not_above_trash : (d : Path) → is_path d ≡ true → is_reserved d ≡ false → is_at_or_below d trash ≡ true → ⊥
not_above_trash d path free at =
    let out = open_path d free in
    at_top d path out.0 (parent_below d trash path out.0 (further d trash (λ same. true≢false (sym (at_itself trash) ∙ ap (λ (x : Path). is_in_trash x) same ∙ out.1)) at))

-- nor has it anything in common with it
pub trash_apart : (d : Path) → is_path d ≡ true → is_reserved d ≡ false → IsApart trash d
trash_apart d path free = record { below = (open_path d free).1; above = by_test (is_at_or_below d trash) refl }
  where
    by_test : (b : Bool) → is_at_or_below d trash ≡ b → is_at_or_below d trash ≡ false
    by_test false e = e
    by_test true e = absurd (not_above_trash d path free e)

no_root : trash ≡ root → ⊥
no_root same = let l : length trash ≡ length root = ap (λ (k : List ℕ). length k) same in absurd (omega (arith, l))

pub not_in_trash : (d x : Path) → is_path d ≡ true → is_reserved d ≡ false → is_in_trash x ≡ true → is_at_or_below d x ≡ true → ⊥
not_in_trash d x path free in_trash at = nothing_in_both trash d x no_root (open_path d free).0 (trash_apart d path free) in_trash at

-- what is below a directory at or below another is at or below that too
at_below : (q d p : Path) → (q ≡ root → ⊥) → (d ≡ root → ⊥) → is_at_or_below q d ≡ true → is_below d p ≡ true → is_at_or_below q p ≡ true
at_below q d p q_other d_other at below =
    let one = at_or_below_is q d q_other at in
    let two = below_is d p d_other below in
    let place : p ≡ q ++ (one.0 ++ 47 ∷ two.0) = two.1 ∙ ap (λ (x : List ℕ). x ++ 47 ∷ two.0) one.1 ∙ append_assoc q one.0 (47 ∷ two.0) in
    subst (λ (x : Path). is_at_or_below q x ≡ true) (sym place) (at_or_below_from q (one.0 ++ 47 ∷ two.0) q_other (joined one.0 two.0 one.2))
  where
    joined : (s t : List ℕ) → IsTail s → IsTail (s ++ 47 ∷ t)
    joined [] t tail = refl
    joined (c ∷ s) t tail = tail

pub parent_at : (q p : Path) → is_path q ≡ true → (q ≡ root → ⊥) → is_at_or_below q (parent p) ≡ true → is_at_or_below q p ≡ true
parent_at q p path other at =
    let d_other : parent p ≡ root → ⊥ = λ same. at_top q path other (sym (ap (λ (x : Path). is_at_or_below q x) same) ∙ at) in
    at_below q (parent p) p other d_other at (first_of (is_below (parent p) p) _ (child_of_parent (parent p) p d_other refl))
  where
    first_of : (a b : Bool) → a && b ≡ true → a ≡ true
    first_of true b e = refl
    first_of false b e = absurd (true≢false (sym e))

-- what stands right in the trash is no path that clients may name
pub parent_in_trash : (p : Path) → is_reserved p ≡ false → is_in_trash (parent p) ≡ true → ⊥
parent_in_trash p free at = true≢false (sym (parent_at trash p refl no_root at) ∙ (open_path p free).1)
