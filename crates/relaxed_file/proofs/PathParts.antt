-- Paths by their last slash: what stands before it is the parent.
use Rattle.std.proofs.Common.{◌≡◌, ℕ, zero, suc, ◌+◌, ◌-◌, ◌<◌, true, false, not, cond, List, [], ◌∷◌, ◌++◌, length, get_or, take, drop, refl, sym, ◌∙◌, ap, subst, arith, length-append, append_assoc, get_or-append-add, append-nil, ◌||◌}
use Rattle.std.specs.List.{AllByRecursion, before_last, suffix_len}
use Rattle.std.specs.Str.{bytes_eq}
use Rattle.std.proofs.lemmas.Bool.{and_parts, and_from, false_from_ne_true, or_right, eqb-true}
use Rattle.std.proofs.lemmas.Slice.Eq.{bytes_eq-Decides}
use Rattle.std.proofs.lemmas.List.Sums.{suffix_len_is}
use Rattle.std.proofs.lemmas.List.{take_at, take-append-drop}
use Rattle.gfs_types.specs.Paths.{Path, root, is_slash, parent, front_below, is_below, is_at_or_below, is_child}

abbrev pub HasNoSlash : List ℕ → Type 0
HasNoSlash part = AllByRecursion (λ c. is_slash c ≡ false) part

pub equal_paths : (a b : List ℕ) → bytes_eq a b ≡ true → a ≡ b
equal_paths a b h = (bytes_eq-Decides a b).0 h

pub same_paths : (a b : List ℕ) → a ≡ b → bytes_eq a b ≡ true
same_paths a b h = (bytes_eq-Decides a b).1 h

pub other_paths : (a b : List ℕ) → (a ≡ b → ⊥) → bytes_eq a b ≡ false
other_paths a b h = false_from_ne_true (bytes_eq a b) (λ same. h (equal_paths a b same))

no_slash_at : (part : List ℕ) (k d : ℕ) → HasNoSlash part → k < length part → is_slash (get_or part k d) ≡ false
no_slash_at [] k d h l = absurd (omega arith)
no_slash_at (c ∷ rest) zero d h l = h.0
no_slash_at (c ∷ rest) (suc k) d h l = no_slash_at rest k d h.1 (omega arith)

-- a path with a slash, by its last one
pub data Parted : List ℕ → Type 0 where
  at_slash : (front part : List ℕ) → HasNoSlash part → Parted (front ++ 47 ∷ part)
  whole : (part : List ℕ) → HasNoSlash part → Parted part

more_parted : (c : ℕ) (rest : List ℕ) → Parted rest → Parted (c ∷ rest)
more_parted c rest (at_slash front part h) = at_slash (c ∷ front) part h
more_parted c rest (whole part h) = elim (is_slash c) as (λ b. is_slash c ≡ b → Parted (c ∷ part)) [
  | true ↦ λ e. subst (λ k. Parted (k ∷ part)) (sym (eqb-true c 47 e)) (at_slash [] part h)
  | false ↦ λ e. whole (c ∷ part) (e, h)
] refl

pub parted : (path : List ℕ) → Parted path
parted [] = whole [] tt
parted (c ∷ rest) = more_parted c rest (parted rest)

front_of : (front part : List ℕ) → HasNoSlash part → before_last is_slash (front ++ 47 ∷ part) ≡ front
front_of front part h =
    let whole_length : length (front ++ 47 ∷ part) ≡ length front + suc (length part) = length-append front (47 ∷ part) in
    let count : suffix_len (λ x. not (is_slash x)) (front ++ 47 ∷ part) ≡ length (front ++ 47 ∷ part) - suc (length front) =
    suffix_len_is (λ x. not (is_slash x)) (front ++ 47 ∷ part) (suc (length front)) 0 (omega (arith, whole_length))
    (λ k from below.
    let at : k ≡ length front + suc (k - suc (length front)) = omega arith in
    let value : get_or (front ++ 47 ∷ part) k 0 ≡ get_or part (k - suc (length front)) 0 = ap (λ j. get_or (front ++ 47 ∷ part) j 0) at ∙ get_or-append-add front (47 ∷ part) (suc (k - suc (length front))) 0 in
    ap (λ c. not (is_slash c)) value ∙ ap not (no_slash_at part (k - suc (length front)) 0 h (omega (arith, whole_length, below, from))))
    (λ some.
    let at : suc (length front) - 1 ≡ length front + 0 = omega arith in
    let value : get_or (front ++ 47 ∷ part) (suc (length front) - 1) 0 ≡ 47 = ap (λ j. get_or (front ++ 47 ∷ part) j 0) at ∙ get_or-append-add front (47 ∷ part) 0 0 in
    ap (λ c. not (is_slash c)) value) in
    let kept : length (front ++ 47 ∷ part) - suffix_len (λ x. not (is_slash x)) (front ++ 47 ∷ part) - 1 ≡ length front = omega (arith, count, whole_length) in
    ap (λ n. take n (front ++ 47 ∷ part)) kept ∙ take_at front (47 ∷ part) (length front) refl

no_front : (part : List ℕ) → HasNoSlash part → before_last is_slash part ≡ []
no_front part h =
    let count : suffix_len (λ x. not (is_slash x)) part ≡ length part - 0 =
    suffix_len_is (λ x. not (is_slash x)) part 0 0 (omega arith) (λ k from below. ap not (no_slash_at part k 0 h below)) (λ some. absurd (omega arith)) in
    let kept : length part - suffix_len (λ x. not (is_slash x)) part - 1 ≡ 0 = omega (arith, count) in
    ap (λ n. take n part) kept

pub parent_of : (c : ℕ) (front part : List ℕ) → HasNoSlash part → parent ((c ∷ front) ++ 47 ∷ part) ≡ c ∷ front
parent_of c front part h = ap (λ (b : List ℕ). cond (bytes_eq b []) root b) (front_of (c ∷ front) part h)

pub parent_at_top : (part : List ℕ) → HasNoSlash part → parent (47 ∷ part) ≡ root
parent_at_top part h = ap (λ (b : List ℕ). cond (bytes_eq b []) root b) (front_of [] part h)

pub parent_of_part : (part : List ℕ) → HasNoSlash part → parent part ≡ root
parent_of_part part h = ap (λ (b : List ℕ). cond (bytes_eq b []) root b) (no_front part h)

-- what lies below a directory begins with it and a slash
front_is : (d : Path) → (d ≡ root → ⊥) → front_below d ≡ d ++ 47 ∷ []
front_is d other = ap (λ b. cond b root (d ++ 47 ∷ [])) (other_paths d root other)

longer : (d r : List ℕ) → d ++ 47 ∷ r ≡ d → ⊥
longer d r h = let l : length (d ++ 47 ∷ r) ≡ length d = ap (λ (x : List ℕ). length x) h in omega (arith, l, length-append d (47 ∷ r))

pub below_from : (d r : List ℕ) → (d ≡ root → ⊥) → is_below d (d ++ 47 ∷ r) ≡ true
below_from d r other =
    let regrouped : d ++ 47 ∷ r ≡ (d ++ 47 ∷ []) ++ r = sym (append_assoc d (47 ∷ []) r) in
    let begins : bytes_eq (d ++ 47 ∷ []) (take (length (d ++ 47 ∷ [])) (d ++ 47 ∷ r)) ≡ true =
    same_paths _ _ (sym (ap (take (length (d ++ 47 ∷ []))) regrouped ∙ take_at (d ++ 47 ∷ []) r (length (d ++ 47 ∷ [])) refl)) in
    and_from _ _ (subst (λ f. bytes_eq f (take (length f) (d ++ 47 ∷ r)) ≡ true) (sym (front_is d other)) begins)
    (ap not (other_paths (d ++ 47 ∷ r) d (longer d r)))

pub below_is : (d p : List ℕ) → (d ≡ root → ⊥) → is_below d p ≡ true → (r : List ℕ) × (p ≡ d ++ 47 ∷ r)
below_is d p other h =
    let begins : bytes_eq (d ++ 47 ∷ []) (take (length (d ++ 47 ∷ [])) p) ≡ true = subst (λ f. bytes_eq f (take (length f) p) ≡ true) (front_is d other) (and_parts _ _ h).0 in
    let same : d ++ 47 ∷ [] ≡ take (length (d ++ 47 ∷ [])) p = equal_paths _ _ begins in
    (drop (length (d ++ 47 ∷ [])) p, sym (take-append-drop (length (d ++ 47 ∷ [])) p) ∙ ap (λ f. f ++ drop (length (d ++ 47 ∷ [])) p) (sym same) ∙ append_assoc d (47 ∷ []) (drop (length (d ++ 47 ∷ [])) p))

-- what has a directory as its parent is its child
pub child_of_parent : (d p : Path) → (d ≡ root → ⊥) → parent p ≡ d → is_child d p ≡ true
child_of_parent d p other is = by_parts p (parted p) is
  where
    by_parts : (p : Path) → Parted p → parent p ≡ d → is_child d p ≡ true
    by_parts p (whole part h) is = absurd (other (sym is ∙ parent_of_part part h))
    by_parts p (at_slash [] part h) is = absurd (other (sym is ∙ parent_at_top part h))
    by_parts p (at_slash (c ∷ front) part h) is =
        let same : c ∷ front ≡ d = sym (parent_of c front part h) ∙ is in
        and_from _ _ (subst (λ e. is_below e ((c ∷ front) ++ 47 ∷ part) ≡ true) same (below_from (c ∷ front) part (λ top. other (sym same ∙ top))))
        (same_paths (parent ((c ∷ front) ++ 47 ∷ part)) d is)

-- nothing or something behind a slash
abbrev pub IsTail : List ℕ → Type 0
IsTail [] = Unit {0}
IsTail (c ∷ rest) = c ≡ 47

pub at_or_below_from : (d s : List ℕ) → (d ≡ root → ⊥) → IsTail s → is_at_or_below d (d ++ s) ≡ true
at_or_below_from d [] other h = ap (λ b. b || is_below d (d ++ [])) (same_paths (d ++ []) d (append-nil d))
at_or_below_from d (c ∷ rest) other h = or_right (bytes_eq (d ++ c ∷ rest) d) (is_below d (d ++ c ∷ rest))
    (subst (λ k. is_below d (d ++ k ∷ rest) ≡ true) (sym h) (below_from d rest other))

pub at_or_below_is : (d p : List ℕ) → (d ≡ root → ⊥) → is_at_or_below d p ≡ true → (s : List ℕ) × (p ≡ d ++ s) × IsTail s
at_or_below_is d p other h = elim (bytes_eq p d) as (λ b. bytes_eq p d ≡ b → (b || is_below d p) ≡ true → (s : List ℕ) × (p ≡ d ++ s) × IsTail s) [
  | true ↦ λ e more. ([], equal_paths p d e ∙ sym (append-nil d), tt)
  | false ↦ λ e more. let found : (r : List ℕ) × (p ≡ d ++ 47 ∷ r) = below_is d p other more in (47 ∷ found.0, found.1, refl)
] refl h
