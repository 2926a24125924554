-- Where a path is cut at its last slash, and how the paths below a directory begin.
use Rattle.std.proofs.Common.{◌≡◌, ◌≢◌, ℕ, ◌+◌, ◌-◌, Bool, true, false, not, cond, ◌&&◌, ◌==◌, nat_eq, List, [], ◌∷◌, ◌++◌, take, drop, length, get_or, MatchOption, Option, Some, None, Bor, refl, sym, ap, subst, ◌∙◌, arith, lit<, length-drop}
use Rattle.std.specs.List.{before_last, after_last, suffix_len, starts_with}
use Rattle.std.specs.Str.Pattern.{RFindsChar, SplitsAroundMatch}
use Rattle.std.proofs.lemmas.Str.Pattern.{NoCharPasses-char}
use Rattle.std.proofs.lemmas.List.{get_or-drop}
use Rattle.std.proofs.lemmas.List.Sums.{suffix_len_is}
use Rattle.std.proofs.lemmas.Bool.Decides.{nat_tests}
use Rattle.std.specs.Str.{bytes_eq}
use Rattle.gfs_types.specs.Paths.{is_slash, root, parent, front_below}

abbrev pub Cut : Type 0
Cut = Bor (List ℕ) × Bor (List ℕ)

abbrev not_slash : ℕ → Bool
not_slash c = not (is_slash c)

no_slash : (c : ℕ) → c ≢ 47 → not_slash c ≡ true
no_slash c differs = grind (arith, nat_tests)

a_slash : (c : ℕ) → c ≡ 47 → not_slash c ≡ false
a_slash c same = grind (arith, nat_tests)

-- `rsplit_once` at a slash
pub cut_at_last : (s : List ℕ) (r : Option Cut) → MatchOption r (RFindsChar 47 s None) (λ x. SplitsAroundMatch (RFindsChar 47) s x.0.now x.1.now)
    → MatchOption r ((before_last is_slash s ≡ []) × (after_last is_slash s ≡ s)) (λ x. (x.0.now ≡ before_last is_slash s) × (x.1.now ≡ after_last is_slash s))
cut_at_last s (Some x) h =
    let i = h.0 in
    let j = h.1 in
    let ends : j ≡ i + 1 = h.2.1.ends in
    let at_i : get_or s i 0 ≡ 47 = h.2.1.byte (lit< tt) in
    let rest : suffix_len not_slash s ≡ length s - j = suffix_len_is not_slash s j 0 (omega arith)
    (λ k above within. let at : get_or (drop j s) (k - j) 0 ≡ get_or s k 0 = get_or-drop j s (k - j) 0 ∙ ap (λ n. get_or s n 0) (omega arith) in
    no_slash (get_or s k 0) (λ same. NoCharPasses-char 47 (drop j s) (k - j) h.2.0 (lit< tt) (omega (arith, length-drop j s)) (at ∙ same)))
    (λ positive. a_slash (get_or s (j - 1) 0) (ap (λ n. get_or s n 0) (omega arith) ∙ at_i)) in
    (h.3 ∙ ap (λ n. take n s) (omega arith), h.4 ∙ ap (λ n. drop n s) (omega arith))
cut_at_last s None h =
    let all : suffix_len not_slash s ≡ length s - 0 = suffix_len_is not_slash s 0 0 (omega arith)
    (λ k above within. no_slash (get_or s k 0) (NoCharPasses-char 47 s k h (lit< tt) within))
    (λ positive. absurd (omega arith)) in
    let before : length s - suffix_len not_slash s - 1 ≡ 0 = omega arith in
    let after : length s - suffix_len not_slash s ≡ 0 = omega arith in
    (ap (λ n. take n s) before, ap (λ n. drop n s) after)

empty_test : (xs : List ℕ) → (length xs == 0) ≡ bytes_eq xs []
empty_test [] = refl
empty_test (x ∷ xs) = grind (arith, nat_tests)

-- the directory right above, where something stands before the last slash, and where nothing does
pub parent_front : (s front : List ℕ) (b : Bool) → front ≡ before_last is_slash s → b ≡ (length front == 0) → b ≡ false → front ≡ parent s
parent_front s front b e test filled =
    let full : bytes_eq front [] ≡ false = sym (empty_test front) ∙ sym test ∙ filled in
    subst (λ (xs : List ℕ). front ≡ cond (bytes_eq xs []) root xs) e (sym (ap (λ t. cond t root front) full))

pub parent_root : (s : List ℕ) → bytes_eq (before_last is_slash s) [] ≡ true → root ≡ parent s
parent_root s e = sym (ap (λ t. cond t root (before_last is_slash s)) e)

pub parent_of_empty : (s front : List ℕ) (b : Bool) → front ≡ before_last is_slash s → b ≡ (length front == 0) → b ≡ true → root ≡ parent s
parent_of_empty s front b e test blank = parent_root s (ap (λ xs. bytes_eq xs []) (sym e) ∙ sym (empty_test front) ∙ sym test ∙ blank)

and_assoc : (a b c : Bool) → (a && (b && c)) ≡ ((a && b) && c)
and_assoc true b c = refl
and_assoc false b c = refl

-- to begin with two lists after one another
pub begins_append : (p d n : List ℕ) → starts_with nat_eq p (d ++ n) ≡ (starts_with nat_eq p d && starts_with nat_eq (drop (length d) p) n)
begins_append p [] n = refl
begins_append [] (x ∷ d) n = refl
begins_append (y ∷ p) (x ∷ d) n = ap (λ b. nat_eq x y && b) (begins_append p d n) ∙ and_assoc (nat_eq x y) (starts_with nat_eq p d) (starts_with nat_eq (drop (length d) p) n)

-- how the paths below a directory begin
pub begins_front : (d p : List ℕ) → bytes_eq d root ≡ false → starts_with nat_eq p (front_below d) ≡ (starts_with nat_eq p d && starts_with nat_eq (drop (length d) p) root)
begins_front d p e = ap (λ b. starts_with nat_eq p (cond b root (d ++ root))) e ∙ begins_append p d root
