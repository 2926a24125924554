-- What is printed is appended, one line after the other.
use Rattle.std.proofs.Common.{◌≡◌, ℕ, zero, suc, ◌+◌, ◌<◌, ◌≤◌, List, [], ◌∷◌, ◌++◌, length, get_or, take, Option, Some, None, refl, sym, ap, subst, ◌∙◌, append_assoc, arith}
use Rattle.std.specs.Io.KnownBytes.{Appends, Keeps}
use Rattle.std.proofs.Math.Seq.{take-suc}
use Rattle.std.specs.List.{flat_map}
use Rattle.std.proofs.lemmas.List.{append-nil, flat_map_more}

pub appends_none : (known : Option (List ℕ)) → Appends known known []
appends_none None = tt
appends_none (Some xs) = sym (append-nil xs)

pub appends_twice : (a b c : Option (List ℕ)) (xs ys : List ℕ) → Appends a b xs → Appends b c ys → Appends a c (xs ++ ys)
appends_twice None b c xs ys p q = tt
appends_twice (Some x) None c xs ys p q = absurd p
appends_twice (Some x) (Some y) None xs ys p q = absurd q
appends_twice (Some x) (Some y) (Some z) xs ys p q = q ∙ (ap (λ (l : List ℕ). l ++ ys) p ∙ append_assoc x xs ys)

pub take_all : {X : Type 0} (xs : List X) (k : ℕ) → length xs ≤ k → take k xs ≡ xs
take_all [] zero h = refl
take_all [] (suc k) h = refl
take_all (x ∷ xs) zero h = absurd (omega (arith, h))
take_all (x ∷ xs) (suc k) h = ap (λ l. x ∷ l) (take_all xs k (let e : length xs ≤ k = omega (arith, h) in e))

pub appends_kept : (a b c : Option (List ℕ)) (xs : List ℕ) → Appends a b xs → Keeps b c → Appends a c xs
appends_kept None b c xs p q = tt
appends_kept (Some x) None c xs p q = absurd p
appends_kept (Some x) (Some y) None xs p q = absurd q
appends_kept (Some x) (Some y) (Some z) xs p q = q ∙ p

-- lines of any kind, one for each element
module _ {X : Type 0} (text : X → List ℕ) where
  pub lines_next : (a b c : Option (List ℕ)) (xs : List X) (k : ℕ) (x : X) → k < length xs → x ≡ get_or xs k x → Appends a b (flat_map text (take k xs)) → Appends b c (text x) → Appends a c (flat_map text (take (k + 1) xs))
  lines_next a b c xs k x within at before line =
      let next : k + 1 ≡ suc k = omega arith in
      subst (Appends a c)
      (sym (ap (λ (n : ℕ). flat_map text (take n xs)) next ∙ (ap (flat_map text) (take-suc xs k x within) ∙ (sym (flat_map_more text [] (take k xs) (get_or xs k x)) ∙ ap (λ (y : X). flat_map text (take k xs) ++ text y) (sym at)))))
      (appends_twice a b c (flat_map text (take k xs)) (text x) before line)

  pub lines_all : (a b c : Option (List ℕ)) (xs : List X) (k : ℕ) → length xs ≤ k → Appends a b (flat_map text (take k xs)) → Keeps b c → Appends a c (flat_map text xs)
  lines_all a b c xs k past told keeps = appends_kept a b c (flat_map text xs) (subst (λ (l : List X). Appends a b (flat_map text l)) (take_all xs k past) told) keeps
