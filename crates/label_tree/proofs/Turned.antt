-- Where a path goes at a label, by how much they share.
use Rattle.std.proofs.Common.{◌≡◌, ◌≢◌, ℕ, suc, ◌≤◌, ◌<◌, Bool, true, false, cond, ◌==◌, List, [], ◌∷◌, ◌++◌, take, drop, length, length-drop, get_or, refl, sym, ap, subst, ◌∙◌, arith}
use Rattle.std.proofs.lemmas.Bool.Decides.{nat_tests}
use Rattle.label_tree.specs.Fronts.{shared, first_byte}
use Rattle.label_tree.specs.Turns.{IsCut}

same_byte : (x y : ℕ) → (x == y) ≡ true → x ≡ y
same_byte x y e = grind (arith, nat_tests)

other_byte : (x y : ℕ) → (x == y) ≡ false → x ≢ y
other_byte x y e = grind (arith, nat_tests)

take_all : (xs : List ℕ) → take (length xs) xs ≡ xs
take_all [] = refl
take_all (x ∷ xs) = ap (λ ys. x ∷ ys) (take_all xs)

agrees : (l p : List ℕ) → p ≡ take (shared l p) l ++ drop (shared l p) p
agrees [] p = refl
agrees (x ∷ l) [] = refl
agrees (x ∷ l) (y ∷ p) =
    elim (x == y) as (λ t. (x == y) ≡ t → y ∷ p ≡ take (cond t (suc (shared l p)) 0) (x ∷ l) ++ drop (cond t (suc (shared l p)) 0) (y ∷ p)) [
      | true ↦ λ e. ap (λ c. c ∷ p) (sym (same_byte x y e)) ∙ ap (λ xs. x ∷ xs) (agrees l p)
      | false ↦ λ e. refl
    ] refl

parts : (l p : List ℕ) → 1 ≤ length (drop (shared l p) l) → 1 ≤ length (drop (shared l p) p) → first_byte (drop (shared l p) l) ≢ first_byte (drop (shared l p) p)
parts [] p a b = absurd (omega arith)
parts (x ∷ l) [] a b = absurd (omega arith)
parts (x ∷ l) (y ∷ p) a b =
    elim (x == y) as (λ t. (x == y) ≡ t → 1 ≤ length (drop (cond t (suc (shared l p)) 0) (x ∷ l)) → 1 ≤ length (drop (cond t (suc (shared l p)) 0) (y ∷ p)) → first_byte (drop (cond t (suc (shared l p)) 0) (x ∷ l)) ≢ first_byte (drop (cond t (suc (shared l p)) 0) (y ∷ p))) [
      | true ↦ λ e. parts l p
      | false ↦ λ e c d. other_byte x y e
    ] refl a b

shared_fits : (l p : List ℕ) → shared l p ≤ length l
shared_fits [] p = omega arith
shared_fits (x ∷ l) [] = omega arith
shared_fits (x ∷ l) (y ∷ p) =
    elim (x == y) as (λ t. cond t (suc (shared l p)) 0 ≤ suc (length l)) [
      | true ↦ omega (arith, shared_fits l p)
      | false ↦ omega arith
    ]

pub turn_through : (l p : List ℕ) (n : ℕ) → n ≡ shared l p → n ≡ length l → p ≡ l ++ drop (length l) p
turn_through l p n s e =
    subst (λ m. p ≡ take m l ++ drop m p) (sym s ∙ e) (agrees l p) ∙ ap (λ f. f ++ drop (length l) p) (take_all l)

pub turn_cut : (l p : List ℕ) (n : ℕ) → n ≡ shared l p → n ≢ length l → 1 ≤ n → IsCut l p n
turn_cut l p n s d some =
    let within : n < length l = omega (arith, shared_fits l p, s, d) in
    let left : 1 ≤ length (drop n l) = omega (arith, length-drop n l, within) in
    record {
      some = some;
      within = within;
      agrees = subst (λ m. p ≡ take m l ++ drop m p) (sym s) (agrees l p);
      parts = subst (λ m. 1 ≤ length (drop m l) → 1 ≤ length (drop m p) → first_byte (drop m l) ≢ first_byte (drop m p)) (sym s) (parts l p) left;
    }
