-- What tests on lists, options and truth values say.
use Rattle.std.proofs.Common.{◌≡◌, ℕ, zero, suc, ◌<◌, Bool, true, false, List, [], ◌∷◌, length, Option, Some, None, refl, ap, ◌∙◌, arith}
use Rattle.std.specs.Prelude.{IsTrue, IsSome, IsSomeAnd, is_some, Contains, ◌&&◌, ◌||◌}
use Rattle.std.specs.List.{list_any, slice_index_or}
use Rattle.std.proofs.lemmas.Bool.{and_parts}

-- an option of whose value something holds has a value
pub on_some : {A : Type 0} (P : A → Type 0) (o : Option A) → IsSomeAnd o P → (x : A) × (o ≡ Some x) × P x
on_some P None h = absurd h
on_some P (Some x) h = (x, refl, h)

pub is_there : {A : Type 0} (P : A → Type 0) (o : Option A) → IsSomeAnd o P → IsSome o
is_there P None h = absurd h
is_there P (Some x) h = refl

-- an element that passes the test
pub found_in : {A : Type 0} (test : A → Bool) (xs : List A) → IsTrue (list_any test xs) → (x : A) × Contains xs x × IsTrue (test x)
found_in test [] h = absurd (let both : false ≡ true = h in cc)
found_in {A = A} test (x ∷ xs) h = split (found_in test xs) (test x) refl h
  where
    split : (IsTrue (list_any test xs) → (y : A) × Contains xs y × IsTrue (test y)) → (b : Bool) → test x ≡ b → IsTrue (b || list_any test xs) → (y : A) × Contains (x ∷ xs) y × IsTrue (test y)
    split later true e g = (x, (0, omega arith, refl), e)
    split later false e g =
        let at : (y : A) × Contains xs y × IsTrue (test y) = later g in
        (at.0, (suc at.1.0, (let l : at.1.0 < length xs = at.1.1 in omega arith), at.1.2), at.2)

-- four tests that all pass
pub all_four : (a b c d : Bool) → (((a && b) && c) && d) ≡ true → (a ≡ true) × (b ≡ true) × (c ≡ true) × (d ≡ true)
all_four a b c d h =
    let last : (((a && b) && c) ≡ true) × (d ≡ true) = and_parts ((a && b) && c) d h in
    let third : ((a && b) ≡ true) × (c ≡ true) = and_parts (a && b) c last.0 in
    let first : (a ≡ true) × (b ≡ true) = and_parts a b third.0 in
    (first.0, first.1, third.1, last.1)

pub both_true : (a b : Bool) → a ≡ true → b ≡ true → (a && b) ≡ true
both_true a b h g = ap (λ c. c && b) h ∙ g

pub all_true : (a b c d : Bool) → a ≡ true → b ≡ true → c ≡ true → d ≡ true → (((a && b) && c) && d) ≡ true
all_true a b c d first second third last = both_true ((a && b) && c) d (both_true (a && b) c (both_true a b first second) third) last

pub or_right : (a b : Bool) → b ≡ true → (a || b) ≡ true
or_right true b h = refl
or_right false b h = h

any_at : {A : Type 0} (test : A → Bool) (xs : List A) (k : ℕ) (x : A) → k < length xs → slice_index_or xs k x ≡ x → IsTrue (test x) → IsTrue (list_any test xs)
any_at test [] k x l e h = absurd (omega arith)
any_at test (y ∷ rest) zero x l e h = ap (λ b. b || list_any test rest) (ap test e ∙ h)
any_at test (y ∷ rest) (suc k) x l e h = or_right (test y) (list_any test rest) (any_at test rest k x (omega arith) e h)

-- an element that passes is found
pub any_of : {A : Type 0} (test : A → Bool) (xs : List A) (x : A) → Contains xs x → IsTrue (test x) → IsTrue (list_any test xs)
any_of test xs x at h = any_at test xs at.0 x at.1 at.2 h

pub has_value : {A : Type 0} (o : Option A) (x : A) → o ≡ Some x → IsSome o
has_value o x h = ap is_some h
