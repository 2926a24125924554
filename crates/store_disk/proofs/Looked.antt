-- What a look at the index answers.
use Rattle.std.proofs.Common.{◌≡◌, ℕ, true, false, List, [], ◌∷◌, drop, slice_get, refl, sym, ap, ◌∙◌, Option, None, Some}
use Rattle.std.specs.Prelude.{is_none, is_some}
use Rattle.gfs_types.specs.declared.ids.OrderNo.{OrderNo}
use Rattle.replica_store.specs.Replicas.{Replica, ServerDisk, replica_becomes}

pub test_none : {X : Type 0} (o : Option X) → is_some o ≡ false → o ≡ None
test_none None e = refl
test_none (Some x) e = absurd cc

pub test_some : {X : Type 0} (o : Option X) → is_some o ≡ true → (x : X) × (o ≡ Some x)
test_some None e = absurd cc
test_some (Some x) e = (x, refl)

pub full_none : {X : Type 0} (o : Option X) → is_none o ≡ true → o ≡ None
full_none None e = refl
full_none (Some x) e = absurd cc

pub no_row : {X : Type 0} (o : Option X) (x : X) → o ≡ None → o ≡ Some x → ⊥
no_row o x none some = let f : None ≡ Some x = sym none ∙ some in absurd cc

pub one_row : {X : Type 0} (o : Option X) (x y : X) → o ≡ Some x → o ≡ Some y → x ≡ y
one_row o x y p q = let f : Some x ≡ Some y = sym p ∙ q in cc

abbrev pub order_of : ServerDisk → OrderNo
order_of d = record { epoch = d.epoch; count = d.count }

-- a change of a replica is none of the order
pub order_stays : (change : Replica → Replica) (d : ServerDisk) (h : ℕ) (o : Option Replica) → order_of d ≡ order_of (replica_becomes change d h o)
order_stays change d h None = refl
order_stays change d h (Some r) = refl

-- the first of the free slots
pub first_free : (free : List ℕ) (slot : ℕ) → slice_get free 0 ≡ Some slot → free ≡ slot ∷ drop 1 free
first_free [] slot e = absurd cc
first_free (s ∷ rest) slot e = let same : s ≡ slot = cc in ap (λ (k : ℕ). k ∷ rest) same

pub none_free : (free : List ℕ) → slice_get free 0 ≡ None → free ≡ []
none_free [] e = refl
none_free (s ∷ rest) e = absurd cc

pub some_free : (free : List ℕ) → is_none (slice_get free 0) ≡ false → free ≡ [] → ⊥
some_free [] e is = let f : true ≡ false = e in cc
some_free (s ∷ rest) e is = cc
