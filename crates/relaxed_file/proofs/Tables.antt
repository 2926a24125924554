-- Tables with another value at one number, options that are known, and what holds of them.
use Rattle.std.proofs.Common.{◌≡◌, ℕ, zero, suc, ◌<◌, Bool, true, false, cond, List, [], ◌∷◌, length, Option, Some, refl, sym, ap, subst, arith}
use Rattle.std.specs.Prelude.{option_map, unwrap_or, Contains, ◌==◌}
use Rattle.std.specs.List.{AllByRecursion, slice_index_or}
use Rattle.std.proofs.lemmas.Bool.{eq-eqb, ne_eqb, eqb-true}
use Rattle.std.proofs.lemmas.Option.{same_Some}
use Rattle.relaxed_file.specs.Machine.{put}

pub cond_keeps : {A : Type 0} (P : A → Type 0) (b : Bool) (x y : A) → P x → P y → P (cond b x y)
cond_keeps P true x y h g = h
cond_keeps P false x y h g = g

pub put_keeps : {A : Type 0} (P : A → Type 0) (key : ℕ) (value : A) (table : ℕ → A) → P value → ((k : ℕ) → P (table k)) → (k : ℕ) → P (put key value table k)
put_keeps P key value table new old k = cond_keeps P (k == key) value (table k) new (old k)

pub put_same : {A : Type 0} (key : ℕ) (value : A) (table : ℕ → A) → put key value table key ≡ value
put_same key value table = ap (λ b. cond b value (table key)) (eq-eqb key key refl)

pub put_other : {A : Type 0} (key : ℕ) (value : A) (table : ℕ → A) (k : ℕ) → (k ≡ key → ⊥) → put key value table k ≡ table k
put_other key value table k other = ap (λ b. cond b value (table k)) (ne_eqb k key other)

-- one value is known, the others by their number
pub put_at : {A : Type 0} (P : ℕ → A → Type 0) (key : ℕ) (value : A) (table : ℕ → A) → P key value → ((k : ℕ) → P k (table k)) → (k : ℕ) → P k (put key value table k)
put_at P key value table new old k = elim (k == key) as (λ b. (k == key) ≡ b → P k (cond b value (table k))) [
  | true ↦ λ e. subst (λ j. P j value) (sym (eqb-true k key e)) new
  | false ↦ λ e. old k
] refl

-- an option that is known to be there
pub at_some : {A B : Type 0} (P : B → Type 0) (f : A → B) (other : B) (o : Option A) (x : A) → o ≡ Some x → P (f x) → P (unwrap_or (option_map f o) other)
at_some P f other o x is h = subst (λ o'. P (unwrap_or (option_map f o') other)) (sym is) h

-- what holds of each element holds of one that is there
all_at : {A : Type 0} (P : A → Type 0) (xs : List A) (k : ℕ) (x : A) → AllByRecursion P xs → k < length xs → slice_index_or xs k x ≡ x → P x
all_at P [] k x all l e = absurd (omega arith)
all_at P (y ∷ rest) zero x all l e = subst P e all.0
all_at P (y ∷ rest) (suc k) x all l e = all_at P rest k x all.1 (omega arith) e

pub contained : {A : Type 0} (P : A → Type 0) (xs : List A) (x : A) → AllByRecursion P xs → Contains xs x → P x
contained P xs x all at = all_at P xs at.0 x all at.1 at.2

pub all_more : {A : Type 0} {P Q : A → Type 0} (xs : List A) → ((x : A) → P x → Q x) → AllByRecursion P xs → AllByRecursion Q xs
all_more [] h all = tt
all_more (x ∷ rest) h all = (h x all.0, all_more rest h all.1)

pub from_some : {A : Type 0} {x y : A} → Some x ≡ Some y → x ≡ y
from_some {x = x} {y = y} h = same_Some x y h

-- a table at one number, after another value was put somewhere
pub put_look : {A : Type 0} (P : A → Type 0) (key : ℕ) (value : A) (table : ℕ → A) (k : ℕ) → (k ≡ key → P value) → P (table k) → P (put key value table k)
put_look P key value table k new old = elim (k == key) as (λ b. (k == key) ≡ b → P (cond b value (table k))) [
  | true ↦ λ e. new (eqb-true k key e)
  | false ↦ λ e. old
] refl

pub put_is : {A : Type 0} (key : ℕ) (value : A) (table : ℕ → A) (k : ℕ) → k ≡ key → put key value table k ≡ value
put_is key value table k e = ap (λ b. cond b value (table k)) (eq-eqb k key e)
