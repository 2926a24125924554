-- What holds of a result, from what holds of it already.
use Rattle.std.proofs.Common.{◌≡◌, Option, Result, Some, None, Ok, Err, MatchOption, IfNone, IfOk, OnOk, OnErr, ◌∙◌}

module _ {A B C D : Type 0} where
  pub match_map : {X : Type 0} (r : Option X) → MatchOption r A (λ _. B) → (A → C) → (B → D) → MatchOption r C (λ _. D)
  match_map None h f g = f h
  match_map (Some x) h f g = g h

module _ {A B C : Type 0} where
  pub either : {X : Type 0} (r : Option X) → MatchOption r A (λ _. B) → (A → C) → (B → C) → C
  either None h f g = f h
  either (Some x) h f g = g h

  pub ok_or_err : {X E : Type 0} (r : Result X E) → OnOk r A → OnErr r B → (A → C) → (B → C) → C
  ok_or_err (Ok x) h j f g = f h
  ok_or_err (Err e) h j f g = g j

module _ {P Q : Type 0} where
  pub on_none : {A : Type 0} (r : Option A) → IfNone r P → (P → Q) → IfNone r Q
  on_none None h f = f h
  on_none (Some x) h f = tt

  pub on_ok : {A E : Type 0} (r : Result A E) → OnOk r P → (P → Q) → OnOk r Q
  on_ok (Ok x) h f = f h
  on_ok (Err e) h f = tt

  pub on_err : {A E : Type 0} (r : Result A E) → OnErr r P → (P → Q) → OnErr r Q
  on_err (Ok x) h f = tt
  on_err (Err e) h f = f h

pub ok_is : {A E : Type 0} (r : Result A E) (x y : A) → IfOk r (λ n. n ≡ x) → x ≡ y → IfOk r (λ n. n ≡ y)
ok_is (Ok n) x y h e = h ∙ e
ok_is (Err f) x y h e = tt
