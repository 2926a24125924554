-- What holds whether a call found memory or not.
use Rattle.std.proofs.Common.{◌≡◌, Result, Ok, Err, OnOk, OnErr, sym, subst}

module _ {A B : Type 0} where
  pub on_ok : {P Q : Type 0} (r : Result A B) → (P → Q) → OnOk r P → OnOk r Q
  on_ok (Ok x) f h = f h
  on_ok (Err e) f h = h

  pub on_err : {P Q : Type 0} (r : Result A B) → (P → Q) → OnErr r P → OnErr r Q
  on_err (Ok x) f h = h
  on_err (Err e) f h = f h

  pub either_way : {L : Type 0} (P : L → Type 0) (r : Result A B) (new a b : L) → OnOk r (new ≡ a) → OnErr r (new ≡ b) → P a → P b → P new
  either_way P (Ok x) new a b ok err p q = subst P (sym ok) p
  either_way P (Err e) new a b ok err p q = subst P (sym err) q
