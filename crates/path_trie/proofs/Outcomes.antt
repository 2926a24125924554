-- From what holds of a success to what follows from it.
use Rattle.std.proofs.Common.{◌≡◌, true, false, Result, Ok, Err, IfOk, IsOk, OnOk, OnErr, is_err, refl, sym}
use mathlib.Core.Bool.{false≢true}

pub if_ok_along : {T E : Type 0} (r : Result T E) (P Q : T → Type 0) → ((t : T) → IsOk r → P t → Q t) → IfOk r P → IfOk r Q
if_ok_along (Ok t) P Q follows h = follows t refl h
if_ok_along (Err e) P Q follows h = tt

pub on_ok_along : {T E P Q : Type 0} (r : Result T E) → (P → Q) → OnOk r P → OnOk r Q
on_ok_along (Ok t) follows h = follows h
on_ok_along (Err e) follows h = tt

pub err_given : {T E : Type 0} (r : Result T E) (P : Type 0) → is_err r ≡ true → OnErr r P → P
err_given (Ok t) P err h = absurd (false≢true err)
err_given (Err e) P err h = h

pub ok_given : {T E : Type 0} (r : Result T E) (P : Type 0) → is_err r ≡ false → OnOk r P → P
ok_given (Ok t) P ok h = h
ok_given (Err e) P ok h = absurd (false≢true (sym ok))
