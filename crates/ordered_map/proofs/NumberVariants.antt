-- What holds of one variant of a result, from what holds of it already.
use Rattle.std.proofs.Common.{Option, Result, Some, None, Ok, Err, OnSome, IfNone, OnOk, OnErr}

module _ {P Q : Type 0} where
  pub on_some : {A : Type 0} (r : Option A) → OnSome r P → (P → Q) → OnSome r Q
  on_some None h f = tt
  on_some (Some x) h f = f h

  pub on_none : {A : Type 0} (r : Option A) → IfNone r P → (P → Q) → IfNone r Q
  on_none None h f = f h
  on_none (Some x) h f = tt

  pub on_ok : {A E : Type 0} (r : Result A E) → OnOk r P → (P → Q) → OnOk r Q
  on_ok (Ok x) h f = f h
  on_ok (Err e) h f = tt

  pub on_err : {A E : Type 0} (r : Result A E) → OnErr r P → (P → Q) → OnErr r Q
  on_err (Ok x) h f = tt
  on_err (Err e) h f = f h

module _ {P : Type 0} where
  pub some_on : {A : Type 0} (r : Option A) → P → OnSome r P
  some_on None h = tt
  some_on (Some x) h = h

  pub err_on : {A E : Type 0} (r : Result A E) → P → OnErr r P
  err_on (Ok x) h = tt
  err_on (Err e) h = h
