-- A fault that is handed on.
use Rattle.std.proofs.Common.{◌≡◌, Result, Ok, Err, sym, subst}
use Rattle.std.specs.Prelude.{IfErr, IsErrAnd}

pub handed_on : {X E : Type 0} (r : Result X E) (P : E → Type 0) (f : E) → IsErrAnd r (λ e. e ≡ f) → P f → IfErr r P
handed_on (Ok x) P f is h = tt
handed_on (Err e) P f is h = subst P (sym is) h
