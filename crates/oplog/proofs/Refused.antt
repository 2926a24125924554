-- An area that is refused as damaged says nothing.
use Rattle.std.proofs.Common.{◌≡◌, Some, subst}
use Rattle.std.specs.Prelude.{Err, Result}
use Rattle.log_codec.specs.declared.fault.DecodeFault.{DecodeFault}
use Rattle.log_codec.specs.declared.fault.DecodeFault.TheVariants.{Damaged}
use Rattle.log_codec.specs.Reading.{Fails, Gives}
use Rattle.oplog.specs.Areas.{AreaState}

none_is_none : (area : AreaState) → Fails Damaged (Some area) → ⊥
none_is_none area e = cc

pub says_none : {X : Type 0} (view : X → AreaState) (r : Result X DecodeFault) (area : AreaState) → Gives view r (Some area) → r ≡ Err Damaged → ⊥
says_none {X = X} view r area gives is = none_is_none area (subst (λ (q : Result X DecodeFault). Gives view q (Some area)) is gives)
