-- Settings that none is out of its range.
use Rattle.std.proofs.Common.{◌≡◌, Bool, Option, Some, None, refl}
use Rattle.std.specs.Prelude.{IsTrue, is_none}

pub none_in : {A : Type 0} (o : Option A) (b : Bool) → b ≡ is_none o → IsTrue b → o ≡ None
none_in None b is t = refl
none_in (Some x) b is t = absurd (cc)
