-- Where a fault is answered, the bytes are no entry.
use Rattle.std.proofs.Common.{◌≡◌, ℕ, ◌<◌, List, ◌++◌, length, length-append, take, Some, refl, sym, ap, subst, ◌∙◌, arith}
use Rattle.std.specs.Prelude.{Result, Err, IsErrOf}
use Rattle.std.specs.Result.{IsErrAnd}
use Rattle.std.proofs.lemmas.Result.{err_from_is_err_and}
use Rattle.log_records.specs.declared.record.Record.{Record}
use Rattle.log_codec.specs.declared.fault.DecodeFault.{DecodeFault}
use Rattle.log_codec.specs.declared.fault.DecodeFault.TheVariants.{Damaged}
use Rattle.log_codec.specs.Payloads.{payload, IsRecord}
use Rattle.log_codec.specs.Reading.{Fails, Gives, index_at}
use Rattle.log_codec.specs.declared.fault.DecodeFault.TheVariants as faults
use Rattle.oplog.specs.Entries.{entry, IsEntry}
use Rattle.oplog.proofs.Parsing.{entry_len, has_size, size_is, payload_is, long_enough}

pub no_size : (bytes : List ℕ) (e : DecodeFault) (r : Record) (x : List ℕ) → Fails e (index_at bytes) → e ≡ Damaged → IsEntry r → bytes ≡ entry r ++ x → ⊥
no_size bytes e r x given is fits eq = has_size bytes r x (subst (λ (f : DecodeFault). Fails f (index_at bytes)) is given) fits eq

pub too_short : (bytes : List ℕ) (n : ℕ) (rest : List ℕ) (r : Record) (x : List ℕ) → index_at bytes ≡ Some (n, rest) → length rest < n → IsEntry r → bytes ≡ entry r ++ x → ⊥
too_short bytes n rest r x h less fits eq =
    let is = size_is bytes n rest r x h fits eq in
    let le = long_enough n rest r x is.0 is.1 in
    absurd (omega (arith, le, less))

none_is_none : (r : Record) → Fails Damaged (Some r) → ⊥
none_is_none r e = cc

pub no_record : (bytes : List ℕ) (n : ℕ) (rest : List ℕ) (e : DecodeFault) (r : Record) (x : List ℕ) → index_at bytes ≡ Some (n, rest)
    → ((s : Record) → IsRecord s → take n rest ≡ payload s → Fails e (Some s)) → e ≡ Damaged → IsEntry r → bytes ≡ entry r ++ x → ⊥
no_record bytes n rest e r x h only is fits eq =
    let size = size_is bytes n rest r x h fits eq in
    none_is_none r (subst (λ (f : DecodeFault). Fails f (Some r)) is (only r fits.0 (payload_is n rest r x size.0 size.1)))

-- the error that `?` hands on
pub handed_on : {T : Type 0} (r : Result T DecodeFault) (f : DecodeFault) → IsErrAnd r (λ e. e ≡ f) → IsErrOf r Damaged → f ≡ Damaged
handed_on r f is_err damaged =
    let p = err_from_is_err_and r is_err in
    let told : r ≡ Err p.0 = p.1 in
    let same : p.0 ≡ f = p.2 in
    cc

failed : {Y : Type 0} (f : DecodeFault) (y : Y) → (f ≡ Damaged → ⊥) → Fails f (Some y)
failed faults.NoMemory y undamaged = tt
failed faults.Damaged y undamaged = absurd (undamaged refl)

-- where the bytes are damaged, there is nothing to give
pub refused : {X Y : Type 0} (view : X → Y) (r : Result X DecodeFault) (f : DecodeFault) → IsErrAnd r (λ e. e ≡ f) → (y : Y) → (f ≡ Damaged → ⊥) → Gives view r (Some y)
refused {X = X} view r f is_err y undamaged =
    let p = err_from_is_err_and r is_err in
    subst (λ (x : Result X DecodeFault). Gives view x (Some y)) (sym p.1) (failed p.0 y (λ is. undamaged (sym p.2 ∙ is)))

pub shorter : (r : Record) (after rest : List ℕ) → rest ≡ entry r ++ after → length after < length rest
shorter r after rest e = omega (arith, ap length e, length-append (entry r) after, entry_len r)
