-- All entries of a walk, one after another.
use Rattle.std.proofs.Common.{◌≡◌, ℕ, suc, ◌+◌, ◌<◌, ◌≤◌, Bool, true, false, List, [], ◌∷◌, ◌++◌, length, get_or, take, Option, None, Some, Result, inl, inr, refl, sym, ap, ◌∙◌, arith}
use Rattle.std.specs.Prelude.{Err, IfErr, Ok, is_some, slice_get}
use Rattle.std.specs.Result.{IsErrAnd}
use Rattle.std.proofs.Math.Seq.{take-suc}
use Rattle.std.proofs.lemmas.Bool.{true≢false}
use Rattle.std.proofs.lemmas.List.{take_all}
use Rattle.std.proofs.lemmas.Option.{get_or_from_slice_get, slice_get_cases, slice_get_within}
use Rattle.log_codec.specs.declared.fault.DecodeFault.{DecodeFault}
use Rattle.log_codec.specs.declared.fault.DecodeFault.TheVariants as bytes
use Rattle.log_records.specs.declared.record.Record.{Record}
use Rattle.oplog.specs.Faults.{fault_of_bytes}
use Rattle.oplog.specs.declared.fault.LogFault.{LogFault}
use Rattle.oplog.specs.declared.fault.LogFault.TheVariants as log

-- one more was taken
pub one_more : (all so_far after : List Record) (n : ℕ) (x : Record) → slice_get all n ≡ Some x → so_far ≡ take n all → after ≡ so_far ++ x ∷ [] → after ≡ take (n + 1) all
one_more all so_far after n x found is pushed =
    let next : n + 1 ≡ suc n = omega arith in
    let here : get_or all n x ≡ x = get_or_from_slice_get all n x x found in
    let longer = take-suc all n x (slice_get_within all n x found) in
    pushed ∙ ap (λ (l : List Record). l ++ x ∷ []) is ∙ ap (λ (y : Record). take n all ++ y ∷ []) (sym here) ∙ sym longer ∙ ap (λ (k : ℕ). take k all) (sym next)

-- none is left
pub all_taken : (all so_far : List Record) (n : ℕ) (next : Option Record) → next ≡ slice_get all n → is_some next ≡ false → so_far ≡ take n all → so_far ≡ all
all_taken all so_far n next found none is = elim ((slice_get_cases all n).1) [
  | inl there ↦ absurd (true≢false (sym (ap (λ (o : Option Record). is_some o) (found ∙ there.2)) ∙ none))
  | inr past ↦ is ∙ take_all n all past.0
]

-- what bytes that are no damage were refused for
pub only_refused : {T : Type 0} (result : Result T LogFault) (fault : DecodeFault) → IsErrAnd result (λ e. e ≡ fault_of_bytes fault) → (fault ≡ bytes.Damaged → ⊥) → IfErr result (λ e. e ≡ log.NoMemory)
only_refused (Ok x) fault is undamaged = tt
only_refused (Err e) bytes.Damaged is undamaged = absurd (undamaged refl)
only_refused (Err e) bytes.NoMemory is undamaged = is
