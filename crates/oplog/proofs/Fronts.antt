-- What an area's bytes begin with.
use Rattle.std.proofs.Common.{◌≡◌, ℕ, ◌<◌, ◌≤◌, List, ◌∷◌, ◌++◌, length, take, drop, Some, None, sym, ap, subst, ◌∙◌, length-append, take-append-drop, arith}
use Rattle.std.proofs.lemmas.List.{length-take-le}
use Rattle.log_codec.specs.declared.fault.DecodeFault.{DecodeFault}
use Rattle.log_codec.specs.declared.fault.DecodeFault.TheVariants.{Damaged}
use Rattle.log_codec.specs.Fields.{number, index, IsNumber, IsIndex}
use Rattle.log_codec.specs.Reading.{Fails, index_at, number_at}
use Rattle.log_codec.proofs.Fields.{IsBytes, IsBytes-rest, number_is, index_is, some_is}
use Rattle.oplog.specs.Areas.{area_bytes}
use Rattle.oplog.proofs.Parsing.{same_head}

module _ (bytes tail : List ℕ) (n : ℕ) (checkpoint rest : List ℕ) (fits : IsNumber n) (short : IsIndex (length checkpoint)) (begins : bytes ≡ 1 ∷ tail) (eq : bytes ≡ area_bytes n checkpoint rest) where
  abbrev behind_number : List ℕ
  behind_number = index (length checkpoint) ++ (checkpoint ++ rest)

  tail_is : tail ≡ number n ++ behind_number
  tail_is = (same_head 1 1 tail (number n ++ behind_number) (sym begins ∙ eq)).1

  number_there : number_at tail ≡ Some (n, behind_number)
  number_there = ap number_at tail_is ∙ number_is.again n behind_number fits

  pub no_number : (f : DecodeFault) → Fails f (number_at tail) → f ≡ Damaged → ⊥
  no_number f failed is =
      let none : number_at tail ≡ None = subst (λ (e : DecodeFault). Fails e (number_at tail)) is failed in
      let there = number_there in
      absurd cc

  module _ (m : ℕ) (after : List ℕ) (read : number_at tail ≡ Some (m, after)) where
    after_is : after ≡ behind_number
    after_is = ap (λ (p : ℕ × List ℕ). p.1) (some_is (m, after) (n, behind_number) (sym read ∙ number_there))

    length_there : index_at after ≡ Some (length checkpoint, checkpoint ++ rest)
    length_there = ap index_at after_is ∙ index_is.again (length checkpoint) (checkpoint ++ rest) short

    pub no_length : (f : DecodeFault) → Fails f (index_at after) → f ≡ Damaged → ⊥
    no_length f failed is =
        let none : index_at after ≡ None = subst (λ (e : DecodeFault). Fails e (index_at after)) is failed in
        let there = length_there in
        absurd cc

    pub no_checkpoint : (size : ℕ) (left : List ℕ) → index_at after ≡ Some (size, left) → length left < size → ⊥
    no_checkpoint size left found less =
        let both = some_is (size, left) (length checkpoint, checkpoint ++ rest) (sym found ∙ length_there) in
        absurd (omega (arith, less, ap (λ (p : ℕ × List ℕ). p.0) both, ap (λ (p : ℕ × List ℕ). length p.1) both, length-append checkpoint rest))

-- the parts of an area that were read
pub parts_found : (bytes tail : List ℕ) (m : ℕ) (after : List ℕ) (size : ℕ) (left front back : List ℕ) → IsBytes bytes → bytes ≡ 1 ∷ tail → number_at tail ≡ Some (m, after) → index_at after ≡ Some (size, left) → size ≤ length left
    → front ≡ take size left → back ≡ drop size left → IsNumber m × IsIndex (length front) × (bytes ≡ area_bytes m front back)
parts_found bytes tail m after size left front back fits begins read found le fe be =
    let first = number_is.takes tail (m, after) (IsBytes-rest 1 tail (subst IsBytes begins fits)) read in
    let second = index_is.takes after (size, left) first.0.rest_fits found in
    let len : length front ≡ size = ap length fe ∙ length-take-le size left le in
    let split : left ≡ front ++ back = sym (take-append-drop size left) ∙ ap (λ (l : List ℕ). l ++ drop size left) (sym fe) ∙ ap (λ (l : List ℕ). front ++ l) (sym be) in (
      first.1,
      subst IsIndex (sym len) second.1,
      begins ∙ ap (λ (l : List ℕ). 1 ∷ l) (first.0.parts ∙ ap (λ (l : List ℕ). number m ++ l) (second.0.parts ∙ ap (λ (k : ℕ). index k ++ left) (sym len) ∙ ap (λ (l : List ℕ). index (length front) ++ l) split)),
    )
