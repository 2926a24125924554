-- A byte of a replica that became another on the disk.
use Rattle.std.proofs.Common.{◌≡◌, inl, inr, ℕ, ◌+◌, ◌-◌, ◌<◌, ◌≤◌, List, [], ◌∷◌, length, get_or, sym, ap, ◌∙◌, arith}
use Rattle.std.specs.Prelude.{slice_set}
use Rattle.std.proofs.lemmas.Bool.{cases_eq, cases_lt}
use Rattle.std.proofs.lemmas.List.{ext_get_or, get_or-set_other, get_or-set_same, length-set}
use Rattle.replica_store.specs.Replicas.{written_over}
use Rattle.store_disk.proofs.BlockPuts.{length_over, over_after, over_before, over_within}

pub byte_rotten : (xs : List ℕ) (place byte : ℕ) → place < length xs → slice_set xs place byte ≡ written_over xs place (byte ∷ [])
byte_rotten xs place byte low =
    let fits : place + 1 ≤ length xs = omega (arith, low) in
    let size : length (slice_set xs place byte) ≡ length xs = length-set xs place byte in
    ext_get_or 0 (slice_set xs place byte) (written_over xs place (byte ∷ [])) (size ∙ sym (length_over xs (byte ∷ []) place fits)) (λ i lt.
    elim (cases_eq i place) [
      | inl same ↦ (
          let none : i - place ≡ 0 = omega (arith, same) in
          ap (λ (k : ℕ). get_or (slice_set xs place byte) k 0) same ∙ get_or-set_same xs place byte 0 low
          ∙ sym (over_within xs (byte ∷ []) place i fits (omega (arith, same)) (omega (arith, same)) ∙ ap (λ (k : ℕ). get_or (byte ∷ []) k 0) none))
      | inr other ↦ get_or-set_other xs place i byte 0 other ∙ sym (elim (cases_lt i place) [
        | inl before ↦ over_before xs (byte ∷ []) place i fits before
        | inr le ↦ over_after xs (byte ∷ []) place i fits (omega (arith, le, other))
      ])
    ])
