-- What a read gives, of all the chunk's bytes.
use Rattle.std.proofs.Common.{◌≡◌, inl, inr, ℕ, ◌+◌, ◌-◌, ◌≤◌, List, [], length, take, drop, sym, ap, ◌∙◌, arith}
use Rattle.std.proofs.lemmas.Bool.{cases_lt}
use Rattle.std.proofs.lemmas.List.{drop-take, drop_all, length-take, take-take, take_all}
use Rattle.replica_store.specs.Replicas.{Replica, own_bytes, read_bytes, read_end}

module _ (r : Replica) where
  -- the replica's own bytes from a place on
  own_from : (offset : ℕ) → offset ≤ r.count → drop offset (own_bytes r) ≡ take (r.count - offset) (drop offset r.bytes)
  own_from offset le =
      let whole : offset + (r.count - offset) ≡ r.count = omega (arith, le) in
      sym (ap (λ (k : ℕ). drop offset (take k r.bytes)) whole) ∙ drop-take offset (r.count - offset) r.bytes

  pub read_is : (offset count : ℕ) → offset ≤ read_end r offset count → take (read_end r offset count - offset) (drop offset r.bytes) ≡ read_bytes r offset count
  read_is offset count le =
      let n = read_end r offset count - offset in
      let rest = drop offset r.bytes in
      let own = own_from offset (omega (arith, le)) in
      elim (cases_lt r.count (offset + count)) [
        | inl past ↦ (
            let few : n ≡ r.count - offset = omega (arith, past) in
            let short : length (take (r.count - offset) rest) ≤ r.count - offset = omega (arith, length-take (r.count - offset) rest) in
            ap (λ (k : ℕ). take k rest) few ∙ sym (take_all count (take (r.count - offset) rest) (omega (arith, short, past))) ∙ ap (λ (l : List ℕ). take count l) (sym own))
        | inr within ↦ (
            let all : n ≡ count = omega (arith, within) in
            ap (λ (k : ℕ). take k rest) all ∙ sym (take-take count (r.count - offset) rest (omega (arith, within))) ∙ ap (λ (l : List ℕ). take count l) (sym own))
      ]

  -- nothing stands there
  pub read_none : (offset count : ℕ) → read_end r offset count ≤ offset → read_bytes r offset count ≡ []
  read_none offset count le =
      let own = own_bytes r in
      let short : length own ≤ r.count = omega (arith, length-take r.count r.bytes) in
      elim (cases_lt 0 count) [
        | inl some ↦ ap (λ (l : List ℕ). take count l) (drop_all offset own (omega (arith, short, le, some))) ∙ take_all count [] (omega arith)
        | inr none ↦ (let zero_is : count ≡ 0 = omega (arith, none) in ap (λ (k : ℕ). take k (drop offset own)) zero_is)
      ]
