-- The blocks that a range touches, once it is written over.
use Rattle.std.proofs.Common.{◌≡◌, inl, inr, ℕ, suc, ◌+◌, ◌-◌, ◌*◌, ◌/◌, ◌%◌, ◌<◌, ◌≤◌, List, ◌++◌, length, take, drop, sym, ap, ◌∙◌, arith}
use native.Mathlib.Nat.{add-mul, suc-mul}
use Rattle.std.proofs.Math.Nat.{div-mul-le_self, lt-div-mul-add}
use Rattle.std.proofs.lemmas.Bool.{cases_lt}
use Rattle.std.proofs.lemmas.Nat.{div-add-mod', div-mul-add, mul-le}
use Rattle.store_disk.proofs.BlockDigests.{digests_front}
use Rattle.store_disk.proofs.Touched.{part_after, part_before, run_then}
use Rattle.replica_store.specs.Replicas.{Replica, digests_of, written_over}
use Rattle.store_changes.specs.Edging.{edges_around}

-- a place at which a block ends
pub block_end : (block place : ℕ) → 1 ≤ block → 1 ≤ place → place % block ≡ 0 → place ≡ (place - 1) / block * block + block
block_end block place positive some even =
    let q = place / block in
    let whole : q * block ≡ place = omega (arith, div-add-mod' place block, even) in
    elim (cases_lt 0 q) [
      | inl one ↦ (
          let p = q - 1 in
          let next : suc p ≡ q = omega (arith, one) in
          let size : p * block + block ≡ place = omega (arith, ap (λ (n : ℕ). n * block) next, suc-mul p block, whole) in
          let at : place - 1 ≡ p * block + (block - 1) = omega (arith, size, positive) in
          let last : (place - 1) / block ≡ p = ap (λ (n : ℕ). n / block) at ∙ div-mul-add p block (block - 1) (omega (arith, positive)) in
          sym (ap (λ (n : ℕ). n * block + block) last ∙ size))
      | inr none ↦ (let zero_is : q * block ≡ 0 * block = ap (λ (n : ℕ). n * block) (none_is q none) in absurd (omega (arith, zero_is, whole, some)))
    ]
  where
    none_is : (q : ℕ) → q ≤ 0 → q ≡ 0
    none_is q le = omega (arith, le)

module _ (chunk block : ℕ) (r : Replica) (offset : ℕ) (content : List ℕ) (positive : 1 ≤ block) (even : chunk % block ≡ 0) (long : length r.bytes ≡ chunk) (some : 1 ≤ length content) (fits : offset + length content ≤ chunk) where
  abbrev end_place : ℕ
  end_place = offset + length content

  abbrev first : ℕ
  first = offset / block

  abbrev last : ℕ
  last = (end_place - 1) / block

  abbrev from : ℕ
  from = first * block

  abbrev to : ℕ
  to = last * block + block

  low : from ≤ offset
  low = div-mul-le_self offset block

  low_next : offset < from + block
  low_next = lt-div-mul-add positive

  last_low : last * block ≤ end_place - 1
  last_low = div-mul-le_self (end_place - 1) block

  high : end_place ≤ to
  high = let less : end_place - 1 < to = lt-div-mul-add positive in omega (arith, less, some)

  whole : chunk / block * block ≡ chunk
  whole = omega (arith, div-add-mod' chunk block, even)

  -- the last block lies within the chunk
  last_within : last < chunk / block
  last_within = elim (cases_lt last (chunk / block)) [
    | inl lt ↦ lt
    | inr past ↦ (let more : chunk / block * block ≤ last * block = mul-le (chunk / block) block last block past (omega arith) in absurd (omega (arith, more, whole, last_low, some, fits)))
  ]

  pub to_within : to ≤ chunk
  to_within = let more : suc last * block ≤ chunk / block * block = mul-le (suc last) block (chunk / block) block (omega (arith, last_within)) (omega arith) in omega (arith, more, suc-mul last block, whole)

  first_last : first ≤ last
  first_last = elim (cases_lt last first) [
    | inl less ↦ (let more : suc last * block ≤ first * block = mul-le (suc last) block first block (omega (arith, less)) (omega arith) in absurd (omega (arith, more, suc-mul last block, low, high, some)))
    | inr le ↦ le
  ]

  -- how many blocks
  abbrev pub count : ℕ
  count = last + 1 - first

  pub run_size : count * block ≡ to - from
  run_size =
      let all : first + count ≡ suc last = omega (arith, first_last) in
      let split : (first + count) * block ≡ first * block + count * block = add-mul first count block in
      omega (arith, split, ap (λ (n : ℕ). n * block) all, suc-mul last block)

  pub run_within : first + count ≤ chunk / block
  run_within = omega (arith, first_last, last_within)

  -- the digests of what is in the run then
  pub new_digests : digests_of block count ((edges_around block r offset end_place).before ++ content ++ (edges_around block r offset end_place).after) ≡ digests_of block count (drop from (written_over r.bytes offset content))
  new_digests =
      let edges = edges_around block r offset end_place in
      let before : edges.before ≡ take (offset - from) (drop from r.bytes) = part_before block positive r.bytes offset in
      let after : edges.after ≡ take (to - end_place) (drop end_place r.bytes) = part_after block positive r.bytes end_place last (omega (arith, last_low)) high in
      let now = written_over r.bytes offset content in
      let run : take (count * block) (drop from now) ≡ edges.before ++ content ++ edges.after =
      ap (λ (n : ℕ). take n (drop from now)) run_size
      ∙ run_then r.bytes content offset from to low high (omega (arith, to_within, long))
      ∙ sym (ap (λ (l : List ℕ). l ++ content ++ edges.after) before ∙ ap (λ (l : List ℕ). take (offset - from) (drop from r.bytes) ++ content ++ l) after) in
      ap (λ (l : List ℕ). digests_of block count l) (sym run) ∙ digests_front block count (drop from now)
