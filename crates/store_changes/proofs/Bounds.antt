-- The places of some blocks of a slot.
use Rattle.std.proofs.Common.{◌≡◌, ℕ, suc, ◌+◌, ◌-◌, ◌*◌, ◌/◌, ◌%◌, ◌<◌, ◌≤◌, inl, inr, ap, arith}
use native.Mathlib.Nat.{add-mul, suc-mul}
use Rattle.std.proofs.Math.Nat.{div-mul-le_self, lt-div-mul-add}
use Rattle.std.proofs.lemmas.Bool.{cases_lt}
use Rattle.std.proofs.lemmas.Nat.{div-add-mod', mul-le}
use Rattle.store_disk.proofs.FormatSlots.{slot_before}
use Rattle.store_disk.specs.Places.{blocks_of, data_place, digests_place, disk_size}

module _ (chunk block slots slot first count : ℕ) (there : slot < slots) (within : first + count ≤ blocks_of chunk block) where
  pub run_parts : first * block + count * block ≤ chunk
  run_parts =
      let most : (first + count) * block ≤ chunk / block * block = mul-le (first + count) block (chunk / block) block within (omega arith) in
      omega (arith, most, div-mul-le_self chunk block, add-mul first count block)

  pub bytes_room : data_place chunk block slot + first * block + count * block ≤ disk_size chunk block slots
  bytes_room = let before = slot_before chunk block slot slots there in omega (arith, run_parts, before)

  pub digests_room : digests_place chunk block slot + 32 * first + 32 * count ≤ disk_size chunk block slots
  digests_room = let before = slot_before chunk block slot slots there in omega (arith, within, before)

-- The run of blocks that a range touches.
module _ (chunk block offset end_place : ℕ) (positive : 1 ≤ block) (even : chunk % block ≡ 0) (some : offset < end_place) (within : end_place ≤ chunk) where
  abbrev first : ℕ
  first = offset / block

  abbrev last : ℕ
  last = (end_place - 1) / block

  last_low : last * block ≤ end_place - 1
  last_low = div-mul-le_self (end_place - 1) block

  high : end_place ≤ last * block + block
  high = let less : end_place - 1 < last * block + block = lt-div-mul-add positive in omega (arith, less, some)

  pub last_within : last < blocks_of chunk block
  last_within = elim (cases_lt last (chunk / block)) [
    | inl lt ↦ lt
    | inr past ↦ (
        let more : chunk / block * block ≤ last * block = mul-le (chunk / block) block last block past (omega arith) in
        let whole : chunk / block * block ≡ chunk = omega (arith, div-add-mod' chunk block, even) in
        absurd (omega (arith, more, whole, last_low, some, within)))
  ]

  pub first_last : first ≤ last
  first_last = elim (cases_lt last first) [
    | inl less ↦ (let more : suc last * block ≤ first * block = mul-le (suc last) block first block (omega (arith, less)) (omega arith) in absurd (omega (arith, more, suc-mul last block, div-mul-le_self offset block, high, some)))
    | inr le ↦ le
  ]

  pub run_within : first + (last + 1 - first) ≤ blocks_of chunk block
  run_within = omega (arith, first_last, last_within)

  pub run_bytes : (last + 1 - first) * block ≡ last * block + block - first * block
  run_bytes =
      let all : first + (last + 1 - first) ≡ suc last = omega (arith, first_last) in
      omega (arith, add-mul first (last + 1 - first) block, ap (λ (n : ℕ). n * block) all, suc-mul last block)

  -- the range lies in the run's bytes
  pub range_within : offset % block + (end_place - offset) ≤ (last + 1 - first) * block
  range_within = omega (arith, run_bytes, div-add-mod' offset block, high, some)
