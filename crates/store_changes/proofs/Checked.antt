-- Blocks that are read with their digests.
use Rattle.std.proofs.Common.{◌≡◌, ◌↔◌, ℕ, suc, ◌+◌, ◌-◌, ◌*◌, ◌/◌, ◌≤◌, Bool, true, false, if◌then◌else◌, List, length, drop, refl, sym, ap, ◌∙◌, arith, None, Some}
use native.Mathlib.Nat.{add-mul, suc-mul}
use Rattle.std.proofs.Math.Nat.{div-mul-le_self}
use Rattle.std.proofs.lemmas.Nat.{div-mul-add, mul-le}
use Rattle.disk.specs.Bytes.{range_at}
use Rattle.disk_redo.proofs.Ranges.{range_range}
use Rattle.store_disk.proofs.BlockDigests.{digests_front}
use Rattle.store_disk.proofs.Runs.{run_is, touched_is}
use Rattle.replica_store.specs.Replicas.{Replica, blocks_match, digests_of}
use Rattle.store_disk.specs.Places.{blocks_of, data_place, digests_place, slot_place, slot_size}
use Rattle.store_changes.specs.Reading.{checked_part}
use Rattle.store_disk.specs.Stored.{Holds}

module _ (chunk block : ℕ) (disk : List ℕ) (slot handle : ℕ) (r : Replica) (positive : 1 ≤ block) (room : slot_place chunk block slot + slot_size chunk block ≤ length disk) (h : Holds chunk block disk slot handle r) where
  module _ (first count : ℕ) (some : 1 ≤ count) (fits : first + count ≤ blocks_of chunk block) where
    run_fits : (first + count) * block ≤ chunk
    run_fits =
        let most : (first + count) * block ≤ chunk / block * block = mul-le (first + count) block (chunk / block) block fits (omega arith) in
        omega (arith, most, div-mul-le_self chunk block)

    parts : (first + count) * block ≡ first * block + count * block
    parts = add-mul first count block

    -- the bytes of the run
    pub bytes_are : range_at disk (data_place chunk block slot + first * block) (count * block) ≡ range_at r.bytes (first * block) ((first + count) * block - first * block)
    bytes_are =
        let at = data_place chunk block slot in
        let to = at + first * block in
        let size : (first + count) * block - first * block ≡ count * block = omega (arith, parts) in
        let off : to - at ≡ first * block = omega arith in
        sym (range_range disk at chunk to (count * block) (omega (arith, room)) (omega arith) (omega (arith, run_fits, parts)))
        ∙ ap (λ (k : ℕ). range_at (range_at disk at chunk) k (count * block)) off
        ∙ ap (λ (l : List ℕ). range_at l (first * block) (count * block)) h.bytes
        ∙ ap (λ (k : ℕ). range_at r.bytes (first * block) k) (sym size)

    -- and their digests
    digests_are : range_at disk (digests_place chunk block slot + 32 * first) (32 * count) ≡ range_at r.digests (32 * first) (32 * count)
    digests_are =
        let at = digests_place chunk block slot in
        let k = blocks_of chunk block in
        let to = at + 32 * first in
        let off : to - at ≡ 32 * first = omega arith in
        sym (range_range disk at (32 * k) to (32 * count) (omega (arith, room)) (omega arith) (omega (arith, fits)))
        ∙ ap (λ (n : ℕ). range_at (range_at disk at (32 * k)) n (32 * count)) off
        ∙ ap (λ (l : List ℕ). range_at l (32 * first) (32 * count)) h.digests

    -- the first and the last block of the run
    first_is : first * block / block ≡ first
    first_is = let none : first * block ≡ first * block + 0 = omega arith in ap (λ (n : ℕ). n / block) none ∙ div-mul-add first block 0 (omega (arith, positive))

    last_is : ((first + count) * block - 1) / block ≡ first + count - 1
    last_is =
        let last = first + count - 1 in
        let one : suc last ≡ first + count = omega (arith, some) in
        let whole : (first + count) * block - 1 ≡ last * block + (block - 1) = omega (arith, ap (λ (n : ℕ). n * block) (sym one), suc-mul last block, positive) in
        ap (λ (n : ℕ). n / block) whole ∙ div-mul-add last block (block - 1) (omega (arith, positive))

    matches_is : digests_of block count (range_at disk (data_place chunk block slot + first * block) (count * block)) ≡ range_at disk (digests_place chunk block slot + 32 * first) (32 * count)
        ↔ blocks_match block r (first * block) ((first + count) * block) ≡ true
    matches_is =
        let from = first * block in
        let to = (first + count) * block in
        let size : to - from ≡ count * block = omega (arith, parts) in
        let read : digests_of block count (range_at disk (data_place chunk block slot + from) (count * block)) ≡ digests_of block count (drop from r.bytes) =
        ap (λ (l : List ℕ). digests_of block count l) (bytes_are ∙ ap (λ (k : ℕ). range_at r.bytes from k) size) ∙ digests_front block count (drop from r.bytes) in
        let run = run_is block r first count in
        let touched = touched_is block r from to in (
          λ same. touched.1 (λ n low high. run.0 (sym read ∙ same ∙ digests_are) n (omega (arith, low, first_is)) (omega (arith, high, last_is, some))),
          λ is. read ∙ run.1 (λ n low high. touched.0 is n (omega (arith, low, first_is)) (omega (arith, high, last_is))) ∙ sym digests_are,
        )

    pub run_matches : digests_of block count (range_at disk (data_place chunk block slot + first * block) (count * block)) ≡ range_at disk (digests_place chunk block slot + 32 * first) (32 * count)
        → Some (range_at disk (data_place chunk block slot + first * block) (count * block)) ≡ checked_part block r (first * block) ((first + count) * block)
    run_matches same =
        ap (λ (l : List ℕ). Some l) bytes_are
        ∙ sym (ap (λ b. if b then Some (range_at r.bytes (first * block) ((first + count) * block - first * block)) else None) (matches_is.0 same))

    pub run_fails : (digests_of block count (range_at disk (data_place chunk block slot + first * block) (count * block)) ≡ range_at disk (digests_place chunk block slot + 32 * first) (32 * count) → ⊥)
        → None ≡ checked_part block r (first * block) ((first + count) * block)
    run_fails other = by (blocks_match block r (first * block) ((first + count) * block)) refl
      where
        by : (b : Bool) → blocks_match block r (first * block) ((first + count) * block) ≡ b → None ≡ (if b then Some (range_at r.bytes (first * block) ((first + count) * block - first * block)) else None)
        by true is = absurd (other (matches_is.1 is))
        by false is = refl
