-- What a change elsewhere keeps of a slot.
use Rattle.std.proofs.Common.{◌≡◌, ℕ, ◌+◌, ◌*◌, ◌<◌, ◌≤◌, Bool, true, ◌==◌, List, length, sym, ap, ◌∙◌, arith}
use Rattle.std.proofs.lemmas.List.{ext_get_or}
use Rattle.disk.specs.Bytes.{range_at}
use Rattle.disk_redo.proofs.Ranges.{get_range, length_range}
use Rattle.disk_redo.specs.Moments.{KeepsAt}
use Rattle.replica_store.specs.Replicas.{Replica}
use Rattle.store_disk.specs.Fields.{header_in}
use Rattle.store_disk.specs.Places.{blocks_of, data_place, digests_place, slot_place, slot_size}
use Rattle.store_disk.specs.Stored.{Holds, is_used}

pub range_same : (kept : ℕ → Bool) (disk new : List ℕ) (a n : ℕ) → KeepsAt kept disk new → a + n ≤ length disk → ((place : ℕ) → a ≤ place → place < a + n → kept place ≡ true)
    → range_at new a n ≡ range_at disk a n
range_same kept disk new a n p fits k =
    let here : length (range_at new a n) ≡ n = length_range new a n (omega (arith, p.size, fits)) in
    let there : length (range_at disk a n) ≡ n = length_range disk a n fits in
    ext_get_or 0 (range_at new a n) (range_at disk a n) (here ∙ sym there) (λ i lt.
    let below : i < n = omega (arith, lt, here) in
    get_range new a n i below ∙ p.same (a + i) (k (a + i) (omega arith) (omega (arith, below))) ∙ sym (get_range disk a n i below))

-- the places of a slot are kept
abbrev pub KeepsSlot : ℕ → ℕ → (ℕ → Bool) → ℕ → Type 0
KeepsSlot chunk block kept slot = (place : ℕ) → slot_place chunk block slot ≤ place → place < slot_place chunk block slot + slot_size chunk block → kept place ≡ true

module _ (chunk block : ℕ) (kept : ℕ → Bool) (disk new : List ℕ) (slot : ℕ) (p : KeepsAt kept disk new) (fits : slot_place chunk block slot + slot_size chunk block ≤ length disk) (k : KeepsSlot chunk block kept slot) where
  part_same : (from n : ℕ) → slot_place chunk block slot ≤ from → from + n ≤ slot_place chunk block slot + slot_size chunk block → range_at new from n ≡ range_at disk from n
  part_same from n le end = range_same kept disk new from n p (omega (arith, end, fits)) (λ place at lt. k place (omega (arith, le, at)) (omega (arith, end, lt)))

  pub holds_same : (handle : ℕ) (r : Replica) → Holds chunk block disk slot handle r → Holds chunk block new slot handle r
  holds_same handle r h = record {
    header = ap header_in (part_same (slot_place chunk block slot) 40 (omega arith) (omega arith)) ∙ h.header;
    fits = h.fits;
    digests = part_same (digests_place chunk block slot) (32 * blocks_of chunk block) (omega arith) (omega arith) ∙ h.digests;
    bytes = part_same (data_place chunk block slot) chunk (omega arith) (omega arith) ∙ h.bytes;
  }

  pub used_same : is_used chunk block new slot ≡ is_used chunk block disk slot
  used_same = ap (λ (n : ℕ). n == 1) (p.same (slot_place chunk block slot) (k (slot_place chunk block slot) (omega arith) (omega arith)))

-- how many bytes and digests there are
module _ (chunk block : ℕ) (disk : List ℕ) (slot handle : ℕ) (r : Replica) (fits : slot_place chunk block slot + slot_size chunk block ≤ length disk) (h : Holds chunk block disk slot handle r) where
  pub bytes_long : length r.bytes ≡ chunk
  bytes_long = sym (ap length h.bytes) ∙ length_range disk (data_place chunk block slot) chunk (omega (arith, fits))

  pub digests_long : length r.digests ≡ 32 * blocks_of chunk block
  digests_long = sym (ap length h.digests) ∙ length_range disk (digests_place chunk block slot) (32 * blocks_of chunk block) (omega (arith, fits))
