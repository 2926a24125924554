-- A slot that was written whole.
use Rattle.std.proofs.Common.{◌≡◌, ℕ, zero, suc, ◌+◌, ◌-◌, ◌*◌, ◌≤◌, List, [], ◌++◌, length, take, drop, replicate, refl, sym, ap, ◌∙◌, arith, Some, append_assoc, length-append}
use Rattle.std.proofs.lemmas.List.{append-nil, length-replicate}
use Rattle.disk.specs.Bytes.{put_at, range_at}
use Rattle.replica_store.specs.Replicas.{digests_of, filled_to, stored_replica}
use Rattle.sha2.specs.Sha256.{sha256}
use Rattle.sha2.proofs.Facts256.{length-sha256}
use Rattle.store_disk.specs.Fields.{FitsHeader, header_bytes, header_in}
use Rattle.store_disk.specs.declared.header.SlotHeader.{SlotHeader}
use Rattle.store_disk.proofs.Fields.{header_back}
use Rattle.store_disk.specs.Places.{blocks_of, data_place, digests_place, slot_place, slot_size}
use Rattle.store_disk.specs.Stored.{Holds, slot_bytes}
use Rattle.store_disk.proofs.Headers.{part_put}

pub length_digests : (block n : ℕ) (bytes : List ℕ) → length (digests_of block n bytes) ≡ 32 * n
length_digests block zero bytes = refl
length_digests block (suc n) bytes =
    omega (arith, length-append (sha256 (take block bytes)) (digests_of block n (drop block bytes)), length-sha256 (take block bytes), length_digests block n (drop block bytes))

pub length_filled : (chunk : ℕ) (bytes : List ℕ) → length bytes ≤ chunk → length (filled_to chunk bytes) ≡ chunk
length_filled chunk bytes le = omega (arith, length-append bytes (replicate (chunk - length bytes) 0), length-replicate {A = ℕ} (chunk - length bytes) 0, le)

module _ (chunk block : ℕ) (disk : List ℕ) (slot : ℕ) (x : SlotHeader) (bytes : List ℕ) (le : length bytes ≤ chunk) where
  abbrev place : ℕ
  place = slot_place chunk block slot

  abbrev head : List ℕ
  head = header_bytes x

  abbrev digests : List ℕ
  digests = digests_of block (blocks_of chunk block) (filled_to chunk bytes)

  abbrev data_bytes : List ℕ
  data_bytes = filled_to chunk bytes

  head_size : length head ≡ 40
  head_size = refl

  pub length_slot : length (slot_bytes chunk block x bytes) ≡ slot_size chunk block
  length_slot =
      omega (
        arith,
        length-append head (digests ++ data_bytes),
        length-append digests data_bytes,
        head_size,
        length_digests block (blocks_of chunk block) data_bytes,
        length_filled chunk bytes le,
      )

  module _ (fits : place + slot_size chunk block ≤ length disk) where
    abbrev new : List ℕ
    new = put_at disk place (slot_bytes chunk block x bytes)

    room : place + length (slot_bytes chunk block x bytes) ≤ length disk
    room = omega (arith, length_slot, fits)

    header_part : range_at new place 40 ≡ head
    header_part =
        let none : place ≡ place + 0 = omega arith in
        ap (λ (k : ℕ). range_at new k 40) none ∙ part_put disk (slot_bytes chunk block x bytes) [] head (digests ++ data_bytes) place refl room

    digests_part : range_at new (digests_place chunk block slot) (32 * blocks_of chunk block) ≡ digests
    digests_part =
        ap (λ (n : ℕ). range_at new (place + 40) n) (sym (length_digests block (blocks_of chunk block) data_bytes))
        ∙ part_put disk (slot_bytes chunk block x bytes) head digests data_bytes place refl room

    data_part : range_at new (data_place chunk block slot) chunk ≡ data_bytes
    data_part =
        let front : length (head ++ digests) ≡ 40 + 32 * blocks_of chunk block = omega (arith, length-append head digests, head_size, length_digests block (blocks_of chunk block) data_bytes) in
        let from : data_place chunk block slot ≡ place + length (head ++ digests) = omega (arith, front) in
        ap (λ (k : ℕ). range_at new k chunk) from
        ∙ ap (λ (n : ℕ). range_at new (place + length (head ++ digests)) n) (sym (length_filled chunk bytes le))
        ∙ part_put disk (slot_bytes chunk block x bytes) (head ++ digests) data_bytes [] place
        (sym (append_assoc head digests data_bytes) ∙ ap (λ (l : List ℕ). (head ++ digests) ++ l) (sym (append-nil data_bytes))) room

    pub put_holds : (handle version serial : ℕ) → FitsHeader x → x ≡ record { handle = record { 0 = handle }; version = record { 0 = version }; serial = record { 0 = serial }; count = length bytes }
        → Holds chunk block new slot handle (stored_replica chunk block version serial bytes)
    put_holds handle version serial small is = record {
      header = ap header_in header_part ∙ sym (ap header_in (append-nil head)) ∙ header_back x [] small ∙ ap (λ (y : SlotHeader). Some y) is;
      fits = le;
      digests = digests_part;
      bytes = data_part;
    }
