-- A slot whose header, or first byte, was written.
use Rattle.std.proofs.Common.{◌≡◌, inl, inr, ℕ, ◌+◌, ◌-◌, ◌*◌, ◌≤◌, true, ◌==◌, List, [], ◌∷◌, ◌++◌, length, get_or, take, refl, sym, ap, ◌∙◌, subst, arith, Some, length-append}
use Rattle.std.proofs.lemmas.List.{append-nil, drop_at, take_at}
use Rattle.disk.specs.Bytes.{put_at, range_at}
use Rattle.disk_redo.proofs.Ranges.{range_put, range_range}
use Rattle.disk_redo.specs.Moments.{KeepsAt, is_outside}
use Rattle.disk_redo.proofs.Places.{is_after, is_before, keeps_fewer, length_put, outside_cases, put_keeps, put_within}
use Rattle.replica_store.specs.Replicas.{Replica}
use Rattle.store_disk.specs.Fields.{FitsHeader, header_bytes, header_in}
use Rattle.store_disk.specs.declared.header.SlotHeader.{SlotHeader}
use Rattle.store_disk.proofs.Fields.{header_back}
use Rattle.store_disk.specs.Places.{blocks_of, data_place, digests_place, slot_place, slot_size}
use Rattle.store_disk.specs.Stored.{Holds, is_used}
use Rattle.store_disk.proofs.Slots.{range_same}

-- fewer places lie outside of more
pub fewer_outside : (at n size place : ℕ) → n ≤ size → is_outside at size place ≡ true → is_outside at n place ≡ true
fewer_outside at n size place le h = elim (outside_cases at size place h) [
  | inl lt ↦ is_before at n place lt
  | inr past ↦ is_after at n place (omega (arith, past, le))
]

-- bytes at the front of a slot
pub front_keeps : (disk bytes : List ℕ) (at size : ℕ) → length bytes ≤ size → at + size ≤ length disk → KeepsAt (is_outside at size) disk (put_at disk at bytes)
front_keeps disk bytes at size le fits =
    keeps_fewer (is_outside at size) (is_outside at (length bytes)) disk (put_at disk at bytes) (λ place h. fewer_outside at (length bytes) size place le h)
    (put_keeps disk bytes at (omega (arith, le, fits)))

-- a part of what was put
pub part_put : (disk bytes front part back : List ℕ) (at : ℕ) → bytes ≡ front ++ (part ++ back) → at + length bytes ≤ length disk → range_at (put_at disk at bytes) (at + length front) (length part) ≡ part
part_put disk bytes front part back at is fits =
    let new = put_at disk at bytes in
    let size : length bytes ≡ length front + (length part + length back) = ap length is ∙ length-append front (part ++ back) ∙ ap (λ (k : ℕ). length front + k) (length-append part back) in
    let same : at + length front - at ≡ length front = omega arith in
    let within : at + length bytes ≤ length new = omega (arith, length_put disk bytes at fits, fits) in
    sym (range_range new at (length bytes) (at + length front) (length part) within (omega arith) (omega (arith, size)))
    ∙ ap (λ (k : ℕ). range_at (range_at new at (length bytes)) k (length part)) same
    ∙ ap (λ (l : List ℕ). range_at l (length front) (length part)) (range_put disk bytes at fits ∙ is)
    ∙ ap (λ (l : List ℕ). take (length part) l) (drop_at front (part ++ back) (length front) refl)
    ∙ take_at part back (length part) refl

module _ (chunk block : ℕ) (disk : List ℕ) (slot : ℕ) (fits : slot_place chunk block slot + slot_size chunk block ≤ length disk) where
  abbrev place : ℕ
  place = slot_place chunk block slot

  -- The used byte alone.
  pub used_put : (byte : ℕ) → is_used chunk block (put_at disk place (byte ∷ [])) slot ≡ (byte == 1)
  used_put byte =
      let none : place - place ≡ 0 = omega arith in
      ap (λ (n : ℕ). n == 1) (put_within disk (byte ∷ []) place place (omega (arith, fits)) (omega arith) (omega arith) ∙ ap (λ (k : ℕ). get_or (byte ∷ []) k 0) none)

  -- A header.

  header_put : (x : SlotHeader) → FitsHeader x → header_in (range_at (put_at disk place (header_bytes x)) place 40) ≡ Some x
  header_put x small =
      ap header_in (range_put disk (header_bytes x) place (omega (arith, fits))) ∙ sym (ap header_in (append-nil (header_bytes x))) ∙ header_back x [] small

  pub header_holds : (handle : ℕ) (r r' : Replica) (x : SlotHeader) → FitsHeader x → Holds chunk block disk slot handle r
      → x ≡ record { handle = record { 0 = handle }; version = record { 0 = r'.version }; serial = record { 0 = r'.serial }; count = r'.count }
      → r'.count ≡ r.count → r'.bytes ≡ r.bytes → r'.digests ≡ r.digests → Holds chunk block (put_at disk place (header_bytes x)) slot handle r'
  header_holds handle r r' x small h is same_count same_bytes same_digests =
      let new = put_at disk place (header_bytes x) in
      let keeps = put_keeps disk (header_bytes x) place (omega (arith, fits)) in
      let behind : (from : ℕ) → place + 40 ≤ from → (p : ℕ) → from ≤ p → is_outside place 40 p ≡ true = λ from le p at. is_after place 40 p (omega (arith, le, at)) in
      record {
        header = header_put x small ∙ ap (λ (y : SlotHeader). Some y) is;
        fits = subst (λ (n : ℕ). n ≤ chunk) (sym same_count) h.fits;
        digests =
            range_same (is_outside place 40) disk new (digests_place chunk block slot) (32 * blocks_of chunk block) keeps (omega (arith, fits)) (λ p at lt. behind (digests_place chunk block slot) (omega arith) p at)
            ∙ h.digests ∙ sym same_digests;
        bytes =
            range_same (is_outside place 40) disk new (data_place chunk block slot) chunk keeps (omega (arith, fits)) (λ p at lt. behind (data_place chunk block slot) (omega arith) p at)
            ∙ h.bytes ∙ sym same_bytes;
      }
