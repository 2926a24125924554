-- A slot of which the header, the digests of some blocks, and some of the bytes were written.
use Rattle.std.proofs.Common.{◌≡◌, ◌⊎◌, inl, inr, ℕ, ◌+◌, ◌-◌, ◌*◌, ◌/◌, ◌<◌, ◌≤◌, true, if◌then◌else◌, List, [], ◌++◌, length, get_or, take, drop, sym, ap, ◌∙◌, arith, Some}
use Rattle.std.specs.Prelude.{max, nat_le}
use Rattle.std.proofs.lemmas.Bool.{cases_lt}
use Rattle.std.proofs.lemmas.Bool.Decides.{nat_tests}
use Rattle.std.proofs.lemmas.List.{append-nil, ext_get_or, take-append-drop}
use Rattle.disk.specs.Bytes.{put_at, range_at}
use Rattle.disk_redo.proofs.Ranges.{get_range, length_range, put_changes, range_outside, range_put}
use Rattle.disk_redo.specs.Moments.{KeepsAt, is_outside}
use Rattle.disk_redo.proofs.Places.{is_after, is_before, keeps_fewer, keeps_then, length_put, outside_cases, put_after, put_before, put_keeps, put_within}
use Rattle.store_disk.proofs.BlockPuts.{length_over, over_after, over_before, over_within}
use Rattle.replica_store.specs.Replicas.{Replica, digests_of, renewed_digests, touched, written_over, written_replica}
use Rattle.store_disk.specs.Fields.{FitsHeader, header_bytes, header_in}
use Rattle.store_disk.specs.declared.header.SlotHeader.{SlotHeader}
use Rattle.store_disk.proofs.Fields.{header_back}
use Rattle.store_disk.specs.Places.{blocks_of, data_place, digests_place, slot_place, slot_size}
use Rattle.store_disk.specs.Stored.{Holds}

-- a range in which bytes were put
pub put_inside : (d c : List ℕ) (a m at : ℕ) → a + m ≤ length d → a ≤ at → at + length c ≤ a + m → range_at (put_at d at c) a m ≡ written_over (range_at d a m) (at - a) c
put_inside d c a m at fits low high =
    let new = put_at d at c in
    let room : at + length c ≤ length d = omega (arith, high, fits) in
    let here : length (range_at new a m) ≡ m = length_range new a m (omega (arith, length_put d c at room, fits)) in
    let was : length (range_at d a m) ≡ m = length_range d a m fits in
    let inner : at - a + length c ≤ length (range_at d a m) = omega (arith, was, low, high) in
    ext_get_or 0 (range_at new a m) (written_over (range_at d a m) (at - a) c) (here ∙ sym (length_over (range_at d a m) c (at - a) inner ∙ was)) (λ i lt.
    let below : i < m = omega (arith, lt, here) in
    elim (cases_lt (a + i) at) [
      | inl before ↦ get_range new a m i below ∙ put_before d c at (a + i) room before ∙ sym (get_range d a m i below) ∙ sym (over_before (range_at d a m) c (at - a) i inner (omega (arith, before, low)))
      | inr le ↦ elim (cases_lt (a + i) (at + length c)) [
        | inl inside ↦ (
            let same : a + i - at ≡ i - (at - a) = omega (arith, low, le) in
            get_range new a m i below ∙ put_within d c at (a + i) room le inside ∙ ap (λ (k : ℕ). get_or c k 0) same
            ∙ sym (over_within (range_at d a m) c (at - a) i inner (omega (arith, le, low)) (omega (arith, inside, low))))
        | inr after ↦ get_range new a m i below ∙ put_after d c at (a + i) room after ∙ sym (get_range d a m i below) ∙ sym (over_after (range_at d a m) c (at - a) i inner (omega (arith, after, low)))
      ]
    ])

-- bytes that were put within a range
pub put_keeps_outside : (d c : List ℕ) (at from size : ℕ) → from ≤ at → at + length c ≤ from + size → from + size ≤ length d → KeepsAt (is_outside from size) d (put_at d at c)
put_keeps_outside d c at from size low high fits =
    keeps_fewer (is_outside from size) (is_outside at (length c)) d (put_at d at c) (λ place h. elim (outside_cases from size place h) [
      | inl lt ↦ is_before at (length c) place (omega (arith, lt, low))
      | inr past ↦ is_after at (length c) place (omega (arith, past, high))
    ]) (put_keeps d c at (omega (arith, high, fits)))

module _ (chunk block : ℕ) (disk : List ℕ) (slot handle : ℕ) (r : Replica) (room : slot_place chunk block slot + slot_size chunk block ≤ length disk) (h : Holds chunk block disk slot handle r)
    (x : SlotHeader) (small : FitsHeader x) (serial offset : ℕ) (content : List ℕ) (fits : offset + length content ≤ chunk)
    (is : x ≡ record { handle = record { 0 = handle }; version = record { 0 = r.version }; serial = record { 0 = serial }; count = max r.count (offset + length content) }) where
  abbrev place : ℕ
  place = slot_place chunk block slot

  abbrev blocks : ℕ
  blocks = blocks_of chunk block

  abbrev one : List ℕ
  one = put_at disk place (header_bytes x)

  one_size : length one ≡ length disk
  one_size = length_put disk (header_bytes x) place (omega (arith, room))

  one_header : range_at one place 40 ≡ header_bytes x
  one_header = range_put disk (header_bytes x) place (omega (arith, room))

  -- what lies behind the header stays
  one_behind : (a m : ℕ) → place + 40 ≤ a → a + m ≤ place + slot_size chunk block → range_at one a m ≡ range_at disk a m
  one_behind a m low high = range_outside a m place 40 disk one (put_changes disk (header_bytes x) place (omega (arith, room))) (omega (arith, high, room)) (inr low)

  header_said : header_in (header_bytes x) ≡ Some (record { handle = record { 0 = handle }; version = record { 0 = r.version }; serial = record { 0 = serial }; count = max r.count (offset + length content) })
  header_said = sym (ap header_in (append-nil (header_bytes x))) ∙ header_back x [] small ∙ ap (λ (y : SlotHeader). Some y) is

  -- No bytes, which may make the replica longer: the header alone.
  pub longer_holds : content ≡ [] → Holds chunk block one slot handle (written_replica block r serial offset content)
  longer_holds none =
      let none_long : nat_le (offset + length content) offset ≡ true = grind (arith, nat_tests, ap length none) in
      let digests_at = digests_place chunk block slot in
      let data_at = data_place chunk block slot in
      let run : List ℕ = digests_of block (touched block offset (offset + length content)) (drop (offset / block * block) (written_over r.bytes offset content)) in
      record {
        header = ap header_in one_header ∙ header_said;
        fits = omega (arith, h.fits, fits);
        digests = one_behind digests_at (32 * blocks) (omega arith) (omega arith) ∙ h.digests
            ∙ sym (ap (λ b. if b then r.digests else written_over r.digests (32 * (offset / block)) run) none_long);
        bytes = one_behind data_at chunk (omega arith) (omega arith) ∙ h.bytes
            ∙ sym (ap (λ (l : List ℕ). written_over r.bytes offset l) none ∙ no_bytes r.bytes);
      }
    where
      no_bytes : (xs : List ℕ) → written_over xs offset [] ≡ xs
      no_bytes xs =
          let end_is : offset + length {A = ℕ} [] ≡ offset = omega arith in
          ap (λ (l : List ℕ). l ++ drop (offset + length {A = ℕ} []) xs) (append-nil (take offset xs)) ∙ ap (λ (k : ℕ). take offset xs ++ drop k xs) end_is ∙ take-append-drop offset xs

  pub longer_keeps : KeepsAt (is_outside place (slot_size chunk block)) disk one
  longer_keeps = put_keeps_outside disk (header_bytes x) place place (slot_size chunk block) (omega arith) (omega arith) room

  -- The header, the digests of a run, and the bytes.
  module _ (first count : ℕ) (digests : List ℕ) (run : first + count ≤ blocks) (size : length digests ≡ 32 * count)
      (digests_are : written_over r.digests (32 * first) digests ≡ renewed_digests block r.digests (written_over r.bytes offset content) offset (offset + length content)) where
    abbrev digests_at : ℕ
    digests_at = digests_place chunk block slot + 32 * first

    abbrev data_at : ℕ
    data_at = data_place chunk block slot + offset

    abbrev two : List ℕ
    two = put_at one digests_at digests

    abbrev three : List ℕ
    three = put_at two data_at content

    in_one : digests_at + length digests ≤ length one
    in_one = omega (arith, size, run, room, one_size)

    two_size : length two ≡ length disk
    two_size = length_put one digests digests_at in_one ∙ one_size

    in_two : data_at + length content ≤ length two
    in_two = omega (arith, fits, room, two_size)

    two_apart : (a m : ℕ) → a + m ≤ length disk → (a + m ≤ digests_at) ⊎ (digests_at + length digests ≤ a) → range_at two a m ≡ range_at one a m
    two_apart a m within = range_outside a m digests_at (length digests) one two (put_changes one digests digests_at in_one) (omega (arith, within, one_size))

    three_before : (a m : ℕ) → a + m ≤ data_at → range_at three a m ≡ range_at two a m
    three_before a m before = range_outside a m data_at (length content) two three (put_changes two content data_at in_two) (omega (arith, before, in_two)) (inl before)

    pub written_holds : Holds chunk block three slot handle (written_replica block r serial offset content)
    written_holds =
        let d = digests_place chunk block slot in
        let b = data_place chunk block slot in
        let d_off : digests_at - d ≡ 32 * first = omega arith in
        let b_off : data_at - b ≡ offset = omega arith in
        record {
          header = ap header_in (three_before place 40 (omega arith) ∙ two_apart place 40 (omega (arith, room)) (inl (omega arith)) ∙ one_header) ∙ header_said;
          fits = omega (arith, h.fits, fits);
          digests = three_before d (32 * blocks) (omega arith)
              ∙ put_inside one digests d (32 * blocks) digests_at (omega (arith, room, one_size)) (omega arith) (omega (arith, size, run))
              ∙ ap (λ (k : ℕ). written_over (range_at one d (32 * blocks)) k digests) d_off
              ∙ ap (λ (l : List ℕ). written_over l (32 * first) digests) (one_behind d (32 * blocks) (omega arith) (omega arith) ∙ h.digests)
              ∙ digests_are;
          bytes = put_inside two content b chunk data_at (omega (arith, room, two_size)) (omega arith) (omega (arith, fits))
              ∙ ap (λ (k : ℕ). written_over (range_at two b chunk) k content) b_off
              ∙ ap (λ (l : List ℕ). written_over l offset content) (two_apart b chunk (omega (arith, room)) (inr (omega (arith, size, run))) ∙ one_behind b chunk (omega arith) (omega arith) ∙ h.bytes);
        }

    pub written_keeps : KeepsAt (is_outside place (slot_size chunk block)) disk three
    written_keeps =
        let kept = is_outside place (slot_size chunk block) in
        keeps_then kept disk one three longer_keeps
        (keeps_then kept one two three
        (put_keeps_outside one digests digests_at place (slot_size chunk block) (omega arith) (omega (arith, size, run)) (omega (arith, room, one_size)))
        (put_keeps_outside two content data_at place (slot_size chunk block) (omega arith) (omega (arith, fits)) (omega (arith, room, two_size))))
