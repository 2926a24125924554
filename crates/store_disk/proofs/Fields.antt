-- Numbers that were written one after another are read again.
use Rattle.std.proofs.Common.{◌≡◌, ℕ, ◌+◌, ◌<◌, ◌^◌, List, [], ◌∷◌, ◌++◌, length, take, drop, refl, ap, ◌∙◌, append_assoc, Some}
use Rattle.std.specs.Int.{w64, from_le_bytes, to_le_bytes}
use Rattle.std.proofs.lemmas.List.{take_at, drop_at}
use Rattle.std.proofs.lemmas.Nat.{from_le_bytes-to_le_bytes_8}
use Rattle.gfs_types.specs.declared.ids.OrderNo.{OrderNo}
use Rattle.store_disk.specs.Fields.{FitsHeader, FitsOrder, header_bytes, header_in, number_at, order_bytes, order_in}
use Rattle.store_disk.specs.declared.header.SlotHeader.{SlotHeader}

-- a number behind a front
number_back : (all front rest : List ℕ) (n place : ℕ) → all ≡ front ++ (to_le_bytes w64 n ++ rest) → length front ≡ place → n < 2 ^ 64 → number_at place all ≡ n
number_back all front rest n place is size fits =
    ap (λ (l : List ℕ). from_le_bytes w64 (take 8 (drop place l))) is
    ∙ ap (λ (l : List ℕ). from_le_bytes w64 (take 8 l)) (drop_at front (to_le_bytes w64 n ++ rest) place size)
    ∙ ap (from_le_bytes w64) (take_at (to_le_bytes w64 n) rest 8 refl)
    ∙ from_le_bytes-to_le_bytes_8 n fits

pub order_back : (order : OrderNo) (rest : List ℕ) → FitsOrder order → order_in (order_bytes order ++ rest) ≡ order
order_back order rest fits =
    let a = to_le_bytes w64 order.epoch in
    let b = to_le_bytes w64 order.count in
    let is : order_bytes order ++ rest ≡ a ++ (b ++ rest) = append_assoc a b rest in
    ap (λ (n : ℕ). record { epoch = n; count = number_at 8 (order_bytes order ++ rest) }) (number_back (order_bytes order ++ rest) [] (b ++ rest) order.epoch 0 is refl fits.epoch)
    ∙ ap (λ (n : ℕ). record { epoch = order.epoch; count = n }) (number_back (order_bytes order ++ rest) a rest order.count 8 is refl fits.count)

module _ (h : SlotHeader) (rest : List ℕ) (fits : FitsHeader h) where
  abbrev used : List ℕ
  used = 1 ∷ 0 ∷ 0 ∷ 0 ∷ 0 ∷ 0 ∷ 0 ∷ 0 ∷ []

  abbrev a : List ℕ
  a = to_le_bytes w64 h.handle.0

  abbrev b : List ℕ
  b = to_le_bytes w64 h.version.0

  abbrev c : List ℕ
  c = to_le_bytes w64 h.serial.0

  abbrev d : List ℕ
  d = to_le_bytes w64 h.count

  abbrev all : List ℕ
  all = header_bytes h ++ rest

  handle_back : number_at 8 all ≡ h.handle.0
  handle_back = number_back all used (b ++ (c ++ (d ++ rest))) h.handle.0 8 (simp append_assoc refl) refl fits.handle

  version_back : number_at 16 all ≡ h.version.0
  version_back = number_back all (used ++ a) (c ++ (d ++ rest)) h.version.0 16 (simp append_assoc refl) refl fits.version

  serial_back : number_at 24 all ≡ h.serial.0
  serial_back = number_back all (used ++ a ++ b) (d ++ rest) h.serial.0 24 (simp append_assoc refl) refl fits.serial

  count_back : number_at 32 all ≡ h.count
  count_back = number_back all (used ++ a ++ b ++ c) rest h.count 32 (simp append_assoc refl) refl fits.count

  pub header_back : header_in all ≡ Some h
  header_back =
      ap (λ (n : ℕ). Some (record { handle = record { 0 = n }; version = record { 0 = number_at 16 all }; serial = record { 0 = number_at 24 all }; count = number_at 32 all })) handle_back
      ∙ ap (λ (n : ℕ). Some (record { handle = h.handle; version = record { 0 = n }; serial = record { 0 = number_at 24 all }; count = number_at 32 all })) version_back
      ∙ ap (λ (n : ℕ). Some (record { handle = h.handle; version = h.version; serial = record { 0 = n }; count = number_at 32 all })) serial_back
      ∙ ap (λ (n : ℕ). Some (record { handle = h.handle; version = h.version; serial = h.serial; count = n })) count_back
