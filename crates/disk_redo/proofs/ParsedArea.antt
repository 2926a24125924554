-- What is written to the redo area is read again.
use Rattle.std.proofs.Common.{◌≡◌, ℕ, suc, zero, ◌+◌, ◌-◌, ◌*◌, ◌^◌, ◌<◌, ◌≤◌, Bool, true, false, List, [], ◌∷◌, ◌++◌, length, take, drop, refl, sym, ap, ◌∙◌, subst, arith, append_assoc, length-append, Option, Some, None, if◌then◌else◌}
use Rattle.std.specs.List.{flat_map}
use Rattle.std.specs.Option.{option_map}
use Rattle.std.specs.Int.{w16, w32, w64, from_le_bytes, to_le_bytes}
use Rattle.std.proofs.lemmas.Bool.Decides.{nat_tests}
use Rattle.std.proofs.lemmas.List.{take_at, drop_at, take_all, drop-drop}
use Rattle.std.proofs.lemmas.Nat.{from_le_bytes-to_le_bytes_2, from_le_bytes-to_le_bytes_4, from_le_bytes-to_le_bytes_8}
use Rattle.disk_redo.specs.Changes.{all_outside}
use Rattle.disk_redo.specs.Redo.{has_range, length_in, range_bytes, range_in, ranges_in, redo_bytes}
use Rattle.disk_redo.specs.declared.range.RedoArea.{RedoArea}
use Rattle.disk_redo.specs.declared.range.RedoRange.{RedoRange}
use Rattle.disk_redo.proofs.Applied.{outside_first}

module _ (r : RedoRange) (rest : List ℕ) (place : r.place < 2 ^ 64) (short : length r.bytes < 2 ^ 32) where
  abbrev pub bytes : List ℕ
  bytes = range_bytes r ++ rest

  abbrev pub front : List ℕ
  front = to_le_bytes w64 r.place ++ to_le_bytes w32 (length r.bytes)

  behind : bytes ≡ front ++ (r.bytes ++ rest)
  behind = append_assoc front r.bytes rest

  apart : bytes ≡ to_le_bytes w64 r.place ++ (to_le_bytes w32 (length r.bytes) ++ (r.bytes ++ rest))
  apart = behind ∙ append_assoc (to_le_bytes w64 r.place) (to_le_bytes w32 (length r.bytes)) (r.bytes ++ rest)

  place_back : from_le_bytes w64 (take 8 bytes) ≡ r.place
  place_back =
      ap (λ (l : List ℕ). from_le_bytes w64 (take 8 l)) apart
      ∙ ap (from_le_bytes w64) (take_at (to_le_bytes w64 r.place) (to_le_bytes w32 (length r.bytes) ++ (r.bytes ++ rest)) 8 refl)
      ∙ from_le_bytes-to_le_bytes_8 r.place place

  length_back : length_in bytes ≡ length r.bytes
  length_back =
      ap (λ (l : List ℕ). from_le_bytes w32 (take 4 (drop 8 l))) apart
      ∙ ap (λ (l : List ℕ). from_le_bytes w32 (take 4 l)) (drop_at (to_le_bytes w64 r.place) (to_le_bytes w32 (length r.bytes) ++ (r.bytes ++ rest)) 8 refl)
      ∙ ap (from_le_bytes w32) (take_at (to_le_bytes w32 (length r.bytes)) (r.bytes ++ rest) 4 refl)
      ∙ from_le_bytes-to_le_bytes_4 (length r.bytes) short

  bytes_back : take (length_in bytes) (drop 12 bytes) ≡ r.bytes
  bytes_back =
      ap (λ (n : ℕ). take n (drop 12 bytes)) length_back
      ∙ ap (λ (l : List ℕ). take (length r.bytes) (drop 12 l)) behind
      ∙ ap (λ (l : List ℕ). take (length r.bytes) l) (drop_at front (r.bytes ++ rest) 12 refl)
      ∙ take_at r.bytes rest (length r.bytes) refl

  pub range_back : range_in bytes ≡ r
  range_back = ap (λ (p : ℕ). record { place = p; bytes = take (length_in bytes) (drop 12 bytes) }) place_back ∙ ap (λ (l : List ℕ). record { place = r.place; bytes = l }) bytes_back

  pub rest_back : drop (12 + length_in bytes) bytes ≡ rest
  rest_back =
      ap (λ (n : ℕ). drop (12 + n) bytes) length_back
      ∙ sym (drop-drop (length r.bytes) 12 bytes)
      ∙ ap (λ (l : List ℕ). drop (length r.bytes) (drop 12 l)) behind
      ∙ ap (λ (l : List ℕ). drop (length r.bytes) l) (drop_at front (r.bytes ++ rest) 12 refl)
      ∙ drop_at r.bytes rest (length r.bytes) refl

  pub is_there : has_range bytes ≡ true
  is_there =
      let size : length bytes ≡ 12 + (length r.bytes + length rest) = ap length behind ∙ length-append front (r.bytes ++ rest) ∙ ap (λ (n : ℕ). 12 + n) (length-append r.bytes rest) in
      let long : 12 + length_in bytes ≤ length bytes = omega (arith, size, length_back) in
      let least : 12 ≤ length bytes = omega (arith, size) in
      both_hold least long
    where
      both_hold : 12 ≤ length bytes → 12 + length_in bytes ≤ length bytes → has_range bytes ≡ true
      both_hold a b = grind (arith, nat_tests, a, b)

one_more : (b : Bool) (x y : Option (List RedoRange)) → b ≡ true → (if b then x else y) ≡ x
one_more true x y h = refl
one_more false x y h = absurd cc

-- each place has 64 bits, and each length 32
pub ranges_back : (area : RedoArea) (n : ℕ) (rs : List RedoRange) (rest : List ℕ) → n < 2 ^ 64 → length (flat_map range_bytes rs) < 2 ^ 32 → all_outside area n rs ≡ true →
    ranges_in (length rs) (flat_map range_bytes rs ++ rest) ≡ Some rs
ranges_back area n [] rest fits short h = refl
ranges_back area n (r ∷ rs) rest fits short h =
    let two = outside_first area n r rs h in
    let tail = flat_map range_bytes rs ++ rest in
    let size : length (flat_map range_bytes (r ∷ rs)) ≡ 12 + length r.bytes + length (flat_map range_bytes rs) = length-append (range_bytes r) (flat_map range_bytes rs) ∙ ap (λ (k : ℕ). k + length (flat_map range_bytes rs)) (length-append (to_le_bytes w64 r.place ++ to_le_bytes w32 (length r.bytes)) r.bytes) in
    let place : r.place < 2 ^ 64 = omega (arith, two.0.within, fits) in
    let few : length r.bytes < 2 ^ 32 = omega (arith, size, short) in
    let all : flat_map range_bytes (r ∷ rs) ++ rest ≡ range_bytes r ++ tail = append_assoc (range_bytes r) (flat_map range_bytes rs) rest in
    ap (ranges_in (suc (length rs))) all
    ∙ one_more (has_range (range_bytes r ++ tail)) _ None (is_there r tail place few)
    ∙ ap (λ (x : RedoRange). option_map (λ ranges. x ∷ ranges) (ranges_in (length rs) (drop (12 + length_in (range_bytes r ++ tail)) (range_bytes r ++ tail)))) (range_back r tail place few)
    ∙ ap (λ (l : List ℕ). option_map (λ ranges. r ∷ ranges) (ranges_in (length rs) l)) (rest_back r tail place few)
    ∙ ap (option_map (λ ranges. r ∷ ranges)) (ranges_back area n rs rest fits (omega (arith, size, short)) two.1)

pub length_range : (r : RedoRange) → length (range_bytes r) ≡ 12 + length r.bytes
length_range r = length-append (to_le_bytes w64 r.place ++ to_le_bytes w32 (length r.bytes)) r.bytes

pub length_redo : (rs : List RedoRange) → length (redo_bytes rs) ≡ 2 + length (flat_map range_bytes rs)
length_redo rs = length-append (to_le_bytes w16 (length rs)) (flat_map range_bytes rs)

-- how far the ranges reach that are still to come
pub room_left : (v all : List ℕ) (r : RedoRange) (tail : List RedoRange) → v ++ flat_map range_bytes (r ∷ tail) ≡ all → length v + (12 + length r.bytes) ≤ length all
room_left v all r tail e =
    omega (
      arith,
      ap length e,
      length-append v (flat_map range_bytes (r ∷ tail)),
      length-append (range_bytes r) (flat_map range_bytes tail),
      length_range r,
    )
