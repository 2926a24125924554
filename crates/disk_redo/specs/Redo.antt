-- The redo area: a gate, the number of ranges, and each range with its place and its length. The gate is open where its byte is 1. Behind an open gate stands the change that was under way, which counts as made.
use Rattle.std.specs.Prelude.{◌≡◌, ◌⊎◌, ℕ, zero, suc, ◌+◌, ◌-◌, ◌<◌, ◌≤◌, ◌^◌, Bool, true, false, ◌&&◌, ◌==◌, nat_le, if◌then◌else◌, List, [], ◌∷◌, ◌++◌, length, take, drop, replicate, slice_index, Option, None, Some}
use Rattle.std.specs.List.{flat_map}
use Rattle.std.specs.Option.{option_map}
use Rattle.std.specs.Int.{w16, w32, w64, from_le_bytes, to_le_bytes}
use Rattle.disk.specs.Bytes.{put_at, range_at}
use Rattle.disk.specs.Device.{Only}
use Rattle.disk_redo.specs.Changes.{all_outside, applied}
use Rattle.disk_redo.specs.GateMoments.{LeavesOnly}
use Rattle.disk_redo.specs.declared.range.RedoRange.{RedoRange}
use Rattle.disk_redo.specs.declared.range.RedoArea.{RedoArea}

-- a range: 8 bytes of place, 4 of length, and its bytes
abbrev pub range_bytes : RedoRange → List ℕ
range_bytes r = to_le_bytes w64 r.place ++ to_le_bytes w32 (length r.bytes) ++ r.bytes

-- what is written behind the gate: how many ranges, in 2 bytes, and each
abbrev pub redo_bytes : List RedoRange → List ℕ
redo_bytes ranges = to_le_bytes w16 (length ranges) ++ flat_map range_bytes ranges

-- the length of the first range
abbrev pub length_in : List ℕ → ℕ
length_in bytes = from_le_bytes w32 (take 4 (drop 8 bytes))

-- the first range is there whole
abbrev pub has_range : List ℕ → Bool
has_range bytes = nat_le 12 (length bytes) && nat_le (12 + length_in bytes) (length bytes)

abbrev pub range_in : List ℕ → RedoRange
range_in bytes = record { place = from_le_bytes w64 (take 8 bytes); bytes = take (length_in bytes) (drop 12 bytes) }

-- so many ranges, where the bytes begin with them
abbrev pub ranges_in : ℕ → List ℕ → Option (List RedoRange)
ranges_in zero bytes = Some []
ranges_in (suc n) bytes =
    if has_range bytes
    then option_map (λ ranges. range_in bytes ∷ ranges) (ranges_in n (drop (12 + length_in bytes) bytes))
    else None

-- ranges that lie on the disk, where a change may write
abbrev pub placed : RedoArea → ℕ → Option (List RedoRange) → Option (List RedoRange)
placed area n None = None
placed area n (Some ranges) = if all_outside area n ranges then Some ranges else None

-- the change that stands in the area, if one does
abbrev pub redo_in : RedoArea → List ℕ → Option (List RedoRange)
redo_in area disk =
    placed area (length disk)
    (ranges_in (from_le_bytes w16 (range_at disk (area.place + 1) 2)) (range_at disk (area.place + 3) (area.size - 3)))

abbrev pub is_open : RedoArea → List ℕ → Bool
is_open area disk = slice_index disk area.place == 1

-- the disk with zeros in the area
abbrev pub blanked : RedoArea → List ℕ → List ℕ
blanked area disk = put_at disk area.place (replicate area.size 0)

abbrev pub redone : Option (List RedoRange) → List ℕ → List ℕ
redone None disk = disk
redone (Some ranges) disk = applied ranges disk

-- What a disk's bytes stand for: the disk with the change that was under way, and zeros in the area.
abbrev pub stands_for : RedoArea → List ℕ → List ℕ
stands_for area disk = if is_open area disk then redone (redo_in area disk) (blanked area disk) else blanked area disk

-- the area lies on a disk of n bytes
pub record IsAreaOf (area : RedoArea) (n : ℕ) : Type 0 where
  pub least : 3 ≤ area.size
  pub most : area.place + area.size < 2 ^ 32
  pub within : area.place + area.size ≤ n

-- the change lies on a disk of n bytes, where one may write, and has room in the area
pub record FitsArea (area : RedoArea) (n : ℕ) (ranges : List RedoRange) : Type 0 where
  pub count : length ranges < 2 ^ 16
  pub room : 1 + length (redo_bytes ranges) ≤ area.size
  pub outside : all_outside area n ranges ≡ true

-- the gate is closed, and all is on the disk
pub record IsAtRest {D : Type 0} (seen : D → List ℕ) (may_leave : D → List ℕ → Type 0) (area : RedoArea) (disk : D) : Type 0 where
  pub closed : is_open area (seen disk) ≡ false
  pub durable : Only (seen disk) (may_leave disk)

-- What is read stands for bytes that have P, and so does what a stop leaves at any moment since old.
pub record StandsOnly {D : Type 0} (seen : D → List ℕ) (moment : D → ℕ) (left_since : D → ℕ → List ℕ → Type 0) (area : RedoArea) (old new : D) (P : List ℕ → Type 0) : Type 0 where
  pub read : P (stands_for area (seen new))
  pub stop : LeavesOnly moment left_since old new (λ c. P (stands_for area c))

-- as before the change, or after it
abbrev pub IsBeforeOrAfter : List RedoRange → List ℕ → List ℕ → Type 0
IsBeforeOrAfter ranges before bytes = (bytes ≡ before) ⊎ (bytes ≡ applied ranges before)
