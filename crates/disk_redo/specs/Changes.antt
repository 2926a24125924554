-- A change of a disk is a list of ranges, each with its new bytes.
use Rattle.std.specs.Prelude.{◌≡◌, ℕ, ◌+◌, Bool, true, ◌&&◌, ◌||◌, nat_le, List, [], ◌∷◌, length}
use Rattle.disk.specs.Bytes.{put_at}
use Rattle.disk_redo.specs.Moments.{is_outside}
use Rattle.disk_redo.specs.declared.range.RedoRange.{RedoRange}
use Rattle.disk_redo.specs.declared.range.RedoArea.{RedoArea}

-- a disk's bytes with these ranges in place, the first of them first
abbrev pub applied : List RedoRange → List ℕ → List ℕ
applied [] disk = disk
applied (r ∷ rs) disk = applied rs (put_at disk r.place r.bytes)

-- the place lies in none of the ranges
abbrev pub is_free : List RedoRange → ℕ → Bool
is_free [] place = true
is_free (r ∷ rs) place = is_outside r.place (length r.bytes) place && is_free rs place

-- the range lies on a disk of n bytes, outside of the area, and not before the first place of a change
abbrev pub lies_outside : RedoArea → ℕ → RedoRange → Bool
lies_outside area n r =
    nat_le (r.place + length r.bytes) n
    && (nat_le (r.place + length r.bytes) area.place || nat_le (area.place + area.size) r.place)
    && nat_le area.first r.place

abbrev pub all_outside : RedoArea → ℕ → List RedoRange → Bool
all_outside area n [] = true
all_outside area n (r ∷ rs) = lies_outside area n r && all_outside area n rs
