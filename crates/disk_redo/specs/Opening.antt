-- Opening a redo area.
use Rattle.std.specs.Prelude.{◌≡◌, ◌⊎◌, ℕ, ◌+◌, if◌then◌else◌, List, drop, Option, None, Some}
use Rattle.disk_redo.specs.Redo.{has_range, length_in, range_in, stands_for}
use Rattle.disk_redo.specs.declared.range.RedoArea.{RedoArea}
use Rattle.disk_redo.specs.declared.range.RedoRange.{RedoRange}

-- the first range and the bytes after it, where it is there whole
abbrev pub first_in : List ℕ → Option (RedoRange × List ℕ)
first_in bytes = if has_range bytes then Some (range_in bytes, drop (12 + length_in bytes) bytes) else None

-- A stop within an opening leaves what one before it might have left, or bytes that stand for what was there.
abbrev pub IsOpening : RedoArea → List ℕ → (List ℕ → Type 0) → List ℕ → Type 0
IsOpening area before may_leave c = may_leave c ⊎ (stands_for area c ≡ stands_for area before)
