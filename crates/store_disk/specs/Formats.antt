-- A chunkserver's disk without replicas, for chunks of so many bytes in blocks of so many, in so many slots.
use Rattle.std.specs.Prelude.{◌≡◌, ◌⊎◌, ℕ, ◌<◌, ◌≤◌, Bool, true, false, ◌==◌, List, length, slice_index, take}
use Rattle.store_disk.specs.Fields.{head_bytes}
use Rattle.store_disk.specs.Places.{disk_size, slot_place}

-- the head's gate, its last byte, is open where it is 1
abbrev pub is_head_open : List ℕ → Bool
is_head_open disk = slice_index disk 31 == 1

-- the head is this layout's
abbrev pub IsHeadOf : ℕ → ℕ → ℕ → List ℕ → Type 0
IsHeadOf chunk block slots disk = take 31 disk ≡ head_bytes chunk block slots

-- The disk is large enough, its head is this layout's, and the head's gate is open.
pub record HasOpenHead (chunk block slots : ℕ) (disk : List ℕ) : Type 0 where
  pub large : disk_size chunk block slots ≤ length disk
  pub head : IsHeadOf chunk block slots disk
  pub gate : is_head_open disk ≡ true

-- No order was taken, the gate of the redo area right behind its number is closed, and no slot is used.
pub record IsBlank (chunk block slots : ℕ) (disk : List ℕ) : Type 0 where
  pub order : (place : ℕ) → 32 ≤ place → place < 49 → slice_index disk place ≡ 0
  pub free : (slot : ℕ) → slot < slots → slice_index disk (slot_place chunk block slot) ≡ 0

pub record IsFormatted (chunk block slots : ℕ) (disk : List ℕ) : Type 0 where
  pub head : HasOpenHead chunk block slots disk
  pub blank : IsBlank chunk block slots disk

-- what a stop leaves while that is done
abbrev pub IsFormatting : ℕ → ℕ → ℕ → List ℕ → Type 0
IsFormatting chunk block slots disk = (is_head_open disk ≡ false) ⊎ IsFormatted chunk block slots disk
