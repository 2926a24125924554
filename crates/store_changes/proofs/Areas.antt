-- The redo area of a chunkserver's disk.
use Rattle.std.proofs.Common.{◌≡◌, ℕ, ◌+◌, ◌*◌, ◌≤◌, false, List, [], ◌∷◌, ◌++◌, length, ap, ◌∙◌, if◌then◌else◌, arith}
use Rattle.std.proofs.lemmas.List.{append-nil}
use Rattle.std.proofs.lemmas.Bool.Decides.{nat_tests}
use Rattle.gfs_types.specs.Settings.{largest_chunk}
use Rattle.disk_redo.proofs.Applied.{length_blanked}
use Rattle.disk_redo.specs.Redo.{FitsArea, IsAreaOf, blanked, is_open, redo_in, redone, stands_for}
use Rattle.disk_redo.specs.declared.range.RedoArea.{RedoArea}
use Rattle.store_changes.specs.Areas.{area_of}
use Rattle.store_disk.specs.Places.{blocks_of, disk_size, redo_size, slot_place}

-- what a disk at rest stands for has its size
pub length_at_rest : (area : RedoArea) (c : List ℕ) → area.place + area.size ≤ length c → is_open area c ≡ false → length (stands_for area c) ≡ length c
length_at_rest area c within closed = ap length (ap (λ b. if b then redone (redo_in area c) (blanked area c) else blanked area c) closed) ∙ length_blanked area c within

module _ (chunk block slots n : ℕ) (fits : disk_size chunk block slots ≤ n) where
  pub area_fits : chunk ≤ largest_chunk → blocks_of chunk block ≤ 4194304 → IsAreaOf (area_of chunk block) n
  area_fits most few = record { least = omega arith; most = omega (arith, most, few); within = omega (arith, fits) }

  -- one range in a slot
  pub one_fits : (place : ℕ) (bytes : List ℕ) → slot_place chunk block 0 ≤ place → place + length bytes ≤ n → length bytes ≤ chunk + 32 * blocks_of chunk block + 40 → FitsArea (area_of chunk block) n (record { place = place; bytes = bytes } ∷ [])
  one_fits place bytes behind within small =
      let far : 48 + redo_size chunk block ≤ place = omega (arith, behind) in
      let none : length (bytes ++ []) ≡ length bytes = ap length (append-nil bytes) in
      record {
        count = omega arith;
        room = omega (arith, small, none);
        outside = grind (arith, nat_tests, within, far);
      }

-- what a disk at rest stands for is large enough
pub rest_size : (chunk block slots : ℕ) (c : List ℕ) → disk_size chunk block slots ≤ length c → is_open (area_of chunk block) c ≡ false → disk_size chunk block slots ≤ length (stands_for (area_of chunk block) c)
rest_size chunk block slots c fits closed =
    let same = length_at_rest (area_of chunk block) c (omega (arith, fits)) closed in
    omega (arith, same, fits)
