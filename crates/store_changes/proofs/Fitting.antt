-- The ranges of a mutation have room in the redo area.
use Rattle.std.proofs.Common.{◌≡◌, ℕ, ◌+◌, ◌*◌, ◌/◌, ◌%◌, ◌<◌, ◌≤◌, true, List, [], ◌∷◌, ◌++◌, length, refl, arith, length-append}
use Rattle.std.proofs.lemmas.Bool.Decides.{nat_tests}
use Rattle.replica_store.specs.Replicas.{digests_of, touched}
use Rattle.disk_redo.specs.Changes.{all_outside, lies_outside}
use Rattle.disk_redo.specs.Redo.{FitsArea, range_bytes}
use Rattle.disk_redo.specs.declared.range.RedoRange.{RedoRange}
use Rattle.disk_redo.proofs.Applied.{both}
use Rattle.disk_redo.proofs.ParsedArea.{length_range, length_redo}
use Rattle.store_disk.proofs.BlockDigests.{length_digests}
use Rattle.replica_store.specs.declared.row.Row.{Row}
use Rattle.store_changes.specs.Areas.{area_of}
use Rattle.store_changes.proofs.Slots.{slot_range_fits}
use Rattle.store_disk.proofs.FormatSlots.{slot_before}
use Rattle.store_disk.specs.Fields.{header_bytes}
use Rattle.store_disk.specs.Places.{blocks_of, data_place, digests_place, disk_size, redo_size, slot_place, slot_size}
use Rattle.store_changes.proofs.Bounds.{run_within}
use Rattle.store_changes.specs.Writing.{header_range_of, written_ranges}
use Rattle.store_changes.specs.declared.edges.Edges.{Edges}
use Rattle.store_disk.specs.Stored.{header_of}

outside : (chunk block n place : ℕ) (bytes : List ℕ) → place + length bytes ≤ n → 48 + redo_size chunk block ≤ place → lies_outside (area_of chunk block) n (record { place = place; bytes = bytes }) ≡ true
outside chunk block n place bytes within far = grind (arith, nat_tests, within, far)

module _ (chunk block slots : ℕ) (disk : List ℕ) (size : disk_size chunk block slots ≤ length disk) (slot : ℕ) (there : slot < slots) where
  abbrev place : ℕ
  place = slot_place chunk block slot

  room : place + slot_size chunk block ≤ length disk
  room = let before = slot_before chunk block slot slots there in omega (arith, before, size)

  pub header_fits : (handle : ℕ) (row : Row) → FitsArea (area_of chunk block) (length disk) (header_range_of chunk block slot handle row ∷ [])
  header_fits handle row = slot_range_fits chunk block slots disk size slot (header_bytes (header_of handle row)) there (omega arith)

  -- a header, digests, and bytes
  three_fit : (head digests content : List ℕ) (first count offset : ℕ) → length head ≡ 40 → length digests ≡ 32 * count → first + count ≤ blocks_of chunk block → offset + length content ≤ chunk
      → FitsArea (area_of chunk block) (length disk)
      (record { place = place; bytes = head } ∷ record { place = digests_place chunk block slot + 32 * first; bytes = digests } ∷ record { place = data_place chunk block slot + offset; bytes = content } ∷ [])
  three_fit head digests content first count offset head_long digests_long within fits =
      let one : RedoRange = record { place = place; bytes = head } in
      let two : RedoRange = record { place = digests_place chunk block slot + 32 * first; bytes = digests } in
      let three : RedoRange = record { place = data_place chunk block slot + offset; bytes = content } in
      let n = length disk in
      let area = area_of chunk block in
      record {
        count = omega arith;
        room = omega (
          arith,
          length_redo (one ∷ two ∷ three ∷ []),
          length-append (range_bytes one) (range_bytes two ++ (range_bytes three ++ [])),
          length-append (range_bytes two) (range_bytes three ++ []),
          length-append (range_bytes three) [],
          length_range one,
          length_range two,
          length_range three,
          head_long,
          digests_long,
          within,
          fits,
        );
        outside = both (lies_outside area n one) (all_outside area n (two ∷ three ∷ [])) (outside chunk block n place head (omega (arith, room, head_long)) (omega arith))
            (both (lies_outside area n two) (all_outside area n (three ∷ [])) (outside chunk block n (digests_place chunk block slot + 32 * first) digests (omega (arith, room, digests_long, within)) (omega arith))
            (both (lies_outside area n three) true (outside chunk block n (data_place chunk block slot + offset) content (omega (arith, room, fits)) (omega arith)) refl));
      }

  pub written_fit : (handle : ℕ) (row : Row) (edges : Edges) (offset : ℕ) (content : List ℕ) → 1 ≤ block → chunk % block ≡ 0 → 1 ≤ length content → offset + length content ≤ chunk
      → FitsArea (area_of chunk block) (length disk) (written_ranges chunk block slot handle row edges offset content)
  written_fit handle row edges offset content positive even some fits =
      let count = touched block offset (offset + length content) in
      three_fit (header_bytes (header_of handle row)) (digests_of block count (edges.before ++ content ++ edges.after)) content (offset / block) count offset refl
      (length_digests block count (edges.before ++ content ++ edges.after))
      (run_within chunk block offset (offset + length content) positive even (omega (arith, some)) fits) fits
