-- A change of one slot, on a disk at rest.
use Rattle.std.proofs.Common.{◌≡◌, ℕ, ◌<◌, ◌≤◌, false, List, [], ◌∷◌, length, sym, subst, arith, Some}
use Rattle.std.specs.FinMap as map
use Rattle.disk_redo.specs.Redo.{FitsArea, is_open, stands_for}
use Rattle.disk_redo.specs.Changes.{applied}
use Rattle.disk_redo.specs.declared.range.RedoRange.{RedoRange}
use Rattle.replica_store.specs.declared.change.StoreChange.TheVariants.{Raise, Remove}
use Rattle.replica_store.specs.Replicas.{ServerDisk, disk_changed}
use Rattle.store_disk.specs.Index.{IndexState, index_without}
use Rattle.store_disk.specs.declared.held.HeldReplica.{HeldReplica}
use Rattle.store_changes.specs.Areas.{area_of}
use Rattle.store_changes.specs.Changing.{Says}
use Rattle.store_changes.proofs.Areas.{one_fits, rest_size}
use Rattle.store_disk.proofs.FormatSlots.{slot_before}
use Rattle.store_disk.specs.Fields.{FitsHeader, header_bytes}
use Rattle.store_disk.specs.Places.{disk_size, slot_place, slot_size}
use Rattle.store_disk.specs.Stored.{IsDiskOf, header_of, raised_row}
use Rattle.store_disk.proofs.Stores.{raise_stored, remove_stored}

-- bytes at the front of a slot have room in the area
pub slot_range_fits : (chunk block slots : ℕ) (disk : List ℕ) → disk_size chunk block slots ≤ length disk → (slot : ℕ) (bytes : List ℕ) → slot < slots → length bytes ≤ slot_size chunk block → FitsArea (area_of chunk block) (length disk) (record { place = slot_place chunk block slot; bytes = bytes } ∷ [])
slot_range_fits chunk block slots disk size slot bytes lt few =
    let before = slot_before chunk block slot slots lt in
    one_fits chunk block slots (length disk) size (slot_place chunk block slot) bytes (omega arith) (omega (arith, before, few, size)) (omega (arith, few))

module _ (chunk block slots : ℕ) (index : IndexState) (disk : List ℕ) (size : disk_size chunk block slots ≤ length disk) where
  module _ (closed : is_open (area_of chunk block) disk ≡ false) (handle : ℕ) (found : HeldReplica) (there : map.get index.held handle ≡ Some found) where
    rested : disk_size chunk block slots ≤ length (stands_for (area_of chunk block) disk)
    rested = rest_size chunk block slots disk size closed

    pub raised : (version : ℕ) (ranges : List RedoRange) → FitsHeader (header_of handle (raised_row version found.row))
        → ranges ≡ record { place = slot_place chunk block found.slot; bytes = header_bytes (header_of handle (raised_row version found.row)) } ∷ []
        → (d : ServerDisk) → Says chunk block slots index disk d
        → IsDiskOf chunk block slots (record index { held = map.insert index.held handle (record found { row = raised_row version found.row }) }) (applied ranges (stands_for (area_of chunk block) disk)) (disk_changed d (Raise (record { 0 = handle }) (record { 0 = version })))
    raised version ranges small is d says =
        subst (λ (rs : List RedoRange). IsDiskOf chunk block slots (record index { held = map.insert index.held handle (record found { row = raised_row version found.row }) }) (applied rs (stands_for (area_of chunk block) disk)) (disk_changed d (Raise (record { 0 = handle }) (record { 0 = version })))) (sym is)
        (raise_stored chunk block slots index (stands_for (area_of chunk block) disk) d rested says handle found version there small)

    pub removed : (ranges : List RedoRange) → ranges ≡ record { place = slot_place chunk block found.slot; bytes = 0 ∷ [] } ∷ []
        → (d : ServerDisk) → Says chunk block slots index disk d
        → IsDiskOf chunk block slots (index_without index handle (Some found)) (applied ranges (stands_for (area_of chunk block) disk)) (disk_changed d (Remove (record { 0 = handle })))
    removed ranges is d says =
        subst (λ (rs : List RedoRange). IsDiskOf chunk block slots (index_without index handle (Some found)) (applied rs (stands_for (area_of chunk block) disk)) (disk_changed d (Remove (record { 0 = handle })))) (sym is)
        (remove_stored chunk block slots index (stands_for (area_of chunk block) disk) d rested says handle found there)
