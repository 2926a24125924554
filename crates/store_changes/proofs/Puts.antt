-- A new replica, on a disk at rest.
use Rattle.std.proofs.Common.{◌≡◌, ℕ, ◌<◌, ◌≤◌, false, List, [], ◌∷◌, length, sym, subst, arith, None}
use Rattle.std.specs.FinMap as map
use Rattle.disk_redo.specs.Redo.{FitsArea, is_open, stands_for}
use Rattle.disk_redo.specs.Changes.{applied}
use Rattle.disk_redo.specs.declared.range.RedoRange.{RedoRange}
use Rattle.replica_store.specs.declared.change.StoreChange.TheVariants.{Put}
use Rattle.replica_store.specs.declared.row.Row.{Row}
use Rattle.replica_store.specs.Replicas.{ServerDisk, disk_changed}
use Rattle.store_disk.specs.Index.{IndexState, index_with}
use Rattle.store_changes.specs.Areas.{area_of}
use Rattle.store_changes.specs.Changing.{Says}
use Rattle.store_changes.proofs.Areas.{rest_size}
use Rattle.store_changes.proofs.Slots.{slot_range_fits}
use Rattle.store_disk.specs.Fields.{FitsHeader}
use Rattle.store_disk.specs.Places.{disk_size, slot_place}
use Rattle.store_disk.specs.Stored.{IsDiskOf, header_of, slot_bytes}
use Rattle.store_disk.proofs.Puts.{length_slot}
use Rattle.store_disk.proofs.Stores.{put_stored}

pub put_fits : (chunk block slots handle slot : ℕ) (disk : List ℕ) (row : Row) (bytes : List ℕ) (ranges : List RedoRange) → disk_size chunk block slots ≤ length disk → slot < slots → length bytes ≤ chunk
    → ranges ≡ record { place = slot_place chunk block slot; bytes = slot_bytes chunk block (header_of handle row) bytes } ∷ []
    → FitsArea (area_of chunk block) (length disk) ranges
put_fits chunk block slots handle slot disk row bytes ranges size lt le is =
    let count = length_slot chunk block disk slot (header_of handle row) bytes le in
    subst (λ (rs : List RedoRange). FitsArea (area_of chunk block) (length disk) rs) (sym is)
    (slot_range_fits chunk block slots disk size slot (slot_bytes chunk block (header_of handle row) bytes) lt (omega (arith, count)))

module _ (chunk block slots : ℕ) (index : IndexState) (disk : List ℕ) (size : disk_size chunk block slots ≤ length disk) (closed : is_open (area_of chunk block) disk ≡ false) (handle : ℕ) (none : map.get index.held handle ≡ None)
    (slot : ℕ) (rest : List ℕ) (first : index.free ≡ slot ∷ rest) where
  pub new_put : (row : Row) (bytes : List ℕ) (ranges : List RedoRange) → length bytes ≤ chunk → row.count ≡ length bytes → FitsHeader (header_of handle row)
      → ranges ≡ record { place = slot_place chunk block slot; bytes = slot_bytes chunk block (header_of handle row) bytes } ∷ []
      → (d : ServerDisk) → Says chunk block slots index disk d
      → IsDiskOf chunk block slots (index_with index handle row (slot ∷ rest)) (applied ranges (stands_for (area_of chunk block) disk)) (disk_changed d (Put (record { 0 = handle }) row.version row.serial bytes))
  new_put row bytes ranges le count small is d says =
      subst (λ (rs : List RedoRange). IsDiskOf chunk block slots (index_with index handle row (slot ∷ rest)) (applied rs (stands_for (area_of chunk block) disk)) (disk_changed d (Put (record { 0 = handle }) row.version row.serial bytes))) (sym is)
      (put_stored chunk block slots index (stands_for (area_of chunk block) disk) d (rest_size chunk block slots disk size closed) says handle slot rest row bytes none first le count small)
