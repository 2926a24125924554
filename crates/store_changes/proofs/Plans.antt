-- A mutation of a replica, on a disk at rest.
use Rattle.std.proofs.Common.{◌≡◌, ℕ, ◌+◌, ◌%◌, ◌≤◌, true, false, List, length, sym, ◌∙◌, subst, Some, None}
use Rattle.std.specs.FinMap as map
use Rattle.disk_redo.specs.Changes.{applied}
use Rattle.disk_redo.specs.Redo.{is_open, stands_for}
use Rattle.disk_redo.specs.declared.range.RedoRange.{RedoRange}
use Rattle.replica_store.specs.declared.change.StoreChange.TheVariants.{Write}
use Rattle.replica_store.specs.declared.row.Row.{Row}
use Rattle.replica_store.specs.Replicas.{Replica, ServerDisk, disk_changed, is_writable, is_writable_at, replica_of}
use Rattle.store_disk.specs.Index.{IndexState}
use Rattle.store_disk.specs.declared.held.HeldReplica.{HeldReplica}
use Rattle.store_changes.specs.Areas.{area_of}
use Rattle.store_changes.specs.Changing.{Says}
use Rattle.store_changes.proofs.Areas.{rest_size}
use Rattle.store_disk.specs.Fields.{FitsHeader}
use Rattle.store_disk.specs.Places.{disk_size}
use Rattle.store_changes.proofs.Rested.{holds_at_rest}
use Rattle.store_changes.specs.Writing.{checked_ranges, ranges_of, written_row}
use Rattle.store_changes.proofs.Planning.{none_if, some_if, writable_at}
use Rattle.store_changes.proofs.Stored.{write_stored}
use Rattle.store_disk.specs.Stored.{Holds, IsDiskOf, IsKnown, header_of}
use Rattle.store_disk.proofs.Replicas.{its_replica}

module _ (chunk block slots : ℕ) (index : IndexState) (disk : List ℕ) (size : disk_size chunk block slots ≤ length disk) (closed : is_open (area_of chunk block) disk ≡ false) (handle : ℕ) (found : HeldReplica) (there : map.get index.held handle ≡ Some found) where
  abbrev rested : List ℕ
  rested = stands_for (area_of chunk block) disk

  -- the replica, and its slot as it is read
  pub plan : (d : ServerDisk) → Says chunk block slots index disk d → (r : Replica) × (replica_of d handle ≡ Some r) × IsKnown chunk block slots rested handle r found × Holds chunk block disk found.slot handle r
  plan d says =
      let its = its_replica chunk block slots index rested d says handle found there in
      (its.0, its.1, its.2, holds_at_rest chunk block slots disk size closed found.slot handle its.0 its.2.there its.2.holds)

  module _ (serial offset : ℕ) (content : List ℕ) where
    abbrev now : Row
    now = written_row found.row serial offset content

    abbrev index_now : IndexState
    index_now = record index { held = map.insert index.held handle (record found { row = now }) }

    -- nothing is written
    pub not_written : ((h : ℕ) (r : Replica) → Holds chunk block disk found.slot h r → None ≡ checked_ranges chunk block r found.slot handle now offset content)
        → (d : ServerDisk) → Says chunk block slots index disk d → false ≡ is_writable_at d handle offset (offset + length content)
    not_written is d says =
        let p = plan d says in
        let r = p.0 in
        sym (writable_at d block handle r offset (offset + length content) p.1 says.block_is
        ∙ none_if (ranges_of chunk block r found.slot handle now offset content) (is_writable block r offset (offset + length content)) (is handle r p.3))

    module _ (items : List RedoRange) (is : (h : ℕ) (r : Replica) → Holds chunk block disk found.slot h r → Some items ≡ checked_ranges chunk block r found.slot handle now offset content) where
      tested : (d : ServerDisk) (says : Says chunk block slots index disk d) → (is_writable block (plan d says).0 offset (offset + length content) ≡ true) × (items ≡ ranges_of chunk block (plan d says).0 found.slot handle now offset content)
      tested d says =
          let p = plan d says in
          some_if (ranges_of chunk block p.0 found.slot handle now offset content) (is_writable block p.0 offset (offset + length content)) items (is handle p.0 p.3)

      -- it can be written over
      pub is_written : (d : ServerDisk) → Says chunk block slots index disk d → true ≡ is_writable_at d handle offset (offset + length content)
      is_written d says = let p = plan d says in sym (writable_at d block handle p.0 offset (offset + length content) p.1 says.block_is ∙ (tested d says).0)

      pub write_law : 1 ≤ block → chunk % block ≡ 0 → offset + length content ≤ chunk → FitsHeader (header_of handle now) → (d : ServerDisk) → Says chunk block slots index disk d
          → IsDiskOf chunk block slots index_now (applied items rested) (disk_changed d (Write (record { 0 = handle }) (record { 0 = serial }) offset content))
      write_law positive even fits small d says =
          let p = plan d says in
          subst (λ (rs : List RedoRange). IsDiskOf chunk block slots index_now (applied rs rested) (disk_changed d (Write (record { 0 = handle }) (record { 0 = serial }) offset content))) (sym (tested d says).1)
          (write_stored chunk block slots index rested d (rest_size chunk block slots disk size closed) says handle found there p.0 p.1 p.2 serial offset content fits small positive even)
