-- Changes of a server's disk, in its bytes.
use Rattle.std.proofs.Common.{◌≡◌, ℕ, ◌+◌, ◌<◌, ◌≤◌, List, [], ◌∷◌, length, refl, sym, ap, subst, arith, Option, None, Some}
use Rattle.std.specs.FinMap as map
use Rattle.disk.specs.Bytes.{put_at}
use Rattle.replica_store.specs.declared.change.StoreChange.TheVariants.{Put, Raise, Remove}
use Rattle.replica_store.specs.Replicas.{Replica, ServerDisk, disk_changed, raised_replica, replica_becomes, stored_replica, with_replica}
use Rattle.replica_store.specs.declared.row.Row.{Row}
use Rattle.store_disk.specs.Index.{IndexState, index_with, index_without}
use Rattle.store_disk.specs.declared.held.HeldReplica.{HeldReplica}
use Rattle.store_disk.proofs.FormatSlots.{slot_before}
use Rattle.store_disk.specs.Fields.{FitsHeader, header_bytes}
use Rattle.store_disk.specs.Places.{disk_size, slot_place, slot_size}
use Rattle.store_disk.specs.Stored.{IsDiskOf, header_of, raised_row, slot_bytes}
use Rattle.store_disk.proofs.Changing.{replica_added, replica_removed, within}
use Rattle.store_disk.proofs.Headers.{front_keeps, header_holds, used_put}
use Rattle.store_disk.proofs.Puts.{length_slot, put_holds}
use Rattle.store_disk.proofs.Replicas.{its_replica, replica_replaced}

module _ (chunk block slots : ℕ) (index : IndexState) (disk : List ℕ) (d : ServerDisk) (fits : disk_size chunk block slots ≤ length disk) (is : IsDiskOf chunk block slots index disk d) (h : ℕ) where
  -- the slot of a replica lies on the disk
  pub slot_fits : (found : HeldReplica) → map.get index.held h ≡ Some found → (found.slot < slots) × (slot_place chunk block found.slot + slot_size chunk block ≤ length disk)
  slot_fits found there =
      let lt = (its_replica chunk block slots index disk d is h found there).2.there in
      let before = slot_before chunk block found.slot slots lt in
      (lt, omega (arith, before, fits))

  pub raise_stored : (found : HeldReplica) (version : ℕ) → map.get index.held h ≡ Some found → FitsHeader (header_of h (raised_row version found.row))
      → IsDiskOf chunk block slots (record index { held = map.insert index.held h (record found { row = raised_row version found.row }) })
      (put_at disk (slot_place chunk block found.slot) (header_bytes (header_of h (raised_row version found.row))))
      (disk_changed d (Raise (record { 0 = h }) (record { 0 = version })))
  raise_stored found version there small =
      let its = its_replica chunk block slots index disk d is h found there in
      let r = its.0 in
      let room = (slot_fits found there).1 in
      let was : record { version = record { 0 = r.version }; serial = record { 0 = r.serial }; count = r.count } ≡ found.row = (let e = its.2.row in cc) in
      let count : r.count ≡ found.row.count = ap (λ (row : Row). row.count) was in
      let header = header_of h (raised_row version found.row) in
      let new = put_at disk (slot_place chunk block found.slot) (header_bytes header) in
      let keeps = front_keeps disk (header_bytes header) (slot_place chunk block found.slot) (slot_size chunk block) (omega arith) room in
      let holds = header_holds chunk block disk found.slot room h r (raised_replica r version) header small its.2.holds
      (ap (λ (n : ℕ). record { handle = record { 0 = h }; version = record { 0 = version }; serial = record { 0 = 0 }; count = n }) (sym count)) refl refl refl in
      subst (λ (o : Option Replica). IsDiskOf chunk block slots (record index { held = map.insert index.held h (record found { row = raised_row version found.row }) }) new (replica_becomes (λ q. raised_replica q version) d h o)) (sym its.1)
      (replica_replaced chunk block slots index disk d is h found there new (raised_replica r version) (raised_row version found.row) fits keeps holds
      (ap (λ (n : ℕ). Some (record { version = record { 0 = version }; serial = record { 0 = 0 }; count = n })) count))

  pub remove_stored : (found : HeldReplica) → map.get index.held h ≡ Some found
      → IsDiskOf chunk block slots (index_without index h (Some found)) (put_at disk (slot_place chunk block found.slot) (0 ∷ [])) (disk_changed d (Remove (record { 0 = h })))
  remove_stored found there =
      let room = (slot_fits found there).1 in
      replica_removed chunk block slots index disk d is h (put_at disk (slot_place chunk block found.slot) (0 ∷ [])) fits found there
      (front_keeps disk (0 ∷ []) (slot_place chunk block found.slot) (slot_size chunk block) (omega arith) room)
      (used_put chunk block disk found.slot room 0)

  pub put_stored : (slot : ℕ) (rest : List ℕ) (row : Row) (bytes : List ℕ) → map.get index.held h ≡ None → index.free ≡ slot ∷ rest → length bytes ≤ chunk → row.count ≡ length bytes → FitsHeader (header_of h row)
      → IsDiskOf chunk block slots (index_with index h row (slot ∷ rest)) (put_at disk (slot_place chunk block slot) (slot_bytes chunk block (header_of h row) bytes)) (disk_changed d (Put (record { 0 = h }) row.version row.serial bytes))
  put_stored slot rest row bytes none first le count small =
      let all = slot_bytes chunk block (header_of h row) bytes in
      let size = length_slot chunk block disk slot (header_of h row) bytes le in
      let new = put_at disk (slot_place chunk block slot) all in
      let lt : slot < slots = within chunk block slots index disk d is h new fits slot rest none first in
      let before = slot_before chunk block slot slots lt in
      let room : slot_place chunk block slot + slot_size chunk block ≤ length disk = omega (arith, before, fits) in
      let holds = put_holds chunk block disk slot (header_of h row) bytes le room h row.version.0 row.serial.0 small
      (ap (λ (n : ℕ). record { handle = record { 0 = h }; version = row.version; serial = row.serial; count = n }) count) in
      let added = replica_added chunk block slots index disk d is h new fits slot rest none first (stored_replica chunk block row.version.0 row.serial.0 bytes) row
      (front_keeps disk all (slot_place chunk block slot) (slot_size chunk block) (omega (arith, size)) room) holds
      (ap (λ (n : ℕ). Some (record { version = row.version; serial = row.serial; count = n })) (sym count)) in
      let kept : IndexState = index_with index h row (slot ∷ rest) in
      subst (λ (k : ℕ). IsDiskOf chunk block slots kept new (with_replica d h (stored_replica d.chunk k row.version.0 row.serial.0 bytes))) (sym is.block_is)
      (subst (λ (k : ℕ). IsDiskOf chunk block slots kept new (with_replica d h (stored_replica k block row.version.0 row.serial.0 bytes))) (sym is.chunk_is) added)
