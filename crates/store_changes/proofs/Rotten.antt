-- A byte of a replica that rots, on a disk at rest.
use Rattle.std.proofs.Common.{◌≡◌, inl, ℕ, ◌+◌, ◌-◌, ◌*◌, ◌<◌, ◌≤◌, false, List, [], ◌∷◌, length, sym, ap, ◌∙◌, subst, arith, Option, Some}
use Rattle.std.specs.FinMap as map
use Rattle.std.specs.Ordering.{nat_cmp}
use Rattle.disk.specs.Bytes.{put_at, range_at}
use Rattle.disk_redo.proofs.Ranges.{put_changes, range_outside}
use Rattle.disk_redo.specs.Changes.{applied}
use Rattle.disk_redo.specs.Moments.{KeepsAt, is_outside}
use Rattle.disk_redo.specs.Redo.{FitsArea, is_open, stands_for}
use Rattle.disk_redo.specs.declared.range.RedoRange.{RedoRange}
use Rattle.store_disk.proofs.Rotten.{byte_rotten}
use Rattle.replica_store.specs.declared.change.StoreChange.TheVariants.{Rot}
use Rattle.replica_store.specs.Replicas.{Replica, ServerDisk, disk_changed, replica_becomes, rotten_replica, written_over}
use Rattle.store_disk.specs.Index.{IndexState}
use Rattle.store_disk.specs.declared.held.HeldReplica.{HeldReplica}
use Rattle.store_changes.specs.Areas.{area_of}
use Rattle.store_changes.specs.Changing.{Says}
use Rattle.store_changes.proofs.Areas.{one_fits, rest_size}
use Rattle.store_disk.proofs.FormatSlots.{slot_before, slots_behind}
use Rattle.store_disk.specs.Fields.{header_in}
use Rattle.store_disk.specs.Places.{blocks_of, data_place, digests_place, disk_size, slot_place, slot_size}
use Rattle.store_disk.specs.Stored.{Holds, IsDiskOf}
use Rattle.store_disk.proofs.Lookups.{insert_same}
use Rattle.store_disk.proofs.Replicas.{its_replica, replica_replaced}
use Rattle.store_disk.proofs.Slots.{bytes_long}
use Rattle.store_changes.proofs.Holding.{put_inside, put_keeps_outside}

module _ (chunk block : ℕ) (disk : List ℕ) (slot handle : ℕ) (r : Replica) (room : slot_place chunk block slot + slot_size chunk block ≤ length disk) (h : Holds chunk block disk slot handle r) (place byte : ℕ) (low : place < chunk) where
  abbrev at : ℕ
  at = data_place chunk block slot + place

  abbrev new : List ℕ
  new = put_at disk at (byte ∷ [])

  fits : at + length (byte ∷ []) ≤ length disk
  fits = omega (arith, room, low)

  -- what lies before the chunk's bytes stays
  before_data : (a m : ℕ) → a + m ≤ data_place chunk block slot → range_at new a m ≡ range_at disk a m
  before_data a m le = range_outside a m at 1 disk new (put_changes disk (byte ∷ []) at fits) (omega (arith, le, room)) (inl (omega (arith, le)))

  rotten_holds : Holds chunk block new slot handle (rotten_replica r place byte)
  rotten_holds =
      let bytes_at = data_place chunk block slot in
      let inner : at - bytes_at ≡ place = omega arith in
      record {
        header = ap header_in (before_data (slot_place chunk block slot) 40 (omega arith)) ∙ h.header;
        fits = h.fits;
        digests = before_data (digests_place chunk block slot) (32 * blocks_of chunk block) (omega arith) ∙ h.digests;
        bytes = put_inside disk (byte ∷ []) bytes_at chunk at (omega (arith, room)) (omega arith) (omega (arith, low))
            ∙ ap (λ (k : ℕ). written_over (range_at disk bytes_at chunk) k (byte ∷ [])) inner
            ∙ ap (λ (l : List ℕ). written_over l place (byte ∷ [])) h.bytes
            ∙ sym (byte_rotten r.bytes place byte (omega (arith, bytes_long chunk block disk slot handle r room h, low)));
      }

  rotten_keeps : KeepsAt (is_outside (slot_place chunk block slot) (slot_size chunk block)) disk new
  rotten_keeps = put_keeps_outside disk (byte ∷ []) at (slot_place chunk block slot) (slot_size chunk block) (omega arith) (omega (arith, low)) room

abbrev rotten_range : ℕ → ℕ → ℕ → ℕ → ℕ → List RedoRange
rotten_range chunk block slot place byte = record { place = data_place chunk block slot + place; bytes = byte ∷ [] } ∷ []

module _ (chunk block slots : ℕ) (index : IndexState) (disk : List ℕ) (size : disk_size chunk block slots ≤ length disk) (h : ℕ) (found : HeldReplica) (there : map.get index.held h ≡ Some found) (place byte : ℕ) (low : place < chunk) where
  -- the byte is the replica's, rotten
  rot_stored : (d : ServerDisk) → IsDiskOf chunk block slots index disk d → IsDiskOf chunk block slots index (put_at disk (data_place chunk block found.slot + place) (byte ∷ [])) (disk_changed d (Rot (record { 0 = h }) place byte))
  rot_stored d is =
      let its = its_replica chunk block slots index disk d is h found there in
      let r = its.0 in
      let new = put_at disk (data_place chunk block found.slot + place) (byte ∷ []) in
      let before = slot_before chunk block found.slot slots its.2.there in
      let room : slot_place chunk block found.slot + slot_size chunk block ≤ length disk = omega (arith, before, size) in
      let replaced = replica_replaced chunk block slots index disk d is h found there new (rotten_replica r place byte) found.row size
      (rotten_keeps chunk block disk found.slot h r room its.2.holds place byte low) (rotten_holds chunk block disk found.slot h r room its.2.holds place byte low) its.2.row in
      subst (λ (o : Option Replica). IsDiskOf chunk block slots index new (replica_becomes (λ q. rotten_replica q place byte) d h o)) (sym its.1)
      (subst (λ (m : map.FinMap nat_cmp HeldReplica). IsDiskOf chunk block slots (record index { held = m }) new (replica_becomes (λ q. rotten_replica q place byte) d h (Some r))) (insert_same index.held h found there) replaced)

module _ (chunk block slots : ℕ) (index : IndexState) (disk : List ℕ) (size : disk_size chunk block slots ≤ length disk) (closed : is_open (area_of chunk block) disk ≡ false) (h : ℕ) (found : HeldReplica) (there : map.get index.held h ≡ Some found) (place byte : ℕ)
    (low : place < chunk) (ranges : List RedoRange) (are : ranges ≡ rotten_range chunk block found.slot place byte) where
  rested : disk_size chunk block slots ≤ length (stands_for (area_of chunk block) disk)
  rested = rest_size chunk block slots disk size closed

  pub rot_fits : found.slot < slots → FitsArea (area_of chunk block) (length disk) ranges
  rot_fits within =
      let before = slot_before chunk block found.slot slots within in
      let behind = slots_behind chunk block found.slot in
      subst (λ (rs : List RedoRange). FitsArea (area_of chunk block) (length disk) rs) (sym are)
      (one_fits chunk block slots (length disk) size (data_place chunk block found.slot + place) (byte ∷ []) (omega (arith, behind)) (omega (arith, before, size, low)) (omega (arith, low)))

  pub rot_law : (d : ServerDisk) → Says chunk block slots index disk d → IsDiskOf chunk block slots index (applied ranges (stands_for (area_of chunk block) disk)) (disk_changed d (Rot (record { 0 = h }) place byte))
  rot_law d says =
      subst (λ (rs : List RedoRange). IsDiskOf chunk block slots index (applied rs (stands_for (area_of chunk block) disk)) (disk_changed d (Rot (record { 0 = h }) place byte))) (sym are)
      (rot_stored chunk block slots index (stands_for (area_of chunk block) disk) rested h found there place byte low d says)
