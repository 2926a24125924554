-- The replicas on a chunkserver's disk, each in a slot of its own, for chunks of so many bytes in blocks of so many, in so many slots. What a byte was before it rotted stands in no slot; a digest alone is of it.
use Rattle.std.specs.Prelude.{◌≡◌, ℕ, ◌*◌, ◌<◌, ◌≤◌, Bool, true, not, ◌==◌, List, ◌++◌, filter, slice_index, None, Some}
use Rattle.std.specs.FinMap as map
use Rattle.std.specs.List.{range_with_len}
use Rattle.disk.specs.Bytes.{range_at}
use Rattle.replica_store.specs.Replicas.{Replica, ServerDisk, digests_of, filled_to, replica_of, row_of}
use Rattle.replica_store.specs.declared.row.Row.{Row}
use Rattle.store_disk.specs.Index.{IndexState}
use Rattle.store_disk.specs.declared.held.HeldReplica.{HeldReplica}
use Rattle.store_disk.specs.Fields.{header_bytes, header_in, order_in}
use Rattle.store_disk.specs.Formats.{HasOpenHead}
use Rattle.store_disk.specs.declared.header.SlotHeader.{SlotHeader}
use Rattle.store_disk.specs.Places.{blocks_of, data_place, digests_place, slot_place}

-- whether the slot is used
abbrev pub is_used : ℕ → ℕ → List ℕ → ℕ → Bool
is_used chunk block disk slot = slice_index disk (slot_place chunk block slot) == 1

-- a slot with a new replica
abbrev pub slot_bytes : ℕ → ℕ → SlotHeader → List ℕ → List ℕ
slot_bytes chunk block header bytes =
    header_bytes header ++ (digests_of block (blocks_of chunk block) (filled_to chunk bytes) ++ filled_to chunk bytes)

-- the slots that aren't used, the lowest first
abbrev pub free_slots : ℕ → ℕ → ℕ → List ℕ → List ℕ
free_slots chunk block slots disk = filter (λ slot. not (is_used chunk block disk slot)) (range_with_len 0 slots)

-- the slot holds this replica
pub record Holds (chunk block : ℕ) (disk : List ℕ) (slot handle : ℕ) (r : Replica) : Type 0 where
  pub header :
      header_in (range_at disk (slot_place chunk block slot) 40)
      ≡ Some (record { handle = record { 0 = handle }; version = record { 0 = r.version }; serial = record { 0 = r.serial }; count = r.count })
  pub fits : r.count ≤ chunk
  pub digests : range_at disk (digests_place chunk block slot) (32 * blocks_of chunk block) ≡ r.digests
  pub bytes : range_at disk (data_place chunk block slot) chunk ≡ r.bytes

-- what is known of a replica is true
pub record IsKnown (chunk block slots : ℕ) (disk : List ℕ) (handle : ℕ) (r : Replica) (found : HeldReplica) : Type 0 where
  pub there : found.slot < slots
  pub row : row_of (Some r) ≡ Some found.row
  pub holds : Holds chunk block disk found.slot handle r

-- The disk's head is open, its bytes say what a server keeps over a restart, and the index knows where.
pub record IsDiskOf (chunk block slots : ℕ) (index : IndexState) (disk : List ℕ) (d : ServerDisk) : Type 0 where
  pub chunk_is : d.chunk ≡ chunk
  pub block_is : d.block ≡ block
  pub slots_is : d.slots ≡ slots
  pub head : HasOpenHead chunk block slots disk
  pub order_is : order_in (range_at disk 32 16) ≡ record { epoch = d.epoch; count = d.count }
  pub held : (handle : ℕ) (r : Replica) → replica_of d handle ≡ Some r → (found : HeldReplica) × (map.get index.held handle ≡ Some found) × IsKnown chunk block slots disk handle r found
  pub no_other : (handle : ℕ) → replica_of d handle ≡ None → map.get index.held handle ≡ None
  -- no two replicas lie in one slot
  pub apart : (a b : ℕ) (x y : HeldReplica) → map.get index.held a ≡ Some x → map.get index.held b ≡ Some y → x.slot ≡ y.slot → a ≡ b
  -- each slot that is used has its replica
  pub each : (slot : ℕ) → slot < slots → is_used chunk block disk slot ≡ true → (handle : ℕ) × (found : HeldReplica) × (map.get index.held handle ≡ Some found) × (found.slot ≡ slot)
  -- the free slots are those that aren't used, the lowest first
  pub free : index.free ≡ free_slots chunk block slots disk

-- The bytes say so, wherever the replicas lie.
abbrev pub IsStored : ℕ → ℕ → ℕ → List ℕ → ServerDisk → Type 0
IsStored chunk block slots disk d = (index : IndexState) × IsDiskOf chunk block slots index disk d

-- what is written for a new version

abbrev pub raised_row : ℕ → Row → Row
raised_row version row = record { version = record { 0 = version }; serial = record { 0 = 0 }; count = row.count }

abbrev pub header_of : ℕ → Row → SlotHeader
header_of handle row = record { handle = record { 0 = handle }; version = row.version; serial = row.serial; count = row.count }
