-- What a store's disk says: just what its bytes stand for, where the store knows that its replicas lie.
use Rattle.std.specs.Prelude.{ℕ, ◌*◌, List, map as mapped}
use Rattle.std.specs.FinMap as map
use Rattle.disk.specs.Bytes.{range_at}
use Rattle.disk_redo.specs.Redo.{stands_for}
use Rattle.gfs_types.specs.declared.ids.OrderNo.{OrderNo}
use Rattle.replica_store.specs.Replicas.{Replica, ServerDisk}
use Rattle.store_changes.specs.Areas.{area_of}
use Rattle.store_disk.specs.Index.{IndexState}
use Rattle.store_disk.specs.Places.{blocks_of, data_place, digests_place}
use Rattle.store_disk.specs.declared.held.HeldReplica.{HeldReplica}
use Rattle.store_disk.specs.declared.places.Layout.{Layout}
use Rattle.chunk_store.specs.Stores.{StoreState}

-- the replica that lies in a slot
abbrev pub replica_in : Layout → List ℕ → HeldReplica → Replica
replica_in l bytes found =
    record {
      version = found.row.version.0;
      serial = found.row.serial.0;
      count = found.row.count;
      bytes = range_at bytes (data_place l.chunk l.block found.slot) l.chunk;
      digests = range_at bytes (digests_place l.chunk l.block found.slot) (32 * blocks_of l.chunk l.block);
    }

abbrev pub entry_in : Layout → List ℕ → ℕ × HeldReplica → ℕ × Replica
entry_in l bytes e = (e.0, replica_in l bytes e.1)

abbrev pub disk_in : Layout → OrderNo → IndexState → List ℕ → ServerDisk
disk_in l order index bytes =
    record {
      chunk = l.chunk;
      block = l.block;
      slots = l.slots;
      epoch = order.epoch;
      count = order.count;
      replicas = map.from_entries (mapped (entry_in l bytes) (map.entries index.held));
    }

-- of a store at rest
abbrev pub disk_of : {D : Type 0} → (D → List ℕ) → StoreState D → ServerDisk
disk_of seen store = disk_in store.layout store.order store.index (stands_for (area_of store.layout.chunk store.layout.block) (seen store.disk))
