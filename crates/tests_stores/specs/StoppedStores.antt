-- Disks that stores were opened over.
use Rattle.std.specs.Prelude.{◌≡◌, List}
use Rattle.disk.specs.Failing.{FuseState}
use Rattle.disk.specs.Writes.{LeftBy}
use Rattle.replica_store.specs.declared.change.StoreChange.{StoreChange}
use Rattle.replica_store.specs.Replicas.{ServerDisk}
use Rattle.disk_store.specs.Standing.{LeavesHolding}
use Rattle.store_disk.specs.declared.places.Layout.{Layout}

-- a stop leaves a store of these sizes, with what is under way made or not
pub record HasStore (l : Layout) (f : FuseState) : Type 0 where
  pub disk : ServerDisk
  pub under_way : List StoreChange
  pub chunk_is : disk.chunk ≡ l.chunk
  pub block_is : disk.block ≡ l.block
  pub slots_is : disk.slots ≡ l.slots
  pub leaves : LeavesHolding (LeftBy f.disk) disk under_way
