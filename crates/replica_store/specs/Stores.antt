-- What a server asks of the store of its replicas, in the words of its disk.
use Rattle.std.specs.Prelude.{◌≡◌, ◌⊎◌, ℕ, ◌<◌, ◌≤◌, Bool, true, List, take, drop, map, Result, IsErrOf}
use Rattle.std.specs.FinMap.{entries}
use Rattle.messages.specs.declared.message.ReplicaLine.{ReplicaLine}
use Rattle.replica_store.specs.declared.change.StoreChange.{StoreChange}
use Rattle.replica_store.specs.declared.change.StoreChange.TheVariants.{SetOrder, Put, Write, Zero, Raise, Copy, Remove, Rot}
use Rattle.replica_store.specs.Replicas.{Replica, ServerDisk, disk_changed_by_all, is_copyable_at}
use Rattle.replica_store.specs.declared.fault.ReplicaStoreFault.{ReplicaStoreFault}
use Rattle.replica_store.specs.declared.fault.ReplicaStoreFault.TheVariants.{DiskFailed, Damaged}

-- a disk after a stop: the change under way was made, or it was not
abbrev pub IsFound : ServerDisk → List StoreChange → ServerDisk → Type 0
IsFound old under_way new = (new ≡ old) ⊎ (new ≡ disk_changed_by_all old under_way)

-- some of the changes were made, from the first on, and the next one is under way
pub record MadePart (old : ServerDisk) (changes : List StoreChange) (new : ServerDisk) (under_way : List StoreChange) : Type 0 where
  pub made : ℕ
  pub disk_is : new ≡ disk_changed_by_all old (take made changes)
  pub next_is : under_way ≡ take 1 (drop made changes)

abbrev pub line_of : ℕ × Replica → ReplicaLine
line_of e = record { handle = record { 0 = e.0 }; version = record { 0 = e.1.version } }

-- the replicas with their versions, in rising handle
abbrev pub replica_lines : ServerDisk → List ReplicaLine
replica_lines d = map line_of (entries d.replicas)

-- No store answers `Damaged`, and an open one `DiskFailed` only where its disk has failed in this call.
pub record HasCause {T : Type 0} (is_open : Bool) (before now : ℕ) (result : Result T ReplicaStoreFault) : Type 0 where
  pub later : before ≤ now
  pub failed : is_open ≡ true → IsErrOf result DiskFailed → before < now
  pub undamaged : IsErrOf result Damaged → ⊥

-- A copy's bytes match their digests; a server looks before it copies.
abbrev pub IsCopyable : ServerDisk → StoreChange → Type 0
IsCopyable d (SetOrder order) = Unit {0}
IsCopyable d (Put handle version serial bytes) = Unit {0}
IsCopyable d (Write handle serial offset bytes) = Unit {0}
IsCopyable d (Zero handle serial offset count) = Unit {0}
IsCopyable d (Raise handle version) = Unit {0}
IsCopyable d (Copy handle copy version) = is_copyable_at d handle.0 ≡ true
IsCopyable d (Remove handle) = Unit {0}
IsCopyable d (Rot handle place byte) = Unit {0}
