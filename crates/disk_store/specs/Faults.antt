-- Faults of the disk, of the store on it and of its opening, as the servers' store has them; and when one is answered.
use Rattle.std.specs.Prelude.{◌≡◌, ℕ, ◌<◌, ◌≤◌, true, Result, IfErr, IsErrOf}
use Rattle.disk.specs.declared.device.DiskFault.{DiskFault}
use Rattle.disk.specs.declared.device.DiskFault.TheVariants as disk
use Rattle.replica_store.specs.declared.fault.ReplicaStoreFault.{ReplicaStoreFault}
use Rattle.replica_store.specs.declared.fault.ReplicaStoreFault.TheVariants as store
use Rattle.store_changes.specs.declared.fault.StoreFault.{StoreFault as ChangeFault}
use Rattle.store_changes.specs.declared.fault.StoreFault.TheVariants as change
use Rattle.chunk_store.specs.declared.fault.OpenFault.{OpenFault}
use Rattle.chunk_store.specs.declared.fault.OpenFault.TheVariants as opening
use Rattle.replica_store.specs.declared.change.StoreChange.{StoreChange}
use Rattle.disk_store.specs.Standing.{writes}

abbrev pub of_disk : DiskFault → ReplicaStoreFault
of_disk disk.Device = store.DiskFailed
of_disk disk.NoMemory = store.NoMemory

abbrev pub of_opening : OpenFault → ReplicaStoreFault
of_opening opening.Damaged = store.Damaged
of_opening opening.Device = store.DiskFailed
of_opening opening.NoMemory = store.NoMemory

abbrev pub of_change : ChangeFault → ReplicaStoreFault
of_change change.NoChunk = store.DiskFailed
of_change change.Version = store.DiskFailed
of_change change.OldSerial = store.DiskFailed
of_change change.Corrupt = store.DiskFailed
of_change change.NoRoom = store.NoRoom
of_change change.Device = store.DiskFailed
of_change change.NoMemory = store.NoMemory

-- `DiskFailed` is answered only where the disk has failed in this call, and `Damaged` never.
pub record HasCause {T : Type 0} (before now : ℕ) (result : Result T ReplicaStoreFault) : Type 0 where
  pub later : before ≤ now
  pub failed : IsErrOf result store.DiskFailed → before < now
  pub undamaged : IsErrOf result store.Damaged → ⊥

-- likewise where the change began, and the error comes with how the store stands
pub record HasCauseOf {T U : Type 0} (Began : Type 0) (before now : ℕ) (result : Result T (ReplicaStoreFault × U)) : Type 0 where
  pub later : before ≤ now
  pub failed : Began → IfErr result (λ e. e.0 ≡ store.DiskFailed → before < now)
  pub undamaged : IfErr result (λ e. e.0 ≡ store.Damaged → ⊥)

-- Neither a replica that lacks or has another version, nor an old serial; and a block that doesn't match is met by what writes over a range alone.
pub record IsFitting {T : Type 0} (x : StoreChange) (result : Result T ChangeFault) : Type 0 where
  pub chunk : IsErrOf result change.NoChunk → ⊥
  pub version : IsErrOf result change.Version → ⊥
  pub serial : IsErrOf result change.OldSerial → ⊥
  pub intact : IsErrOf result change.Corrupt → writes x ≡ true
