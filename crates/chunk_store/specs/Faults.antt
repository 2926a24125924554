-- A disk's fault, as an opening's; and when one is answered.
use Rattle.std.specs.Prelude.{ℕ, ◌<◌, ◌≤◌, Bool, true, Result, Ok, Err, IsErrOf}
use Rattle.disk.specs.declared.device.DiskFault.{DiskFault}
use Rattle.disk.specs.declared.device.DiskFault.TheVariants as disk
use Rattle.store_changes.specs.Faults.{is_refusal}
use Rattle.store_changes.specs.declared.fault.StoreFault.{StoreFault}
use Rattle.chunk_store.specs.declared.fault.OpenFault.{OpenFault}
use Rattle.chunk_store.specs.declared.fault.OpenFault.TheVariants as opening

abbrev pub fault_of : DiskFault → OpenFault
fault_of disk.Device = opening.Device
fault_of disk.NoMemory = opening.NoMemory

-- `Device` is answered only where the disk has failed in this call.
pub record MayFail {T : Type 0} (before now : ℕ) (result : Result T OpenFault) : Type 0 where
  pub later : before ≤ now
  pub failed : IsErrOf result opening.Device → before < now

-- A disk that failed and want of memory close the store; what a call refuses doesn't.
abbrev pub stays_open : {T : Type 0} → Result T StoreFault → Bool
stays_open (Ok value) = true
stays_open (Err fault) = is_refusal fault
