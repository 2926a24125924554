-- A disk's fault, as the store's; and when one is answered.
use Rattle.std.specs.Prelude.{◌≡◌, ℕ, ◌<◌, ◌≤◌, Bool, true, false, Result, IsErrAnd, IsErrOf}
use Rattle.disk.specs.declared.device.DiskFault.{DiskFault}
use Rattle.disk.specs.declared.device.DiskFault.TheVariants as disk
use Rattle.store_changes.specs.declared.fault.StoreFault.{StoreFault}
use Rattle.store_changes.specs.declared.fault.StoreFault.TheVariants as store

abbrev pub fault_of : DiskFault → StoreFault
fault_of disk.Device = store.Device
fault_of disk.NoMemory = store.NoMemory

-- `Device` is answered only where the disk has failed in this call.
pub record MayFail {T : Type 0} (before now : ℕ) (result : Result T StoreFault) : Type 0 where
  pub later : before ≤ now
  pub failed : IsErrOf result store.Device → before < now

-- what a call refuses, and neither a disk that failed nor want of memory
abbrev pub is_refusal : StoreFault → Bool
is_refusal store.NoChunk = true
is_refusal store.Version = true
is_refusal store.OldSerial = true
is_refusal store.Corrupt = true
is_refusal store.NoRoom = true
is_refusal store.Device = false
is_refusal store.NoMemory = false

abbrev pub IsRefused : {T : Type 0} → Result T StoreFault → Type 0
IsRefused result = IsErrAnd result (λ fault. is_refusal fault ≡ true)
