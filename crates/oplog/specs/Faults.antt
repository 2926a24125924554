-- The faults of a disk and of its bytes, as the log's, and what a fault leaves.
use Rattle.std.specs.Prelude.{Bool, true, false, Result, Ok, Err}
use Rattle.disk.specs.declared.device.DiskFault.{DiskFault}
use Rattle.disk.specs.declared.device.DiskFault.TheVariants as disk
use Rattle.log_codec.specs.declared.fault.DecodeFault.{DecodeFault}
use Rattle.log_codec.specs.declared.fault.DecodeFault.TheVariants as bytes
use Rattle.oplog.specs.declared.fault.LogFault.{LogFault}
use Rattle.oplog.specs.declared.fault.LogFault.TheVariants as log

abbrev pub fault_of : DiskFault → LogFault
fault_of disk.Device = log.Device
fault_of disk.NoMemory = log.NoMemory

abbrev pub fault_of_bytes : DecodeFault → LogFault
fault_of_bytes bytes.Damaged = log.Damaged
fault_of_bytes bytes.NoMemory = log.NoMemory

-- a failed disk closes the log; no other fault does
abbrev pub leaves_open : LogFault → Bool
leaves_open log.Full = true
leaves_open log.Damaged = true
leaves_open log.Device = false
leaves_open log.NoMemory = true

abbrev pub stays_open : {T : Type 0} → Result T LogFault → Bool
stays_open (Ok value) = true
stays_open (Err fault) = leaves_open fault
