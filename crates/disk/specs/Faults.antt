-- What a fault of a disk is printed as.
use Rattle.std.specs.Prelude.{ℕ, List, codes}
use Rattle.disk.specs.declared.device.DiskFault.{DiskFault}
use Rattle.disk.specs.declared.device.DiskFault.TheVariants.{Device, NoMemory}

abbrev pub fault_text : DiskFault → List ℕ
fault_text Device = codes "disk failed"
fault_text NoMemory = codes "no memory"
