-- The texts of why a master can't be made, or opened.
use Rattle.std.specs.Prelude.{ℕ, List, codes}
use Rattle.master_cell.specs.declared.fault.MasterFault.{MasterFault}
use Rattle.master_cell.specs.declared.fault.MasterFault.TheVariants.{NoMemory, Log}
use Rattle.master_cell.specs.declared.opening_fault.OpeningFault.{OpeningFault}
use Rattle.master_cell.specs.declared.opening_fault.OpeningFault.TheVariants as opening
use Rattle.operation_log.specs.Faults.{fault_text as log_text}

abbrev pub fault_text : MasterFault → List ℕ
fault_text NoMemory = codes "no memory"
fault_text (Log fault) = log_text fault

abbrev pub opening_fault_text : OpeningFault → List ℕ
opening_fault_text (opening.Log fault) = log_text fault
opening_fault_text (opening.Down cause) = codes "master is down"
