-- The texts of a master's faults.
use Rattle.std.specs.Prelude.{ℕ, List, codes}
use Rattle.master_waiting.specs.declared.fault.PlanFault.{PlanFault}
use Rattle.master_waiting.specs.declared.fault.PlanFault.TheVariants.{NoMemory, Limit, Damaged}

abbrev pub fault_text : PlanFault → List ℕ
fault_text NoMemory = codes "no memory"
fault_text Limit = codes "counter at its limit"
fault_text Damaged = codes "log is damaged"
