-- The texts of a replay's faults.
use Rattle.std.specs.Prelude.{ℕ, List, codes}
use Rattle.master_state.specs.declared.fault.ReplayFault.{ReplayFault}
use Rattle.master_state.specs.declared.fault.ReplayFault.TheVariants.{NoMemory, Damaged}

abbrev pub fault_text : ReplayFault → List ℕ
fault_text NoMemory = codes "no memory"
fault_text Damaged = codes "log is damaged"
