-- The texts of a run's faults.
use Rattle.std.specs.Prelude.{ℕ, List, codes}
use Rattle.cell_world.specs.declared.fault.RunFault.{RunFault}
use Rattle.cell_world.specs.declared.fault.RunFault.TheVariants.{NoMemory}

abbrev pub fault_text : RunFault → List ℕ
fault_text NoMemory = codes "no memory"
