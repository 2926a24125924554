-- What a fault of a lock table is printed as.
use Rattle.std.specs.Prelude.{ℕ, List, codes}
use Rattle.name_locks.specs.declared.table.TakeFault.{TakeFault}
use Rattle.name_locks.specs.declared.table.TakeFault.TheVariants.{Conflict, NoMemory}

abbrev pub fault_text : TakeFault → List ℕ
fault_text Conflict = codes "conflict"
fault_text NoMemory = codes "no memory"
