-- What a fault of a line is printed as.
use Rattle.std.specs.Prelude.{ℕ, List, codes}
use Rattle.script.specs.declared.fault.LineFault.{LineFault}
use Rattle.script.specs.declared.fault.LineFault.TheVariants.{Bad, NoMemory}

abbrev pub fault_text : LineFault → List ℕ
fault_text Bad = codes "bad line"
fault_text NoMemory = codes "no memory"
