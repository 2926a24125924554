-- What a fault of a command line is printed as.
use Rattle.std.specs.Prelude.{ℕ, List, codes}
use Rattle.command_line.specs.declared.command.CommandFault.{CommandFault}
use Rattle.command_line.specs.declared.command.CommandFault.TheVariants.{Bad, NoMemory}

abbrev pub fault_text : CommandFault → List ℕ
fault_text Bad = codes "bad command line"
fault_text NoMemory = codes "no memory"
