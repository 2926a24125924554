-- What a fault of the program is printed as.
use Rattle.std.specs.Prelude.{ℕ, List}
use Rattle.command_line.specs.Faults as command
use Rattle.script.specs.ScriptFaults as script
use Rattle.gfscell.specs.declared.ProgramFault.{ProgramFault}
use Rattle.gfscell.specs.declared.ProgramFault.TheVariants.{Command, Script}

abbrev pub fault_text : ProgramFault → List ℕ
fault_text (Command fault) = command.fault_text fault
fault_text (Script fault) = script.fault_text fault
