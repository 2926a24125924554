-- The exit status of a run that fails.
use Rattle.std.specs.Prelude.{ℕ}
use Rattle.command_line.specs.declared.command.CommandFault.TheVariants.{Bad}
use Rattle.gfscell.specs.declared.ProgramFault.{ProgramFault}
use Rattle.gfscell.specs.declared.ProgramFault.TheVariants.{Command}

-- 2 for a bad command line, and 1 for any other cause
abbrev pub status_of : ProgramFault → ℕ
status_of (Command Bad) = 2
status_of other = 1
