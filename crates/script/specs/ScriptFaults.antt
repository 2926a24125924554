-- What a script's fault is where a line has one, and what it is printed as.
use Rattle.std.specs.Prelude.{◌≡◌, ◌⊎◌, ℕ, List, ◌++◌, codes}
use Rattle.std.specs.Fmt.{decimal}
use Rattle.script.specs.declared.fault.LineFault.{LineFault}
use Rattle.script.specs.declared.fault.LineFault.TheVariants as lines
use Rattle.script.specs.declared.script_fault.ScriptFault.{ScriptFault}
use Rattle.script.specs.declared.script_fault.ScriptFault.TheVariants.{Line, NoEnd, Start, NoMemory, Read, Write}

abbrev pub line_fault : LineFault → ℕ → ScriptFault
line_fault lines.Bad number = Line number
line_fault lines.NoMemory number = NoMemory

-- a fault of a reader
abbrev pub IsOfRead : ScriptFault → Type 0
IsOfRead f = (f ≡ NoMemory) ⊎ (f ≡ Read)

-- a fault of a writer
abbrev pub IsOfWrite : ScriptFault → Type 0
IsOfWrite f = (f ≡ NoMemory) ⊎ (f ≡ Write)

-- what a fault is printed as
abbrev pub fault_text : ScriptFault → List ℕ
fault_text (Line number) = codes "line " ++ decimal number ++ codes ": bad line"
fault_text (NoEnd number) = codes "line " ++ decimal number ++ codes ": no end"
fault_text Start = codes "cannot start"
fault_text NoMemory = codes "no memory"
fault_text Read = codes "cannot read"
fault_text Write = codes "cannot write"
