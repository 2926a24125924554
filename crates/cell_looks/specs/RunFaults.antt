-- Faults of a run.
use Rattle.std.specs.Prelude.{◌≡◌, ◌⊎◌}
use Rattle.script.specs.declared.script_fault.ScriptFault.{ScriptFault}
use Rattle.script.specs.declared.script_fault.ScriptFault.TheVariants.{Start, NoMemory}

-- there is no such cell, or no memory
abbrev pub IsOfRun : ScriptFault → Type 0
IsOfRun f = (f ≡ NoMemory) ⊎ (f ≡ Start)
