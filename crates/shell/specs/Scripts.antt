-- What running a script on a new cell comes to.
use Rattle.std.specs.Prelude.{⊤, ℕ, List, Option}
use Rattle.std.specs.Io.KnownBytes.{Keeps}
use Rattle.messages.specs.declared.message.Message.{Message}
use Rattle.script.specs.declared.options.Options.{Options}
use Rattle.script.specs.declared.script_fault.ScriptFault.{ScriptFault}
use Rattle.script.specs.declared.script_fault.ScriptFault.TheVariants as fault
use Rattle.protocol.specs.World.{WorldState}
use Rattle.cell_world.specs.Held.{HeldCell}
use Rattle.cell_simulator.specs.Cells.{Meaning}
use Rattle.cell_simulator.specs.Steps.{Simulated}
use Rattle.cell_simulator.specs.Scripts.{RunsScript, StopsWith}
use Rattle.shell.specs.Cells.{IsNew, world_of}
use Rattle.shell.specs.Explained.{AreExplained, AreExplainedUntil}

-- a cell as its clock begins
abbrev pub at_0 : {C : Type 0} → C → Simulated C
at_0 cell = record { cell = cell; clock = 0 }

-- A script that ran to its end on a new cell: its lines are all in the language, and just what they print was printed. Where disks were kept, a run of the machine explains them, from the new world to the last one.
pub record RunsOnNew {C : Type 0} (m : Meaning C) (held : C → HeldCell) (o : Options) (script before after : Option (List ℕ)) : Type 0 where
  pub first : C
  pub is_new : IsNew o (held first)
  pub last : Simulated C
  pub runs : RunsScript m (at_0 first) last before after script
  pub world : WorldState
  pub dropped : List Message
  pub explained : AreExplained held (world_of o) runs.runs world dropped

-- A script that stopped at this fault on a new cell. Where disks were kept, a run of the machine explains what is known to have run.
pub record StopsOnNew {C : Type 0} (m : Meaning C) (held : C → HeldCell) (o : Options) (script before after : Option (List ℕ)) (f : ScriptFault) : Type 0 where
  pub first : C
  pub is_new : IsNew o (held first)
  pub stops : StopsWith m (at_0 first) script before after f
  pub explained : AreExplainedUntil m held (world_of o) (at_0 first) script before after f stops

-- What is known of a script that stopped at this fault. Where there is no cell, nothing was read or printed.
abbrev pub Stops : {C : Type 0} → Meaning C → (C → HeldCell) → Options → Option (List ℕ) → Option (List ℕ) → Option (List ℕ) → Option (List ℕ) → ScriptFault → Type 0
Stops m held o script left before after fault.Start = Keeps script left × Keeps before after
Stops m held o script left before after fault.NoMemory = ⊤
Stops m held o script left before after other = StopsOnNew m held o script before after other
