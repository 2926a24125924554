-- New cells that scripts run on.
use Rattle.std.specs.Prelude.{◌≡◌, ◌⊎◌, ℕ, Bool, ◌&&◌, is_none}
use Rattle.gfs_types.specs.Settings.{first_out_of_range}
use Rattle.protocol.specs.World.{WorldState, new_world}
use Rattle.memory_nodes.specs.Starts.{is_count}
use Rattle.cell_world.specs.Held.{HeldCell, IsHeldAs}
use Rattle.script.specs.declared.options.Options.{Options}
use Rattle.script.specs.declared.script_fault.ScriptFault.{ScriptFault}
use Rattle.script.specs.declared.script_fault.ScriptFault.TheVariants.{Start, NoMemory}

-- each setting is in its range, and the counts are
abbrev pub are_in_range : Options → Bool
are_in_range o = is_none (first_out_of_range o.config) && is_count o.servers && is_count o.clients

-- the new world of these options
abbrev pub world_of : Options → WorldState
world_of o = new_world o.config o.servers o.clients

-- a cell that stands for it
abbrev pub IsNew : Options → HeldCell → Type 0
IsNew o cell = IsHeldAs (world_of o) cell

-- a fault of a new cell
abbrev pub IsOfStart : ScriptFault → Type 0
IsOfStart f = (f ≡ NoMemory) ⊎ (f ≡ Start)
