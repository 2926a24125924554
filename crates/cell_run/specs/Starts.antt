-- Why a cell was not started, or does not go on.
use Rattle.std.specs.Prelude.{◌≡◌, ◌⊎◌, ℕ, ◌+◌, ◌<◌, is_none, if◌then◌else◌, Option, Some, None}
use Rattle.gfs_types.specs.declared.config.Config.{Config}
use Rattle.gfs_types.specs.Settings.{first_out_of_range}
use Rattle.memory_nodes.specs.Starts.{is_count}
use Rattle.cell_run.specs.Parked.{ParkedState}
use Rattle.running_nodes.specs.ParkedSeats.{count_anew}
use Rattle.cell_run.specs.declared.start_fault.StartFault.{StartFault}
use Rattle.cell_run.specs.declared.start_fault.StartFault.TheVariants as faults

-- what of the settings and the count of servers lets no cell be started: settings are looked at first
abbrev pub bad_start : Config → ℕ → Option StartFault
bad_start config servers = if is_none (first_out_of_range config) then (if is_count servers then None else Some faults.Count) else Some faults.Config

-- no memory, no thread or no steady clock was to be had
abbrev pub IsOfMachine : StartFault → Type 0
IsOfMachine fault = (fault ≡ faults.NoMemory) ⊎ ((fault ≡ faults.Thread) ⊎ (fault ≡ faults.Clock))

-- just that fault where settings or servers are bad, and else one of the machine
abbrev pub IsStartFault : Option StartFault → StartFault → Type 0
IsStartFault (Some bad) fault = fault ≡ bad
IsStartFault None fault = IsOfMachine fault

-- too few numbers are left for the clients that need new ones, or it is a fault of the machine
abbrev pub IsResumeFault : ParkedState → StartFault → Type 0
IsResumeFault p fault = ((fault ≡ faults.Count) × (64 < p.made + count_anew p.seats)) ⊎ IsOfMachine fault
