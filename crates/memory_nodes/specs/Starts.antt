-- New cells.
use Rattle.std.specs.Prelude.{◌≡◌, ◌⊎◌, ℕ, Bool, ◌&&◌, is_none, codes, if◌then◌else◌, List, Option, Some, None}
use Rattle.gfs_types.specs.declared.config.Config.{Config}
use Rattle.gfs_types.specs.Settings.{is_within, first_out_of_range}
use Rattle.memory_nodes.specs.declared.start_fault.StartFault.{StartFault}
use Rattle.memory_nodes.specs.declared.start_fault.StartFault.TheVariants as faults

abbrev pub fault_text : StartFault → List ℕ
fault_text faults.Config = codes "a setting is out of its range"
fault_text faults.Count = codes "not 1 to 64 servers and clients"
fault_text faults.NamesFull = codes "no room for names"
fault_text faults.NoMemory = codes "no memory"

-- a count of servers, or of clients, that a cell may have
abbrev pub is_count : ℕ → Bool
is_count count = is_within 1 64 count

-- what of the settings and counts lets no cell be made: settings are looked at first
abbrev pub bad_start : Config → ℕ → ℕ → Option StartFault
bad_start config servers clients =
    if is_none (first_out_of_range config) then (if is_count servers && is_count clients then None else Some faults.Count) else Some faults.Config

-- a fault where settings and counts are good
abbrev pub IsOfMemory : StartFault → Type 0
IsOfMemory fault = (fault ≡ faults.NamesFull) ⊎ (fault ≡ faults.NoMemory)

-- just that fault where settings or counts are bad, and else one of memory
abbrev pub IsStartFault : Option StartFault → StartFault → Type 0
IsStartFault (Some bad) fault = fault ≡ bad
IsStartFault None fault = IsOfMemory fault
