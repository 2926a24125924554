-- Why a name call is refused: its paths and shape first, then locks, then the names (section 4.1).
use Rattle.std.specs.Prelude.{Bool, ◌∷◌, ◌++◌, Option}
use Rattle.gfs_types.specs.declared.call.Call.{Call}
use Rattle.gfs_types.specs.declared.config.Config.{Config}
use Rattle.gfs_types.specs.declared.refusal.Refusal.{Refusal}
use Rattle.gfs_types.specs.declared.refusal.Refusal.TheVariants.{Busy}
use Rattle.relaxed_file.specs.Names.{Names}
use Rattle.relaxed_file.specs.NameStep.{first_refusal, path_tests, name_tests}

-- the refusal of a call, where it is told whether a pending snapshot holds a lock that conflicts
abbrev pub refusal_by : Config → Names → Bool → Call → Option Refusal
refusal_by config names is_busy c = first_refusal (path_tests config c ++ (is_busy, Busy) ∷ name_tests names c)
