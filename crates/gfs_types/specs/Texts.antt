-- What faults and refusals are printed as.
use Rattle.std.specs.Prelude.{ℕ, List, ◌++◌, codes}
use Rattle.std.specs.Fmt.{decimal}
use Rattle.gfs_types.specs.declared.config.ConfigFault.{ConfigFault}
use Rattle.gfs_types.specs.declared.path.PathFault.{PathFault}
use Rattle.gfs_types.specs.declared.path.PathFault.TheVariants.{BadPath, NoMemory}
use Rattle.gfs_types.specs.declared.refusal.Refusal.{Refusal}
use Rattle.gfs_types.specs.Refusals.{number_of, name_of}
use Rattle.gfs_types.specs.Settings.{name_of_setting}

abbrev pub path_fault_text : PathFault → List ℕ
path_fault_text BadPath = codes "bad path"
path_fault_text NoMemory = codes "no memory"

abbrev pub setting_fault_text : ConfigFault → List ℕ
setting_fault_text fault = name_of_setting fault ++ codes " is out of its range"

-- the number and the name, as `3 Exists`
abbrev pub refusal_text : Refusal → List ℕ
refusal_text refusal = decimal (number_of refusal) ++ codes " " ++ name_of refusal
