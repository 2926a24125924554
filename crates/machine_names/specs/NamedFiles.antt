-- The names of files in each run by names: one at most for each file, and a hidden one right in the directory of deleted files (sections 4.1 and 4.4).
use Rattle.std.specs.Prelude.{◌≡◌, ℕ, ◌≤◌, ◌<◌, Some, IsTrue, IsFalse}
use Rattle.gfs_types.specs.declared.config.Config.{Config}
use Rattle.gfs_types.specs.Paths.{Path, trash, is_child, hidden_name}
use Rattle.relaxed_file.specs.Names.{File, node_at}
use Rattle.relaxed_file.specs.Machine.{Machine, new_machine}
use Rattle.machine_names.specs.NameRuns.{LeadsByNames}

-- A file that stands under a name was made, and not collected.
abbrev pub NamedFilesAreThere : Type 0
NamedFilesAreThere =
    (config : Config) (m : Machine) → LeadsByNames (new_machine config) m → (path : Path) (file : ℕ) → node_at m.names path ≡ Some (File file)
    → (0 < file) × (file ≤ m.file_count) × IsFalse (m.files file).is_collected

-- It stands under no other name.
abbrev pub FilesHaveOneName : Type 0
FilesHaveOneName =
    (config : Config) (m : Machine) → LeadsByNames (new_machine config) m → (file : ℕ) (one other : Path) → node_at m.names one ≡ Some (File file) → node_at m.names other ≡ Some (File file)
    → one ≡ other

-- A file that stands right in the directory of deleted files has the hidden name of some moment.
abbrev pub HiddenFilesTellAMoment : Type 0
HiddenFilesTellAMoment =
    (config : Config) (m : Machine) → LeadsByNames (new_machine config) m → (path : Path) (file : ℕ) → node_at m.names path ≡ Some (File file) → IsTrue (is_child trash path)
    → (moment : ℕ) × (hidden_name moment file ≡ path)
