-- What a snapshot copies.
use Rattle.std.specs.Prelude.{ℕ, List, flat_map}
use Rattle.gfs_types.specs.Paths.{Path}
use Rattle.relaxed_file.specs.Names.{copied_entries}
use Rattle.protocol.specs.Logged.{Logged}
use Rattle.protocol.specs.MasterSnapshots.{node_handles, node_files}
use Rattle.protocol.specs.Tables.{rising}

-- the handles of all files at `from` or below it, in rising number
abbrev pub handles_copied : Logged → Path → Path → List ℕ
handles_copied l from to = rising (flat_map (λ e. node_handles l.table e.1) (copied_entries l.names from to))

-- the files at `from` or below it
abbrev pub files_copied : Logged → Path → Path → List ℕ
files_copied l from to = flat_map (λ e. node_files e.1) (copied_entries l.names from to)
