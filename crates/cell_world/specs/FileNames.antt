-- What is shown of a cell beside answers.
use Rattle.std.specs.Prelude.{ℕ, if◌then◌else◌, Option, None, option_and_then}
use Rattle.gfs_types.specs.Paths.{Path}
use Rattle.relaxed_file.specs.Names.{node_at}
use Rattle.protocol.specs.Lookups.{file_of_node}
use Rattle.protocol.specs.Master.{MasterState}

-- the file of a name, while the master is up
abbrev pub file_in : MasterState → Path → Option ℕ
file_in m path = if m.up then option_and_then file_of_node (node_at m.logged.names path) else None
