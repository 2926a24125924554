-- What is shown of a cell beside answers, by what it holds.
use Rattle.std.specs.Prelude.{ℕ, min, Bool, false, ◌&&◌, is_some, List, length, Option, Some, None, option_map, option_and_then}
use Rattle.std.specs.List.{filter_map}
use Rattle.std.specs.FinMap as table
use Rattle.gfs_types.specs.Paths.{Path}
use Rattle.gfs_types.specs.declared.ids.FileId.{FileId}
use Rattle.relaxed_file.specs.Regions.{regions_of}
use Rattle.relaxed_file.specs.declared.region.Region.{Region}
use Rattle.cell_world.specs.Seeing.{entries_seen}
use Rattle.protocol.specs.Client.{ClientState}
use Rattle.protocol.specs.ClientStep.{may_step}
use Rattle.protocol.specs.Lookups.{StoredAt, stored_on}
use Rattle.protocol.specs.Sending.{file_id}
use Rattle.protocol.specs.Tables.{element_at}
use Rattle.protocol.specs.World.{numbered_from_1}
use Rattle.cell_world.specs.FileNames.{file_in}
use Rattle.cell_world.specs.Held.{HeldCell}

-- the file of a name, while the master is up
abbrev pub file_held : HeldCell → Path → Option FileId
file_held h path = option_map file_id (file_in h.master path)

-- the handle of a file's chunk
abbrev pub handle_held : HeldCell → ℕ → ℕ → Option ℕ
handle_held h file index = option_and_then (λ handles. element_at handles index) (table.get h.files file)

-- the regions of a file's chunk, by all that was seen
abbrev pub regions_held : HeldCell → ℕ → ℕ → Option (List Region)
regions_held h file index = option_map (λ handle. regions_of (entries_seen h.seen handle)) (handle_held h file index)

-- its handle, and its replicas on servers that are up, by rising server
abbrev pub replicas_held : HeldCell → ℕ → ℕ → Option (ℕ × List StoredAt)
replicas_held h file index = option_map (λ handle. (handle, filter_map (stored_on handle) h.servers)) (handle_held h file index)

-- a client has an open call, and takes the steps at which it may be answered
abbrev pub waits : ClientState → Bool
waits s = may_step s && is_some s.current

abbrev pub waits_at : Option ClientState → Bool
waits_at None = false
waits_at (Some s) = waits s

-- the call of the client of this number waits for its answer
abbrev pub has_open_call : HeldCell → ℕ → Bool
has_open_call h client = waits_at (numbered_from_1 h.clients client)

-- how many servers there are, up to the greatest number that one has
abbrev pub server_count : HeldCell → ℕ
server_count h = min (length h.servers) 65535
