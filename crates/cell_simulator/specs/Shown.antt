-- What is printed of a chunk of a cell (section 2.7.1).
use Rattle.std.specs.Prelude.{◌≡◌, ℕ, Bool, true, false, IsTrue, ◌&&◌, nat_le, List, Option, option_map, option_and_then}
use Rattle.gfs_types.specs.declared.ids.ClientId.{ClientId}
use Rattle.gfs_types.specs.declared.ids.Handle.{Handle}
use Rattle.gfs_types.specs.declared.ids.Moment.{Moment}
use Rattle.gfs_types.specs.declared.ids.Node.{Node}
use Rattle.gfs_types.specs.declared.ids.Node.TheVariants as node
use Rattle.messages.specs.declared.event.Event.{Event}
use Rattle.messages.specs.declared.event.Event.TheVariants as event
use Rattle.script.specs.Chunks.{regions_line, replicas_line}
use Rattle.script.specs.declared.lines.FileChunk.{FileChunk}
use Rattle.script.specs.declared.cell_lines.ClientCall.{ClientCall}
use Rattle.cell_simulator.specs.Cells.{Meaning}
use Rattle.cell_simulator.specs.Steps.{Simulated, with_feed}
use Rattle.cell_simulator.specs.declared.simulator.Simulator.{Simulator}

-- what is told of a simulator: its cell and its clock
abbrev pub state_of : {C : Type 0} → Simulator C → Simulated C
state_of s = record { cell = s.cell; clock = s.clock.0 }

-- what is printed of a chunk's regions, where a cell has such a file and chunk
abbrev pub regions_shown : {C : Type 0} → Meaning C → C → FileChunk → Option (List ℕ)
regions_shown m cell chunk = option_and_then (λ file. option_map (λ regions. with_feed (regions_line regions)) (m.regions cell file chunk.index)) (m.file cell chunk.path)

-- the same of its replicas
abbrev pub replicas_shown : {C : Type 0} → Meaning C → C → FileChunk → Option (List ℕ)
replicas_shown m cell chunk = option_and_then (λ file. option_map (λ found. with_feed (replicas_line found.0 found.1)) (m.replicas cell file chunk.index)) (m.file cell chunk.path)

-- the handle of a chunk
abbrev pub handle_shown : {C : Type 0} → Meaning C → C → FileChunk → Option Handle
handle_shown m cell chunk = option_and_then (λ file. option_map (λ found. found.0) (m.replicas cell file chunk.index)) (m.file cell chunk.path)

-- there is such a node
abbrev pub has_node : {C : Type 0} → Meaning C → C → Node → Bool
has_node m cell node.Master = true
has_node m cell (node.Server server) = nat_le 1 server.0 && nat_le server.0 (m.servers cell)
has_node m cell (node.Client client) = nat_le 1 client.0 && nat_le client.0 (m.clients cell)

abbrev pub has_client : {C : Type 0} → Meaning C → C → ClientId → Bool
has_client m cell client = has_node m cell (node.Client client)

-- no client's call is open
abbrev pub NoneOpen : {C : Type 0} → Meaning C → C → Type 0
NoneOpen m cell = (client : ClientId) → IsTrue (has_client m cell client) → m.is_open cell client ≡ false

-- a client's call is open
abbrev pub IsWaiting : {C : Type 0} → Meaning C → C → Type 0
IsWaiting m cell = (client : ClientId) × (m.is_open cell client ≡ true)

-- a client's call, at a moment
abbrev pub call_event : ClientCall → Moment → Event
call_event asked now = event.Call asked.client asked.call now
