-- A parked cell that goes on.
use Rattle.std.specs.Prelude.{◌≡◌, ℕ, ◌≤◌, ◌+◌, Bool, false, List, [], length, get_or, vec_len, vec_capacity, replicate}
use Rattle.std.specs.Arc.{arc_value}
use Rattle.gfs_types.specs.declared.config.Config.{Config}
use Rattle.cell_journal.specs.Identity.{Identity, Closed, identity}
use Rattle.cell_journal.specs.WholeHistories.{whole_of}
use Rattle.cell_seats.specs.declared.node_registry.NodeRegistry.{NodeRegistry}
use Rattle.cell_seats.specs.Controls.{WritesControls, policy_in, no_policy}
use Rattle.cell_run.specs.declared.resume_room.ClientRoom.{ClientRoom}
use Rattle.cell_run.specs.declared.resume_room.ResumeRoom.{ResumeRoom}
use Rattle.cell_nodes.specs.Nodes.{names_of}
use Rattle.cell_run.specs.Parked.{ParkedState}
use Rattle.running_nodes.specs.ParkedSeats.{count_anew}
use Rattle.running_nodes.specs.Places.{AreNewClients}

-- the cell that goes on behind a parked one's history, with these clients of which nothing more is written
abbrev pub behind_of : Closed → List Bool → Identity
behind_of journal retired = identity journal.cell.name journal.cell.config journal.cell.servers journal.cell.clients (whole_of journal) retired journal.cell.retention

-- what clients of numbers after so many and the seats need
pub record IsRoomFor (config : Config) (made seats : ℕ) (room : ClientRoom) : Type 0 where
  pub boxes : vec_len room.inboxes ≡ 64
  pub clients : AreNewClients config made room.anew.items
  pub places : (room.places.items ≡ []) × (64 ≤ vec_capacity room.places)
  pub seats_fit : (room.seats.items ≡ []) × (seats ≤ vec_capacity room.seats)

-- all that is made before any part of the parked cell is taken, beside the threads
pub record HasRoom (cell : Identity) (p : ParkedState) (room : ResumeRoom) : Type 0 where
  pub locks : room.locks ≡ names_of cell p.journal.cell.servers
  pub clients : IsRoomFor p.journal.cell.config p.made (length p.seats) room.clients
  pub clients_count : length room.clients.anew.items ≡ count_anew p.seats
  pub base : (room.base.items ≡ []) × (1 ≤ vec_capacity room.base)
  pub policy : policy_in room.control_writer.policy.me.0 ≡ no_policy
  pub restarts : room.control_writer.restarts.me.0 ≡ replicate 66 0

-- a registry of no nodes yet, of a cell that goes on behind a parked one, and all that it needs to go on; no client of a new number is one of which nothing more is written
pub record StandsBehind (p : ParkedState) (registry : NodeRegistry) (room : ResumeRoom) (retired : List Bool) : Type 0 where
  pub first : registry.registered ≡ 0
  pub cell_is : registry.cell ≡ behind_of p.journal retired
  pub config_is : registry.config ≡ p.journal.cell.config
  pub servers_are : registry.servers ≡ p.journal.cell.servers
  pub few : p.made + count_anew p.seats ≤ 64
  pub alive : (k : ℕ) → p.made ≤ k → get_or retired k false ≡ false
  pub room_is : HasRoom registry.cell p room
  pub asks : WritesControls (arc_value registry.shared).controls room.control_writer
