-- A cell that is parked.
use Rattle.std.specs.Prelude.{◌≡◌, ℕ, ◌≤◌, ◌<◌, ◌+◌, true, false, List, [], map, length, replicate, All, IsTrue}
use Rattle.gfs_types.specs.declared.config.Config.{Config}
use Rattle.gfs_types.specs.declared.ids.Node.TheVariants.{Client}
use Rattle.protocol_journal.specs.Journal.{Entry, own, sent_after}
use Rattle.cell_journal.specs.Clocks.{are_clocks_kept}
use Rattle.cell_journal.specs.Identity.{Identity, Closed}
use Rattle.cell_journal.specs.Log.{Listed, listed}
use Rattle.cell_journal.specs.WholeHistories.{whole_of}
use Rattle.cell_seats.specs.ParkedNodes.{ParkedNodeState}
use Rattle.cell_seats.specs.Controls.{no_policy}
use Rattle.cell_seats.specs.Seats.{SeatState}
use Rattle.cell_nodes.specs.Nodes.{AreNodesOf}
use Rattle.cell_run.specs.Cells.{CellState}
use Rattle.running_nodes.specs.ParkedSeats.{ParkedSeatState, count_anew}
use Rattle.running_nodes.specs.Seatings.{IsSeatOf, AllGoOver}
use Rattle.cell_run.specs.declared.park_fault.ParkFault.{ParkFault}
use Rattle.cell_run.specs.declared.park_fault.ParkFault.TheVariants.{Clock, NoMemory}

-- its journal, how many clients were made, and the seats that were handed in
pub record ParkedState : Type 0 where
  pub journal : Closed
  pub made : ℕ
  pub seats : List ParkedSeatState

abbrev pub parked_state : Closed → ℕ → List ParkedSeatState → ParkedState
parked_state journal made seats = record { journal = journal; made = made; seats = seats }

-- the cell was parked with these seats: nothing is added to its journal any more, but its history may go on
pub record IsParked (cell : Identity) (made : ℕ) (seats : List SeatState) (p : ParkedState) : Type 0 where
  pub cell_is : p.journal.cell ≡ cell
  pub parked : p.journal.is_over ≡ false
  pub made_is : p.made ≡ made
  pub seats_are : map (λ s. s.seat) p.seats ≡ seats

-- the cell was closed, the seats are those that were handed in, and clocks were not kept in it
abbrev pub IsClosedSo : Identity → List SeatState → Closed → List SeatState → Type 0
IsClosedSo cell seats journal back = (journal.cell ≡ cell) × (journal.is_over ≡ true) × (back ≡ seats) × (are_clocks_kept journal.cell (whole_of journal) ≡ false)

-- why a cell was not parked: where clocks were not kept it was closed, and where memory was refused it runs on
abbrev pub IsNotParked : CellState → List SeatState → ParkFault → Type 0
IsNotParked c seats (Clock journal back) = IsClosedSo c.of seats journal.now back.items
IsNotParked c seats (NoMemory cell back) = (cell ≡ c) × (back.items ≡ seats)

-- the parts of a parked cell beside its list: each of its nodes saw the whole history, in which clocks were kept, and so did the clients; no client was written of that was not made
pub record ArePartsOf (journal : Closed) (config : Config) (nothing : Listed Entry) (sent : ℕ) (nodes : List ParkedNodeState) (seats : List ParkedSeatState) (servers made : ℕ) : Type 0 where
  pub parked : journal.is_over ≡ false
  pub config_is : journal.cell.config ≡ config
  pub least : 64 ≤ config.chunk
  pub servers_are : journal.cell.servers ≡ servers
  pub clients_are : journal.cell.clients ≡ 64
  pub kept : IsTrue (are_clocks_kept journal.cell (whole_of journal))
  pub nothing_is : nothing ≡ listed journal.cell.name []
  pub sent_is : sent ≡ length (sent_after [] (whole_of journal))
  pub nodes_are : AreNodesOf journal.cell servers (length (whole_of journal)) nodes
  pub seats_are : All (IsSeatOf journal.cell (length (whole_of journal))) seats
  pub made_few : made ≤ 64
  pub fresh : (n : ℕ) → made < n → own (Client (record { 0 = n })) (whole_of journal) ≡ []

-- the cell goes on behind all that it did, and each seat goes over
pub record IsResumed (p : ParkedState) (c : CellState) (seats : List SeatState) : Type 0 where
  pub name : c.of.name ≡ p.journal.cell.name
  pub config_is : c.of.config ≡ p.journal.cell.config
  pub servers_are : c.of.servers ≡ p.journal.cell.servers
  pub clients_are : c.of.clients ≡ p.journal.cell.clients
  pub retention : c.of.retention ≡ p.journal.cell.retention
  pub base : c.of.base ≡ whole_of p.journal
  pub made : c.made ≡ p.made + count_anew p.seats
  pub policy : c.policy ≡ no_policy
  pub restarts : c.restarts ≡ replicate 66 0
  pub go_over : AllGoOver c.of p.seats seats
