-- A running cell.
use Rattle.std.specs.Prelude.{◌≡◌, ◌≤◌, ◌<◌, ◌+◌, ℕ, List, [], None, false, replicate}
use Rattle.gfs_types.specs.Settings.{first_out_of_range}
use Rattle.gfs_types.specs.declared.config.Config.{Config}
use Rattle.gfs_types.specs.declared.ids.Node.{Node}
use Rattle.gfs_types.specs.declared.ids.Node.TheVariants.{Client}
use Rattle.protocol_journal.specs.Journal.{Entry, own}
use Rattle.cell_journal.specs.Log.{Listed, listed}
use Rattle.cell_journal.specs.Identity.{Identity}
use Rattle.cell_journal.specs.declared.retention.Retention.{Retention}
use Rattle.cell_journal.specs.WholeHistories.{is_retired}
use Rattle.cell_seats.specs.declared.controls.Controls.{Controls}
use Rattle.cell_seats.specs.declared.controls.ControlWriter.{ControlWriter}
use Rattle.cell_seats.specs.declared.mailboxes.Policy.{Policy}
use Rattle.cell_seats.specs.Controls.{WritesControls, no_policy, restarted}
use Rattle.cell_seats.specs.Seats.{SeatState, seat_state}
use Rattle.cell_run.specs.declared.seat_fault.SeatFault.{SeatFault}
use Rattle.cell_run.specs.declared.seat_fault.SeatFault.TheVariants.{Many, Closed, NoMemory}

-- which cell it is, how many clients were made, the network's policy, and how often each server, by its number, and the master, last, was asked to begin again
pub record CellState : Type 0 where
  pub of : Identity
  pub made : ℕ
  pub policy : Policy
  pub restarts : List ℕ

abbrev pub cell_state : Identity → ℕ → Policy → List ℕ → CellState
cell_state of made policy restarts = record { of = of; made = made; policy = policy; restarts = restarts }

-- it has these settings, each in its range, and so many servers, and may have 64 clients
pub record IsCellOf (config : Config) (servers : ℕ) (cell : Identity) : Type 0 where
  pub in_range : first_out_of_range config ≡ None
  pub config_is : cell.config ≡ config
  pub servers_are : cell.servers ≡ servers
  pub clients_are : cell.clients ≡ 64

-- a new cell, which did nothing before, and of whose journal these entries are to stay
abbrev pub IsNewCell : Config → ℕ → Retention → CellState → Type 0
IsNewCell config servers retention c =
    IsCellOf config servers c.of × (c.of.base ≡ []) × (c.made ≡ 0) × (c.policy ≡ no_policy) × (c.restarts ≡ replicate 66 0) × (c.of.retention ≡ retention)

-- one client more was made
abbrev pub more : CellState → CellState
more c = record c { made = c.made + 1 }

abbrev pub with_policy : CellState → Policy → CellState
with_policy c policy = record c { policy = policy }

-- a node was asked once more to begin again
abbrev pub asked_again : CellState → Node → CellState
asked_again c node = record c { restarts = restarted c.restarts node }

-- the cell's next client, which has seen nothing yet
abbrev pub IsNewSeat : CellState → SeatState → Type 0
IsNewSeat c s = s ≡ seat_state (Client (record { 0 = c.made + 1 })) [] c.of [] false false

-- why there is no client more: all were made, or memory was refused before that; a cell that is there isn't closed
abbrev pub IsSeatFault : CellState → SeatFault → Type 0
IsSeatFault c Many = 64 ≤ c.made
IsSeatFault c Closed = ⊥
IsSeatFault c NoMemory = c.made < 64

-- the base has nothing of this node, and something may be written of it
abbrev pub IsFresh : Identity → Node → Type 0
IsFresh cell n = (own n cell.base ≡ []) × (is_retired cell n ≡ false)

-- the master, the servers and so many clients are registered, the other clients have their mailboxes and did nothing before; what it asks is asked of its own nodes
pub record HasMade (config : Config) (servers registered made boxes : ℕ) (of : Identity) (nothing : Listed Entry) (controls : Controls) (control_writer : ControlWriter) : Type 0 where
  pub least : 64 ≤ config.chunk
  pub next : registered ≡ servers + 1 + made
  pub waiting : boxes + made ≡ 64
  pub nothing_is : nothing ≡ listed of.name []
  pub fresh : (n : ℕ) → made < n → IsFresh of (Client (record { 0 = n }))
  pub asks : WritesControls controls control_writer
