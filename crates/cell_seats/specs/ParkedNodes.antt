-- Nodes that were taken out of a cell whose threads have ended.
use Rattle.std.specs.Prelude.{◌≡◌, ℕ, false, List, [], length, Some, None, true, All, IsTrue}
use mathlib.Core.List.{IsPrefix}
use Rattle.logbook.specs.Pages.{Book}
use Rattle.gfs_types.specs.Settings.{first_out_of_range}
use Rattle.gfs_types.specs.declared.ids.Node.{Node}
use Rattle.protocol.specs.World.{new_world}
use Rattle.protocol_journal.specs.Journal.{Entry, NodeState, node_in, own, LeadsTo}
use Rattle.cell_journal.specs.Log.{Listed}
use Rattle.cell_journal.specs.Clocks.{are_clocks_kept}
use Rattle.cell_journal.specs.Identity.{Identity}
use Rattle.cell_journal.specs.declared.view.View.{View}
use Rattle.cell_journal.specs.WholeHistories.{all_seen, all_steps, IsHistoryOf}
use Rattle.cell_seats.specs.NodeLocks.{NodeName, node_name}
use Rattle.cell_seats.specs.Seats.{SeatState, IsLeft, IsGone}
use Rattle.cell_seats.specs.Seen.{visible_of, answered_only}

-- a node of a cell, and the cell's whole history up to where the node stands
pub record ParkedNodeState : Type 0 where
  pub cell : Identity
  pub node : Node
  pub history : Listed Entry

abbrev pub parked_node : Identity → Node → Listed Entry → ParkedNodeState
parked_node cell node history = record { cell = cell; node = node; history = history }

abbrev pub name_of : ParkedNodeState → NodeName
name_of p = node_name p.cell p.node

-- all steps that a history has of a node led to a state for which it stands
pub record IsLedBy (cell : Identity) (n : Node) (history : List Entry) (Stands : NodeState → Type 0) : Type 0 where
  pub state : NodeState
  pub leads : LeadsTo (node_in (new_world cell.config cell.servers cell.clients) n) (own n history) (Some state)
  pub stands : Stands state

-- the history under the cell's name, with so many entries
abbrev pub HasSeenAll : Identity → ℕ → ParkedNodeState → Type 0
HasSeenAll cell count p = (p.history.name ≡ cell.name) × (length p.history.items ≡ count)

-- A seat's client, which was taken out of it: what the seat saw begins the history, which has no step more of the client unless the seat was lost. Where clocks were kept that one did no more but a call that waits.
pub record IsClientOf (s : SeatState) (p : ParkedNodeState) : Type 0 where
  pub cell_is : p.cell ≡ s.cell
  pub node_is : p.node ≡ s.node
  pub name_is : p.history.name ≡ s.cell.name
  pub begins : IsPrefix s.seen p.history.items
  pub own_is : s.is_lost ≡ false → own s.node s.seen ≡ own s.node p.history.items
  pub left : s.is_lost ≡ true → IsTrue (are_clocks_kept p.cell p.history.items) → IsLeft (own s.node s.seen) (own s.node p.history.items) s.waits
  pub told : answered_only (visible_of (own s.node s.seen)) ≡ visible_of (own s.node s.seen)
  pub gone : All (λ m. answered_only (visible_of (own m s.seen)) ≡ answered_only (visible_of (own m p.history.items))) s.earlier

-- a writer that wrote nothing yet, of a cell that goes on behind all that a node's history has
pub record IsBehind (v : View) (p : ParkedNodeState) : Type 0 where
  pub mine : v.mine ≡ []
  pub base : v.of.base ≡ p.history.items
  pub config_is : v.of.config ≡ p.cell.config
  pub servers_are : v.of.servers ≡ p.cell.servers
  pub clients_are : v.of.clients ≡ p.cell.clients

-- a cell of this name, with settings in their ranges, goes on behind a lawful history in which clocks were kept
pub record GoesOnBehind (name : Book) (cell : Identity) : Type 0 where
  pub name_is : cell.name ≡ name
  pub lawful : IsHistoryOf cell cell.base
  pub clocks : IsTrue (are_clocks_kept cell cell.base)
  pub in_range : first_out_of_range cell.config ≡ None

-- a node saw all behind which this cell goes on, in a cell of the same settings, servers and clients
pub record IsBehindAll (cell : Identity) (p : ParkedNodeState) : Type 0 where
  pub base : p.history.items ≡ cell.base
  pub config_is : p.cell.config ≡ cell.config
  pub servers_are : p.cell.servers ≡ cell.servers
  pub clients_are : p.cell.clients ≡ cell.clients

-- a node of a cell of the same name, settings, servers and clients, which saw as many entries as there are behind this cell
pub record HasSeenBase (cell : Identity) (p : ParkedNodeState) : Type 0 where
  pub name_is : p.history.name ≡ cell.name
  pub count_is : length p.history.items ≡ length cell.base
  pub config_is : p.cell.config ≡ cell.config
  pub servers_are : p.cell.servers ≡ cell.servers
  pub clients_are : p.cell.clients ≡ cell.clients

-- a client of which nothing was written yet in the journal behind what a seat saw, and the clients that it was
pub record SitsOn (s : SeatState) (n : Node) (earlier : List Node) (v : View) : Type 0 where
  pub name : v.of.name ≡ s.cell.name
  pub begins : IsPrefix s.seen (all_seen v)
  pub lawful : IsHistoryOf v.of s.seen
  pub clocks : IsTrue (are_clocks_kept v.of s.seen)
  pub in_range : first_out_of_range v.of.config ≡ None
  pub own_is : own n s.seen ≡ all_steps v n
  pub told : answered_only (visible_of (own n s.seen)) ≡ visible_of (own n s.seen)
  pub gone : All (IsGone v s.seen) earlier
