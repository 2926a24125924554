-- The master and the servers of a running cell.
use Rattle.std.specs.Prelude.{◌≡◌, ℕ, List, ◌∷◌, map, length, All}
use Rattle.gfs_types.specs.declared.ids.Node.TheVariants.{Master}
use Rattle.protocol.specs.Tables.{first_numbers}
use Rattle.protocol.specs.Sending.{the_server}
use Rattle.protocol_journal.specs.Journal.{Entry}
use Rattle.cell_journal.specs.Identity.{Identity}
use Rattle.cell_journal.specs.Log.{Listed}
use Rattle.cell_seats.specs.NodeLocks.{NodeName, node_name}
use Rattle.cell_seats.specs.ParkedNodes.{ParkedNodeState, name_of, HasSeenAll}

-- a cell's master and its servers
abbrev pub names_of : Identity → ℕ → List NodeName
names_of cell servers = node_name cell Master ∷ map (λ s. node_name cell (the_server s)) (first_numbers servers)

-- the master and the servers of a cell, each of which saw so many entries of its history
pub record AreNodesOf (cell : Identity) (servers count : ℕ) (nodes : List ParkedNodeState) : Type 0 where
  pub names : map name_of nodes ≡ names_of cell servers
  pub seen : All (λ p. HasSeenAll p.cell count p) nodes

-- the master and the servers of a cell have seen all that this list has, under the cell's name
pub record HaveSeen (cell : Identity) (servers : ℕ) (list : Listed Entry) (nodes : List ParkedNodeState) : Type 0 where
  pub nodes_are : AreNodesOf cell servers (length list.items) nodes
  pub name_is : list.name ≡ cell.name
