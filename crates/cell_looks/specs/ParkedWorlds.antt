-- The worlds of a parked cell.
use Rattle.std.specs.Prelude.{◌≡◌, ℕ, suc, List, [], map, Option, Some, unwrap_or}
use Rattle.std.specs.FinMap as table
use Rattle.gfs_types.specs.declared.ids.Node.{Node}
use Rattle.relaxed_file.specs.Regions.{regions_of}
use Rattle.relaxed_file.specs.declared.region.Region.{Region}
use Rattle.protocol.specs.Observer.{entries_of}
use Rattle.protocol.specs.Sending.{the_server}
use Rattle.protocol.specs.Server.{ServerState}
use Rattle.protocol.specs.Tables.{element_at}
use Rattle.protocol.specs.World.{WorldState, IsReached}
use Rattle.protocol_journal.specs.Journal.{NodeState, MasterIs}
use Rattle.protocol_journal.specs.Laws.{Shows}
use Rattle.cell_journal.specs.Identity.{Closed}
use Rattle.cell_journal.specs.WholeHistories.{whole_of}
use Rattle.cell_seats.specs.ParkedNodes.{IsLedBy}
use Rattle.running_nodes.specs.Standing.{MasterStands, ServerStands}
use Rattle.cell_looks.specs.Looks.{LooksState}

-- A world to which the cell's whole history led, with the master and the servers as they were parked.
pub record IsWorldOf (p : LooksState) (w : WorldState) : Type 0 where
  pub reached : IsReached p.journal.now.cell.config p.journal.now.cell.servers p.journal.now.cell.clients w
  pub config_is : w.config ≡ p.journal.now.cell.config
  pub ends : Node → Option NodeState
  pub shows : Shows w (whole_of p.journal.now) ends
  pub master : MasterStands p.master (MasterIs w.master)
  pub servers : w.servers ≡ p.servers

-- the regions of each of a file's chunks, by their indexes
abbrev pub file_regions : WorldState → ℕ → List (List Region)
file_regions w file = map (λ handle. regions_of (entries_of w.observer handle)) (unwrap_or (table.get w.observer.files file) [])

-- servers by their numbers, from 1, as a cell's whole history left them
abbrev pub AreLed : Closed → List ServerState → Type 0
AreLed j servers = (k : ℕ) (s : ServerState) → element_at servers k ≡ Some s → IsLedBy j.cell (the_server (suc k)) (whole_of j) (ServerStands s)
