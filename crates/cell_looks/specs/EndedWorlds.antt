-- The worlds to which the whole history of a closed cell led, and the regions that were asked for at its end.
use Rattle.std.specs.Prelude.{◌≡◌, List, [], Option, Some, None, option_map, unwrap_or}
use Rattle.gfs_types.specs.declared.ids.Node.{Node}
use Rattle.gfs_types.specs.Paths.{Path}
use Rattle.relaxed_file.specs.declared.region.Region.{Region}
use Rattle.protocol.specs.Lookups.{file_named}
use Rattle.protocol.specs.World.{WorldState, IsReached}
use Rattle.protocol_journal.specs.Journal.{NodeState}
use Rattle.protocol_journal.specs.Laws.{Shows}
use Rattle.cell_journal.specs.Identity.{Closed}
use Rattle.cell_journal.specs.WholeHistories.{whole_of}
use Rattle.cell_looks.specs.ParkedWorlds.{file_regions}

-- A world to which a cell's whole history led.
pub record IsHistoryWorld (journal : Closed) (w : WorldState) : Type 0 where
  pub reached : IsReached journal.cell.config journal.cell.servers journal.cell.clients w
  pub ends : Node → Option NodeState
  pub shows : Shows w (whole_of journal) ends

-- the regions of each chunk of the file that a path names, by their indexes
abbrev pub regions_named : WorldState → Path → List (List Region)
regions_named w path = unwrap_or (option_map (file_regions w) (file_named w path)) []

-- the regions that were asked for, of the world to which the history led
abbrev pub AreRegionsOf : Option Path → Closed → List (List Region) → Type 0
AreRegionsOf None journal regions = regions ≡ []
AreRegionsOf (Some path) journal regions = (w : WorldState) × IsHistoryWorld journal w × (regions ≡ regions_named w path)
