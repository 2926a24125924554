-- A parked cell that is looked at.
use Rattle.std.specs.Prelude.{◌≡◌, ◌<◌, List, map, length, Contains, Option, Some, None}
use Rattle.protocol.specs.Master.{MasterState}
use Rattle.protocol.specs.Server.{ServerState}
use Rattle.cell_journal.specs.Identity.{Closed}
use Rattle.cell_journal.specs.Retained.{gone_of}
use Rattle.cell_journal.specs.WholeHistories.{whole_of}
use Rattle.cell_seats.specs.Journals.{JournalState, all_in}
use Rattle.cell_world.specs.Kept.{blank_seen}
use Rattle.cell_world.specs.Seeing.{SeenSoFar}
use Rattle.cell_looks.specs.Noted.{noted_in}

-- its journal with those before it, its master, and its servers by their numbers
pub record LooksState : Type 0 where
  pub journal : JournalState
  pub master : MasterState
  pub servers : List ServerState

abbrev pub looks_state : JournalState → MasterState → List ServerState → LooksState
looks_state journal master servers = record { journal = journal; master = master; servers = servers }

-- some entry, of this journal or of one before it, was let go
pub record IsPartial (j : JournalState) : Type 0 where
  pub journal : Closed
  pub one : Contains (all_in j) journal
  pub gone : 0 < gone_of journal.cell.retention (length journal.entries)

-- what was noted of all steps, without data, up to the journal's end, if no entry was let go
abbrev pub AreSightsOf : JournalState → Option SeenSoFar → Type 0
AreSightsOf j None = IsPartial j
AreSightsOf j (Some s) = s.seen ≡ map blank_seen (noted_in (whole_of j.now))
