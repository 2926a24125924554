-- Opening the operation log's disk.
use Rattle.std.specs.Prelude.{◌≡◌, ◌⊎◌, ℕ, false, List, [], ◌++◌, length, Option, None, Some}
use Rattle.oplog.specs.Areas.{AreaState, end_of}
use Rattle.oplog.specs.Walks.{IsWalk, passed}
use Rattle.oplog.specs.declared.walk.Walk.{Walk}
use Rattle.oplog.specs.Disks.{is_formatted, DiskSays}
use Rattle.oplog.specs.Formats.{IsUpgrading}
use Rattle.log_records.specs.declared.record.Record.{Record}
use Rattle.oplog.specs.NewLogs.{IsLogOf}
use Rattle.oplog.specs.declared.found.FoundArea.{FoundArea}

-- A stop within an opening leaves what one before it might have left; or an empty log, where none stood there; or the items and records of a log of format 1, in either format.
abbrev pub IsOpening : List ℕ → (List ℕ → Type 0) → List ℕ → Type 0
IsOpening before may_leave c = may_leave c ⊎ (((is_formatted before ≡ false) × IsLogOf [] [] c) ⊎ IsUpgrading before c)

-- The walk goes through these entries and has passed none; where there is no walk, there is no entry.
abbrev pub WalksThrough : List Record → Option Walk → Type 0
WalksThrough all None = all ≡ []
WalksThrough all (Some walk) = IsWalk all walk × (passed walk ≡ 0)

abbrev pub area_found : FoundArea → AreaState
area_found found = record { number = found.number; items = found.items; records = found.records }

-- What was found is what the disk says.
pub record IsFound (found : FoundArea) (disk : List ℕ) : Type 0 where
  pub says : DiskSays (length disk) found.which (area_found found) disk
  pub end : found.end ≡ end_of (area_found found)
  pub walk : WalksThrough (found.items ++ found.records) found.walk
