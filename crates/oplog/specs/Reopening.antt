-- A log whose disk has begun again.
use Rattle.std.specs.Prelude.{◌≡◌, ◌⊎◌, ℕ, false, List, []}
use Rattle.log_records.specs.declared.record.Record.{Record}
use Rattle.oplog.specs.Disks.{is_formatted}
use Rattle.oplog.specs.Formats.{IsUpgrading}
use Rattle.oplog.specs.NewLogs.{IsLogOf}

-- the same bytes; or an empty log where none stood; or the items and records of a log of format 1, in either format
abbrev pub IsReopened : List ℕ → List ℕ → Type 0
IsReopened old new = (new ≡ old) ⊎ (((is_formatted old ≡ false) × IsLogOf [] [] new) ⊎ IsUpgrading old new)
