-- The log that stands on a disk, and a disk on which none stands yet.
use Rattle.std.specs.Prelude.{◌≡◌, ◌⊎◌, ℕ, false, List, []}
use Rattle.log_records.specs.declared.record.Record.{Record}
use Rattle.oplog.specs.Disks.{is_formatted, HasLog}
use Rattle.oplog.specs.Formats.{HasLogOfFormat1}

-- The head's gate is closed: no log stands there yet, which counts as an empty one.
pub record IsNew (items records : List Record) (disk : List ℕ) : Type 0 where
  pub closed : is_formatted disk ≡ false
  pub no_items : items ≡ []
  pub no_records : records ≡ []

-- The disk's log has these items and records, in either format.
abbrev pub IsLogOf : List Record → List Record → List ℕ → Type 0
IsLogOf items records disk = IsNew items records disk ⊎ (HasLog items records disk ⊎ HasLogOfFormat1 items records disk)
