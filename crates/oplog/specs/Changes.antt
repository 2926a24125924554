-- What a change of the log makes of it.
use Rattle.std.specs.Prelude.{◌⊎◌, ℕ, List, [], ◌∷◌, ◌++◌}
use Rattle.log_records.specs.declared.record.Record.{Record}
use Rattle.oplog.specs.Areas.{AreaState}
use Rattle.oplog.specs.Disks.{HasLog}

-- one record more
abbrev pub appended : AreaState → Record → AreaState
appended area r = record area { records = area.records ++ r ∷ [] }

-- the disk has these items and records, or one record more
abbrev pub IsBeforeOrAfter : AreaState → Record → List ℕ → Type 0
IsBeforeOrAfter area r disk = HasLog area.items area.records disk ⊎ HasLog area.items (area.records ++ r ∷ []) disk
