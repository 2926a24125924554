-- What the bytes of an area say: a checkpoint, and the records appended after it.
use Rattle.std.specs.Prelude.{◌≡◌, ℕ, ◌+◌, true, List, ◌∷◌, ◌++◌, length}
use Rattle.std.specs.List.{AllByRecursion}
use Rattle.log_records.specs.declared.record.Record.{Record}
use Rattle.log_codec.specs.Fields.{number, index, IsNumber, IsIndex}
use Rattle.oplog.specs.Entries.{entries, open_entries, IsEntry, HoldsRecords}
use Rattle.oplog.specs.Order.{is_checkpoint}

-- what an open area says
pub record AreaState : Type 0 where
  pub number : ℕ
  pub items : List Record
  pub records : List Record

-- an open gate, a number, bytes behind their length, and what follows them
abbrev pub area_bytes : ℕ → List ℕ → List ℕ → List ℕ
area_bytes n checkpoint rest = 1 ∷ (number n ++ (index (length checkpoint) ++ (checkpoint ++ rest)))

-- an open gate, the area's number, its checkpoint and its records
pub record AreaSays (area : AreaState) (bytes : List ℕ) : Type 0 where
  pub rest : List ℕ
  pub parts : bytes ≡ area_bytes area.number (entries area.items) rest
  pub number_fits : IsNumber area.number
  pub length_fits : IsIndex (length (entries area.items))
  pub each : AllByRecursion IsEntry area.items
  pub order : is_checkpoint area.items ≡ true
  pub records : HoldsRecords area.records rest

-- where the closed gate after the last record stands in its area
abbrev pub end_of : AreaState → ℕ
end_of area = 13 + length (entries area.items) + length (open_entries area.records)
