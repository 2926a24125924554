-- Records and items as they lie in an area.
use Rattle.std.specs.Prelude.{◌≡◌, ◌≢◌, ℕ, List, [], ◌∷◌, ◌++◌, length, Bool, false, ◌==◌}
use Rattle.std.specs.List.{AllByRecursion}
use Rattle.log_records.specs.declared.record.Record.{Record}
use Rattle.log_codec.specs.Fields.{index, IsIndex}
use Rattle.log_codec.specs.Payloads.{payload, is_item, IsRecord}

-- what has an entry: a record or an item whose length fits 4 bytes
abbrev pub IsEntry : Record → Type 0
IsEntry r = IsRecord r × IsIndex (length (payload r))

-- its length, and its payload
unfoldable pub entry : Record → List ℕ
entry r = index (length (payload r)) ++ payload r

-- a checkpoint's items, one after the other
unfoldable pub entries : List Record → List ℕ
entries [] = []
entries (r ∷ rest) = entry r ++ entries rest

-- records, each behind an open gate, which is 1
unfoldable pub open_entries : List Record → List ℕ
open_entries [] = []
open_entries (r ∷ rest) = 1 ∷ (entry r ++ open_entries rest)

-- what may stand behind an open gate: a record, and no item
abbrev pub IsLogged : Record → Type 0
IsLogged r = IsEntry r × (is_item r ≡ false)

-- The bytes are these records, and a closed gate after them; any byte but 1 is one. What stands behind it counts for nothing.
pub record HoldsRecords (records : List Record) (bytes : List ℕ) : Type 0 where
  pub gate : ℕ
  pub rest : List ℕ
  pub parts : bytes ≡ open_entries records ++ gate ∷ rest
  pub closed : gate ≢ 1
  pub each : AllByRecursion IsLogged records

-- whether an open gate comes first
abbrev pub is_open : List ℕ → Bool
is_open [] = false
is_open (gate ∷ rest) = gate == 1
