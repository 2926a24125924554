-- An area that is written anew.
use Rattle.std.specs.Prelude.{◌≡◌, ◌⊎◌, ℕ, Bool, false, ◌==◌, List, [], slice_index_or as get_or}
use Rattle.disk.specs.Device.{ChangesOnly}
use Rattle.log_records.specs.declared.record.Record.{Record}
use Rattle.oplog.specs.Areas.{AreaState, AreaSays}
use Rattle.oplog.specs.Layout.{area_at, area_size}
use Rattle.oplog.specs.Disks.{area_of}

-- a checkpoint, and no record after it
abbrev pub area_with : ℕ → List Record → AreaState
area_with number items = record { number = number; items = items; records = [] }

-- whether the gate of the first area (0) or the second one (1) is open
abbrev pub is_area_open : ℕ → ℕ → List ℕ → Bool
is_area_open size which disk = get_or disk (area_at size which) 0 == 1

-- A stop while an area is written: it is closed or says what it is to say, and nothing else has changed.
pub record IsWriting (size which : ℕ) (area : AreaState) (old new : List ℕ) : Type 0 where
  pub elsewhere : ChangesOnly (area_at size which) (area_size size) old new
  pub inside : (is_area_open size which new ≡ false) ⊎ AreaSays area (area_of size which new)

-- Want of memory leaves the area closed, and nothing else has changed.
pub record IsStillClosed (size which : ℕ) (old new : List ℕ) : Type 0 where
  pub elsewhere : ChangesOnly (area_at size which) (area_size size) old new
  pub closed : is_area_open size which new ≡ false
