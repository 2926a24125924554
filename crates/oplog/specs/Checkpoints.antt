-- A checkpoint takes the place of a log's items and records.
use Rattle.std.specs.Prelude.{◌≡◌, ◌⊎◌, ℕ, ◌+◌, ◌^◌, Bool, false, ◌&&◌, ◌==◌, nat_lt, List, [], slice_index_or as get_or}
use Rattle.disk.specs.Device.{ChangesOnly}
use Rattle.log_records.specs.declared.record.Record.{Record}
use Rattle.oplog.specs.Areas.{AreaState}
use Rattle.oplog.specs.Layout.{area_size, checkpoint_fits}
use Rattle.oplog.specs.Disks.{HasLog}

-- There is room for the checkpoint, and a number for its area.
abbrev pub has_place : ℕ → AreaState → List Record → Bool
has_place size area items = nat_lt (area.number + 1) (2 ^ 64) && checkpoint_fits (area_size size) items

-- the disk has the items and records from before, or these items alone
abbrev pub IsOldOrNew : AreaState → List Record → List ℕ → Type 0
IsOldOrNew area items disk = HasLog area.items area.records disk ⊎ HasLog items [] disk

-- A stop while a gate is closed: nothing has changed, or the gate alone, which is closed.
abbrev pub IsClosing : ℕ → List ℕ → List ℕ → Type 0
IsClosing gate old new = (new ≡ old) ⊎ (ChangesOnly gate 1 old new × (get_or new gate 0 == 1 ≡ false))
