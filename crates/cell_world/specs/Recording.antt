-- There is room for what a step gives.
use Rattle.std.specs.Prelude.{◌<◌, ◌^◌, length}
use Rattle.cell_world.specs.declared.record.CellRecord.{CellRecord}

pub record IsReady (r : CellRecord) : Type 0 where
  pub sends : 0 < r.network.room
  pub counts : length r.network.messages < 2 ^ 63
  pub sees : 0 < r.sights.room
