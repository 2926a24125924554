-- The redo area of a chunkserver's disk. No change writes to the head, which lies before place 32.
use Rattle.std.specs.Prelude.{ℕ}
use Rattle.disk_redo.specs.declared.range.RedoArea.{RedoArea}
use Rattle.store_disk.specs.Places.{redo_size}

abbrev pub area_of : ℕ → ℕ → RedoArea
area_of chunk block = record { place = 48; size = redo_size chunk block; first = 32 }
