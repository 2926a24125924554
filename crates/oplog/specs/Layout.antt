-- Where things stand on the master's disk: a head of 16 bytes, and two areas of one size.
use Rattle.std.specs.Prelude.{ℕ, ◌+◌, ◌-◌, ◌*◌, ◌/◌, Bool, nat_le, List, length}
use Rattle.log_records.specs.declared.record.Record.{Record}
use Rattle.log_codec.specs.Payloads.{payload}
use Rattle.oplog.specs.Entries.{entries}
use Rattle.oplog.specs.Areas.{AreaState, end_of}

abbrev pub head_size : ℕ
head_size = 16

-- an area's size, on a disk of so many bytes
abbrev pub area_size : ℕ → ℕ
area_size disk = (disk - 16) / 2 / 16 * 16

-- where the first area (0) and the second one (1) begin
abbrev pub area_at : ℕ → ℕ → ℕ
area_at disk which = 16 + which * area_size disk

-- The record has room in an area of this size: its gate, its length, its payload and the closed gate after it.
abbrev pub record_fits : ℕ → AreaState → Record → Bool
record_fits size area r = nat_le (end_of area + (5 + length (payload r)) + 1) size

-- A checkpoint has room in it: its own gate, number and length, and the closed gate after it.
abbrev pub checkpoint_fits : ℕ → List Record → Bool
checkpoint_fits size items = nat_le (13 + length (entries items) + 1) size
