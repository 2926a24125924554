-- What the bytes of the master's disk say: a head, and two areas of which one is current.
use Rattle.std.specs.Prelude.{◌≡◌, ℕ, ◌-◌, ◌<◌, Bool, true, ◌==◌, nat_lt, if◌then◌else◌, List, [], ◌∷◌, ◌++◌, length, take, drop, replicate, slice_index_or as get_or, Option, Some, None}
use Rattle.std.specs.Int.{w64, from_le_bytes}
use Rattle.disk.specs.Bytes.{range_at}
use Rattle.log_records.specs.declared.record.Record.{Record}
use Rattle.oplog.specs.Areas.{AreaState, AreaSays}
use Rattle.oplog.specs.Layout.{area_at, area_size}

-- `GFSL`, 1, the open gate of format 2, and zeros
abbrev pub head : List ℕ
head = 71 ∷ 70 ∷ 83 ∷ 76 ∷ 1 ∷ 1 ∷ replicate 9 0

-- the gate of the head, after it
abbrev pub head_gate : ℕ
head_gate = 15

-- the bytes of the first area (0) or the second one (1), on a disk of this size
abbrev pub area_of : ℕ → ℕ → List ℕ → List ℕ
area_of size which disk = range_at disk (area_at size which) (area_size size)

abbrev pub other : ℕ → ℕ
other which = 1 - which

-- an area's gate and number
abbrev pub front_of : ℕ → ℕ → List ℕ → List ℕ
front_of size which disk = range_at disk (area_at size which) 9

-- the number of an area with these first bytes, where its gate is open
abbrev pub open_number : List ℕ → Option ℕ
open_number front = if get_or front 0 0 == 1 then Some (from_le_bytes w64 (drop 1 front)) else None

abbrev pub is_below : Option ℕ → ℕ → Bool
is_below None number = true
is_below (Some n) number = nat_lt n number

-- an area that is closed, or has a lower number
abbrev pub IsOlder : ℕ → List ℕ → Type 0
IsOlder number front = is_below (open_number front) number ≡ true

-- the open area with the greater number, where there is one: the first (0) or the second one (1)
abbrev pub later_if_below : Option ℕ → ℕ → Option ℕ
later_if_below first second = if is_below first second then Some 1 else None

abbrev pub second_or_none : Option ℕ → Option ℕ → Option ℕ
second_or_none first None = None
second_or_none first (Some n) = later_if_below first n

abbrev pub newest : Option ℕ → Option ℕ → Option ℕ
newest None second = second_or_none None second
newest (Some n) second = if is_below second n then Some 0 else second_or_none (Some n) second

-- whether the head's gate is open; a disk whose head is closed holds no log yet
abbrev pub is_formatted : List ℕ → Bool
is_formatted disk = get_or disk head_gate 0 == 1

-- The head's gate is open, the format is 2, and this area is current and says this.
pub record DiskSays (size which : ℕ) (area : AreaState) (disk : List ℕ) : Type 0 where
  pub sized : length disk ≡ size
  pub one_of_two : which < 2
  pub formatted : take 16 disk ≡ head ++ 1 ∷ []
  pub says : AreaSays area (area_of size which disk)
  pub older : IsOlder area.number (front_of size (other which) disk)

-- The disk has these items and records, in format 2.
pub record HasLog (items records : List Record) (disk : List ℕ) : Type 0 where
  pub which : ℕ
  pub number : ℕ
  pub says : DiskSays (length disk) which (record { number = number; items = items; records = records }) disk
