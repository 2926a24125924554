-- The bytes of a disk's head, of the last order's number and of a slot's header. Numbers have their lowest byte first.
use Rattle.std.specs.Prelude.{ℕ, ◌<◌, ◌^◌, ◌==◌, if◌then◌else◌, List, [], ◌∷◌, ◌++◌, codes, drop, replicate, slice_index, take, Option, None, Some}
use Rattle.std.specs.Int.{w32, w64, from_le_bytes, to_le_bytes}
use Rattle.gfs_types.specs.declared.ids.OrderNo.{OrderNo}
use Rattle.store_disk.specs.declared.header.SlotHeader.{SlotHeader}

-- the head but for its gate: the letters GFSC, the number 1 of the format, the sizes, and zeros
abbrev pub head_bytes : ℕ → ℕ → ℕ → List ℕ
head_bytes chunk block slots =
    codes "GFSC" ++ (1 ∷ 0 ∷ 0 ∷ 0 ∷ [])
    ++ to_le_bytes w32 chunk ++ to_le_bytes w32 block ++ to_le_bytes w32 slots
    ++ replicate 11 0

-- the number of an order
abbrev pub order_bytes : OrderNo → List ℕ
order_bytes order = to_le_bytes w64 order.epoch ++ to_le_bytes w64 order.count

-- the header of a slot that is used
abbrev pub header_bytes : SlotHeader → List ℕ
header_bytes h =
    (1 ∷ 0 ∷ 0 ∷ 0 ∷ 0 ∷ 0 ∷ 0 ∷ 0 ∷ [])
    ++ to_le_bytes w64 h.handle.0 ++ to_le_bytes w64 h.version.0 ++ to_le_bytes w64 h.serial.0 ++ to_le_bytes w64 h.count

-- the number in the eight bytes from a place on
abbrev pub number_at : ℕ → List ℕ → ℕ
number_at place bytes = from_le_bytes w64 (take 8 (drop place bytes))

abbrev pub order_in : List ℕ → OrderNo
order_in bytes = record { epoch = number_at 0 bytes; count = number_at 8 bytes }

abbrev pub used_header_in : List ℕ → SlotHeader
used_header_in bytes = record {
  handle = record { 0 = number_at 8 bytes };
  version = record { 0 = number_at 16 bytes };
  serial = record { 0 = number_at 24 bytes };
  count = number_at 32 bytes;
}

-- what a slot says of its replica, where it is used
abbrev pub header_in : List ℕ → Option SlotHeader
header_in bytes = if slice_index bytes 0 == 1 then Some (used_header_in bytes) else None

-- each number has 64 bits

pub record FitsOrder (order : OrderNo) : Type 0 where
  pub epoch : order.epoch < 2 ^ 64
  pub count : order.count < 2 ^ 64

pub record FitsHeader (h : SlotHeader) : Type 0 where
  pub handle : h.handle.0 < 2 ^ 64
  pub version : h.version.0 < 2 ^ 64
  pub serial : h.serial.0 < 2 ^ 64
  pub count : h.count < 2 ^ 64
