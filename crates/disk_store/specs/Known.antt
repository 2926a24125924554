-- What is known of a server's disk without a look at it: the number of the last order, and each replica's row by handle.
use Rattle.std.specs.Prelude.{◌≡◌, ℕ, ◌+◌, ◌≤◌, max, Bool, true, false, not, ◌&&◌, ◌==◌, nat_le, nat_lt, length, Option, None, Some, is_none, is_some}
use Rattle.std.specs.FinMap as map
use Rattle.std.specs.Ordering.{nat_cmp}
use Rattle.gfs_types.specs.declared.ids.Handle.{Handle}
use Rattle.gfs_types.specs.declared.ids.OrderNo.{OrderNo}
use Rattle.messages.specs.declared.message.ReplicaLine.{ReplicaLine}
use Rattle.replica_store.specs.declared.row.Row.{Row}
use Rattle.replica_store.specs.declared.change.StoreChange.{StoreChange}
use Rattle.replica_store.specs.declared.change.StoreChange.TheVariants.{SetOrder, Put, Write, Zero, Raise, Copy, Remove, Rot}
use Rattle.replica_store.specs.Replicas.{Replica, ServerDisk, replica_of, row_at}

abbrev pub Rows : Type 0
Rows = map.FinMap nat_cmp Row

-- it is known of this disk
pub record IsKnownOf (order : OrderNo) (rows : Rows) (d : ServerDisk) : Type 0 where
  pub order_is : order ≡ record { epoch = d.epoch; count = d.count }
  pub rows_are : (handle : ℕ) → map.get rows handle ≡ row_at d handle

-- no replica is longer than its chunk
abbrev pub HaveTheirBytes : ServerDisk → Type 0
HaveTheirBytes d = (handle : ℕ) (r : Replica) → replica_of d handle ≡ Some r → r.count ≤ length r.bytes

-- what a change makes of the rows

abbrev pub longer_row : Row → ℕ → ℕ → Row
longer_row row serial end_place = record { version = row.version; serial = record { 0 = serial }; count = max row.count end_place }

abbrev pub raised_row : Row → ℕ → Row
raised_row row version = record { version = record { 0 = version }; serial = record { 0 = 0 }; count = row.count }

-- with another row under a handle, made of this one, where there is one
abbrev pub rows_with : (Row → Row) → Rows → ℕ → Option Row → Rows
rows_with change rows handle None = rows
rows_with change rows handle (Some row) = map.insert rows handle (change row)

-- changes that a disk can take, by its rows

abbrev pub can_take : ℕ → Option Row → Bool
can_take serial None = false
can_take serial (Some row) = nat_lt row.serial.0 serial

abbrev pub other_version : ℕ → Option Row → Bool
other_version version None = false
other_version version (Some row) = not (row.version.0 == version)

-- The rows tell that it can be made; and it lies within a chunk of so many bytes.
abbrev pub can_be_made : ℕ → Rows → StoreChange → Bool
can_be_made chunk rows (SetOrder order) = true
can_be_made chunk rows (Put handle version serial bytes) = is_none (map.get rows handle.0) && nat_le (0 + length bytes) chunk
can_be_made chunk rows (Write handle serial offset bytes) = can_take serial.0 (map.get rows handle.0) && nat_le (offset + length bytes) chunk
can_be_made chunk rows (Zero handle serial offset count) = can_take serial.0 (map.get rows handle.0) && nat_le (offset + count) chunk
can_be_made chunk rows (Raise handle version) = other_version version.0 (map.get rows handle.0)
can_be_made chunk rows (Copy handle copy version) = is_some (map.get rows handle.0) && is_none (map.get rows copy.0)
can_be_made chunk rows (Remove handle) = is_some (map.get rows handle.0)
can_be_made chunk rows (Rot handle place byte) = is_some (map.get rows handle.0) && nat_lt place chunk

-- how rows are listed

abbrev pub entry_of : Handle × Row → ℕ × Row
entry_of line = (line.0.0, line.1)

abbrev pub row_line : ℕ × Row → ReplicaLine
row_line e = record { handle = record { 0 = e.0 }; version = e.1.version }
