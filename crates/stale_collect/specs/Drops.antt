-- What a report is answered by (section 4.5).
use Rattle.std.specs.Prelude.{ℕ, Bool, true, nat_lt, List, map, filter, Option, Some, None}
use Rattle.messages.specs.declared.message.ReplicaLine.{ReplicaLine}
use Rattle.chunk_table.specs.ChunkTable.{ChunkRow, ChunkTable, chunk_of}
use Rattle.stale_collect.specs.declared.drop_order.DropOrder.{DropOrder}

-- whether a replica of this version is of an unknown chunk, or older than the granted version
abbrev pub is_useless : ℕ → Option ChunkRow → Bool
is_useless version None = true
is_useless version (Some row) = nat_lt version row.granted

abbrev pub drop_of : ReplicaLine → DropOrder
drop_of line = record { handle = line.handle; version = line.version }

-- a Drop for each useless replica
abbrev pub useless_drops : ChunkTable → List ReplicaLine → List DropOrder
useless_drops t report = map drop_of (filter (λ line. is_useless line.version.0 (chunk_of t line.handle.0)) report)
