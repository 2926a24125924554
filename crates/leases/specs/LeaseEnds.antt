-- When a lease has ended for the master, and how it is extended (section 3.1).
use Rattle.std.specs.Prelude.{ℕ, ◌+◌, Bool, ◌&&◌, nat_lt, nat_le, if◌then◌else◌, Option, Some, None, min}
use Rattle.chunk_table.specs.ChunkTable.{ChunkRow, TableState, chunk_of, with_row_changed, row_ended}

-- the last moment that can be written
abbrev pub last_moment : ℕ
last_moment = 18_446_744_073_709_551_615

-- whether the chunk's lease has ended for the master
abbrev pub has_ended : ChunkRow → ℕ → Bool
has_ended row now = nat_le row.lease_end now

-- the end of a lease that is asked for now
abbrev pub end_from : ℕ → ℕ → ℕ
end_from now lease_ms = min (now + lease_ms) last_moment

abbrev pub extended_by : TableState → ℕ → ℕ → ℕ → Option ChunkRow → TableState
extended_by s handle now until None = s
extended_by s handle now until (Some row) = if nat_lt now row.lease_end && nat_lt row.lease_end until then with_row_changed s handle (row_ended until) else s

-- A lease that has not ended gets a later end, a lease's time from now; an end is never moved earlier.
abbrev pub extended : TableState → ℕ → ℕ → ℕ → TableState
extended s handle now lease_ms = extended_by s handle now (end_from now lease_ms) (chunk_of s.table handle)
