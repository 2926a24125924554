-- A lease that gets a later end: one chunk's end changes, or nothing.
use Rattle.std.proofs.Common.{◌≡◌, ℕ, Bool, true, false, cond, Option, Some, None, refl}
use Rattle.std.specs.Prelude.{nat_lt, ◌&&◌}
use Rattle.chunk_table.specs.ChunkTable.{ChunkRow, ChunkTable, TableState, chunk_of, set_end, with_row_changed, row_ended}
use Rattle.leases.specs.LeaseEnds.{extended, extended_by, end_from}

module _ (s : TableState) (handle now : ℕ) where
  abbrev changed : ℕ → Bool → TableState
  changed until b = cond b (with_row_changed s handle (row_ended until)) s

  by_bool : (P : TableState → Type 0) (until : ℕ) → P s → P (with_row_changed s handle (row_ended until)) → (b : Bool) → P (changed until b)
  by_bool P until stays ends true = ends
  by_bool P until stays ends false = stays

  by_row : (P : TableState → Type 0) (until : ℕ) → P s → P (with_row_changed s handle (row_ended until)) → (o : Option ChunkRow) → P (extended_by s handle now until o)
  by_row P until stays ends None = stays
  by_row P until stays ends (Some row) = by_bool P until stays ends (nat_lt now row.lease_end && nat_lt row.lease_end until)

  -- what holds where nothing changes, and where the end does
  pub by_end : (P : TableState → Type 0) (lease_ms : ℕ) → P s → P (with_row_changed s handle (row_ended (end_from now lease_ms))) → P (extended s handle now lease_ms)
  by_end P lease_ms stays ends = by_row P (end_from now lease_ms) stays ends (chunk_of s.table handle)

  pub counters_stay : (lease_ms : ℕ) → ((extended s handle now lease_ms).next_file ≡ s.next_file) × ((extended s handle now lease_ms).next_handle ≡ s.next_handle)
  counters_stay lease_ms = by_end (λ t. (t.next_file ≡ s.next_file) × (t.next_handle ≡ s.next_handle)) lease_ms (refl, refl) (refl, refl)
