-- The items of a checkpoint's chunks.
use Rattle.std.specs.Prelude.{ℕ, nat_lt, if◌then◌else◌, List, [], ◌∷◌, map, filter, Option, Some, None}
use Rattle.log_records.specs.declared.record.Record.{Record}
use Rattle.chunk_table.specs.ChunkTable.{ChunkRow}
use Rattle.protocol.specs.Logged.{chunk_item}

-- the items of the chunks that files own, in their order
abbrev pub owned_items : List (ℕ × ChunkRow) → List Record
owned_items es = map chunk_item (filter (λ e. nat_lt 0 e.1.references) es)

-- the item of one handle, where files own its chunk
abbrev pub items_at : ℕ → Option ChunkRow → List Record
items_at handle None = []
items_at handle (Some row) = if nat_lt 0 row.references then chunk_item (handle, row) ∷ [] else []
