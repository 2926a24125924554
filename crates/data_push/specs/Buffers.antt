-- Pushed data that wait for their mutation: a server keeps them in a buffer until they are used or too old (section 3.2).
use Rattle.std.specs.Prelude.{ℕ, ◌-◌, ◌≤◌, Bool, ◌&&◌, ◌==◌, List, ◌∷◌, length, take, Option}
use Rattle.std.specs.Map.{lookup, remove_entry}
use Rattle.gfs_types.specs.declared.ids.DataId.{DataId}

-- the data by id, the newest first, and how many there may be
pub record PushBuffer : Type 0 where
  pub entries : List (DataId × List ℕ)
  pub limit : ℕ

abbrev pub push_buffer : List (DataId × List ℕ) → ℕ → PushBuffer
push_buffer entries limit = record { entries = entries; limit = limit }

abbrev pub same_id : DataId → DataId → Bool
same_id a b = (a.client.0 == b.client.0) && (a.seq == b.seq)

-- the data under that id
abbrev pub data_of : PushBuffer → DataId → Option (List ℕ)
data_of buffer id = lookup (same_id id) buffer.entries

-- the data under that id are taken out
abbrev pub without_data : PushBuffer → DataId → PushBuffer
without_data buffer id = push_buffer (remove_entry (same_id id) buffer.entries) buffer.limit

-- These data are the newest, in place of any under the same id. Where there are too many, the oldest go.
abbrev pub with_data : PushBuffer → DataId → List ℕ → PushBuffer
with_data buffer id bytes = push_buffer ((id, bytes) ∷ take (buffer.limit - 1) (remove_entry (same_id id) buffer.entries)) buffer.limit

-- there is room for one, and no more are there than may be
abbrev pub IsWithinLimit : PushBuffer → Type 0
IsWithinLimit buffer = (1 ≤ buffer.limit) × (length buffer.entries ≤ buffer.limit)
