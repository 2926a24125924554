-- Chunks that have their replicas (section 4.3).
use Rattle.std.specs.Prelude.{◌≡◌, ℕ, Bool, false, ◌&&◌, nat_lt, Option, None, option_map, unwrap_or}
use Rattle.std.specs.FinMap as table
use Rattle.chunk_table.specs.ChunkTable.{ChunkRow, NumberTable}
use Rattle.rereplicate.specs.Servers.{Servers}
use Rattle.rereplicate.specs.Clones.{missing_replicas}

-- a granted chunk, whether its lease has ended or not, that lacks replicas
abbrev pub lacks : Servers → ℕ → ChunkRow → Bool
lacks s handle row = nat_lt 0 row.granted && nat_lt 0 (missing_replicas s handle row)

abbrev pub lacks_of : Servers → ℕ → Option ChunkRow → Bool
lacks_of s handle o = unwrap_or (option_map (λ row. lacks s handle row) o) false

-- the same by its handle
abbrev pub lacks_at : Servers → NumberTable ChunkRow → ℕ → Bool
lacks_at s chunks handle = lacks_of s handle (table.get chunks handle)

-- no chunk does but some of these
abbrev pub AreWholeBut : Servers → NumberTable ChunkRow → NumberTable Unit → Type 0
AreWholeBut s chunks doubted = (handle : ℕ) → table.get doubted handle ≡ None → lacks_at s chunks handle ≡ false
