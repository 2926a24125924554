-- The chunk that a record brings to be doubted.
use Rattle.std.specs.Prelude.{ℕ, Option, Some, None}
use Rattle.std.specs.FinMap as table
use Rattle.log_records.specs.declared.record.Record.{Record}
use Rattle.log_records.specs.declared.record.Record.TheVariants as log
use Rattle.protocol.specs.Tables.{Table}

-- the chunk whose granted version a record sets
abbrev pub granted_chunk : Record → Option ℕ
granted_chunk (log.Grant handle version primary members) = Some handle.0
granted_chunk (log.ChunkItem handle granted issued primary members) = Some handle.0
granted_chunk other = None

abbrev pub with_granted : Table Unit → Option ℕ → Table Unit
with_granted doubted None = doubted
with_granted doubted (Some handle) = table.insert doubted handle tt
