-- Which records are items.
use Rattle.std.specs.Prelude.{Bool, true, false}
use Rattle.log_records.specs.declared.record.Record.{Record}
use Rattle.log_records.specs.declared.record.Record.TheVariants as log

-- the items of a checkpoint
abbrev pub is_item : Record → Bool
is_item (log.Counters next_file next_handle epoch) = true
is_item (log.DirItem path) = true
is_item (log.FileItem path file shape handles) = true
is_item (log.ChunkItem handle granted issued primary members) = true
is_item (log.ClientItem client n refusal) = true
is_item other = false
