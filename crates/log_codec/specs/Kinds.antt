-- Which records are written by which function.
use Rattle.std.specs.Prelude.{Bool, true, false}
use Rattle.log_records.specs.declared.record.Record.{Record}
use Rattle.log_records.specs.declared.record.Record.TheVariants as log

-- a record of no call of a client
abbrev pub is_of_master : Record → Bool
is_of_master (log.Epoch epoch) = true
is_of_master (log.Expired file) = true
is_of_master (log.AddChunk file handle) = true
is_of_master (log.Issue handle version) = true
is_of_master (log.Grant handle version primary servers) = true
is_of_master (log.CopyStart file i handle copy copy_version) = true
is_of_master entry = false

-- a record with two paths
abbrev pub has_two_paths : Record → Bool
has_two_paths (log.Rename client call from to) = true
has_two_paths (log.Snapshot client call from to) = true
has_two_paths entry = false
