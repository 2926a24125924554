-- How many bytes a record's fields take, with its tag.
use Rattle.std.specs.Prelude.{ℕ, ◌+◌, ◌*◌, List, length, Option, None, Some}
use Rattle.gfs_types.specs.declared.shape.Shape.{Shape}
use Rattle.log_records.specs.declared.record.Record.{Record}
use Rattle.log_records.specs.declared.record.Record.TheVariants as log

abbrev pub shape_size : Option Shape → ℕ
shape_size None = 0
shape_size (Some s) = 5

abbrev pub payload_size : Record → ℕ
payload_size (log.Epoch epoch) = 9
payload_size (log.Mkdir client call p) = 19 + length p
payload_size (log.Rmdir client call p) = 19 + length p
payload_size (log.Create client call file s p) = 27 + shape_size s + length p
payload_size (log.Delete client call moment p) = 27 + length p
payload_size (log.Rename client call old new) = 21 + length old + length new
payload_size (log.Snapshot client call source copy) = 21 + length source + length copy
payload_size (log.Refused client call refusal) = 18
payload_size (log.Expired file) = 9
payload_size (log.AddChunk file handle) = 17
payload_size (log.Issue handle version) = 17
payload_size (log.Grant handle version primary servers) = 20 + 2 * length servers
payload_size (log.CopyStart file i handle copy version) = 37
payload_size (log.Counters file handle epoch) = 25
payload_size (log.DirItem p) = 3 + length p
payload_size (log.FileItem p file s all) = 15 + shape_size s + length p + 8 * length all
payload_size (log.ChunkItem handle granted issued primary servers) = 28 + 2 * length servers
payload_size (log.ClientItem client call refusal) = 18
