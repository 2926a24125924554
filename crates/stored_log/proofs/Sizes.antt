-- How many bytes a log takes of its area.
use Rattle.std.proofs.Common.{◌≡◌, ℕ, ◌+◌, ◌<◌, List, [], ◌∷◌, ◌++◌, length, length-append, None, Some, sym, ap, ◌∙◌, arith}
use Rattle.std.specs.List.{sum_by}
use Rattle.std.proofs.lemmas.List.Sums.{sum_by-cons}
use Rattle.log_records.specs.declared.record.Record.{Record}
use Rattle.log_records.specs.declared.record.Record.TheVariants as log
use Rattle.log_codec.specs.Payloads.{payload}
use Rattle.log_codec.proofs.Lengths.{payload_len}
use Rattle.oplog.specs.Areas.{AreaState, end_of}
use Rattle.oplog.specs.Entries.{entries, entry, open_entries}
use Rattle.oplog.specs.Logs.{LogState}
use Rattle.oplog.proofs.Parsing.{entries_cons, entries_nil, entry_len, open_cons, open_nil}
use Rattle.protocol.specs.LogSizes.{checkpoint_size, payload_size, used_size}
use Rattle.stored_log.specs.Kept.{HasDiskSize, Takes}

payload_is : (r : Record) → payload_size r ≡ length (payload r)
payload_is (log.Epoch epoch) = payload_len (log.Epoch epoch)
payload_is (log.Mkdir client n path) = payload_len (log.Mkdir client n path)
payload_is (log.Rmdir client n path) = payload_len (log.Rmdir client n path)
payload_is (log.Create client n file None path) = payload_len (log.Create client n file None path)
payload_is (log.Create client n file (Some shape) path) = payload_len (log.Create client n file (Some shape) path)
payload_is (log.Delete client n moment path) = payload_len (log.Delete client n moment path)
payload_is (log.Rename client n from to) = payload_len (log.Rename client n from to)
payload_is (log.Snapshot client n from to) = payload_len (log.Snapshot client n from to)
payload_is (log.Refused client n refusal) = payload_len (log.Refused client n refusal)
payload_is (log.Expired file) = payload_len (log.Expired file)
payload_is (log.AddChunk file handle) = payload_len (log.AddChunk file handle)
payload_is (log.Issue handle version) = payload_len (log.Issue handle version)
payload_is (log.Grant handle version primary members) = payload_len (log.Grant handle version primary members)
payload_is (log.CopyStart file index handle copy copy_version) = payload_len (log.CopyStart file index handle copy copy_version)
payload_is (log.Counters next_file next_handle epoch) = payload_len (log.Counters next_file next_handle epoch)
payload_is (log.DirItem path) = payload_len (log.DirItem path)
payload_is (log.FileItem path file None handles) = payload_len (log.FileItem path file None handles)
payload_is (log.FileItem path file (Some shape) handles) = payload_len (log.FileItem path file (Some shape) handles)
payload_is (log.ChunkItem handle granted issued primary members) = payload_len (log.ChunkItem handle granted issued primary members)
payload_is (log.ClientItem client n refusal) = payload_len (log.ClientItem client n refusal)

items_taken : (items : List Record) → checkpoint_size items ≡ length (entries items)
items_taken [] = sym (ap (λ (l : List ℕ). length l) entries_nil)
items_taken (r ∷ rest) = omega (
  arith,
  sum_by-cons (λ i. 4 + payload_size i) r rest,
  items_taken rest,
  payload_is r,
  entry_len r,
  ap length (entries_cons r rest),
  length-append (entry r) (entries rest),
)

records_taken : (records : List Record) → sum_by (λ i. 5 + payload_size i) records ≡ length (open_entries records)
records_taken [] = sym (ap (λ (l : List ℕ). length l) open_nil)
records_taken (r ∷ rest) = omega (
  arith,
  sum_by-cons (λ i. 5 + payload_size i) r rest,
  records_taken rest,
  payload_is r,
  entry_len r,
  ap length (open_cons r rest []),
  length-append (open_entries (r ∷ rest)) [],
  length-append (entry r) (open_entries rest ++ []),
  length-append (open_entries rest) [],
)

end_used : (area : AreaState) → end_of area ≡ used_size area.items area.records
end_used area = omega (arith, items_taken area.items, records_taken area.records)

-- what a log that is open takes
pub end_taken : {D : Type 0} (log : LogState D) (used size : ℕ) → used ≡ end_of log.area → used < log.size → HasDiskSize log size → Takes used log.area.items log.area.records
end_taken log used size is within has = (is ∙ end_used log.area, omega (arith, within, has.0.1, has.1))
