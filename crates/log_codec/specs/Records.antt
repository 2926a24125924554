-- Reading a record or an item: the tag says which fields follow.
use Rattle.std.specs.Prelude.{ℕ, List, [], ◌∷◌, Option, None, Some, ◌==◌, if◌then◌else◌}
use Rattle.log_records.specs.declared.record.Record.{Record}
use Rattle.log_records.specs.declared.record.Record.TheVariants as log
use Rattle.log_codec.specs.Reading.{number_at, index_at, server_at, path_at, members_at, handles_at, shape_at, refusal_at, outcome_at, both, all_of}

unfoldable pub epoch_in : List ℕ → Option Record
epoch_in = all_of number_at log.Epoch

unfoldable pub mkdir_in : List ℕ → Option Record
mkdir_in = all_of (both (both number_at number_at) path_at) (λ x. log.Mkdir (record { 0 = x.0.0 }) x.0.1 x.1)

unfoldable pub rmdir_in : List ℕ → Option Record
rmdir_in = all_of (both (both number_at number_at) path_at) (λ x. log.Rmdir (record { 0 = x.0.0 }) x.0.1 x.1)

unfoldable pub create_in : List ℕ → Option Record
create_in = all_of (both (both (both number_at number_at) number_at) path_at)
    (λ x. log.Create (record { 0 = x.0.0.0 }) x.0.0.1 (record { 0 = x.0.1 }) None x.1)

unfoldable pub shaped_create_in : List ℕ → Option Record
shaped_create_in = all_of (both (both (both (both number_at number_at) number_at) shape_at) path_at)
    (λ x. log.Create (record { 0 = x.0.0.0.0 }) x.0.0.0.1 (record { 0 = x.0.0.1 }) (Some x.0.1) x.1)

unfoldable pub delete_in : List ℕ → Option Record
delete_in = all_of (both (both (both number_at number_at) number_at) path_at)
    (λ x. log.Delete (record { 0 = x.0.0.0 }) x.0.0.1 (record { 0 = x.0.1 }) x.1)

unfoldable pub rename_in : List ℕ → Option Record
rename_in = all_of (both (both (both number_at number_at) path_at) path_at) (λ x. log.Rename (record { 0 = x.0.0.0 }) x.0.0.1 x.0.1 x.1)

unfoldable pub snapshot_in : List ℕ → Option Record
snapshot_in = all_of (both (both (both number_at number_at) path_at) path_at) (λ x. log.Snapshot (record { 0 = x.0.0.0 }) x.0.0.1 x.0.1 x.1)

unfoldable pub refused_in : List ℕ → Option Record
refused_in = all_of (both (both number_at number_at) refusal_at) (λ x. log.Refused (record { 0 = x.0.0 }) x.0.1 x.1)

unfoldable pub expired_in : List ℕ → Option Record
expired_in = all_of number_at (λ x. log.Expired (record { 0 = x }))

unfoldable pub add_chunk_in : List ℕ → Option Record
add_chunk_in = all_of (both number_at number_at) (λ x. log.AddChunk (record { 0 = x.0 }) (record { 0 = x.1 }))

unfoldable pub issue_in : List ℕ → Option Record
issue_in = all_of (both number_at number_at) (λ x. log.Issue (record { 0 = x.0 }) (record { 0 = x.1 }))

unfoldable pub grant_in : List ℕ → Option Record
grant_in = all_of (both (both (both number_at number_at) server_at) members_at)
    (λ x. log.Grant (record { 0 = x.0.0.0 }) (record { 0 = x.0.0.1 }) (record { 0 = x.0.1 }) x.1)

unfoldable pub copy_start_in : List ℕ → Option Record
copy_start_in = all_of (both (both (both (both number_at index_at) number_at) number_at) number_at)
    (λ x. log.CopyStart (record { 0 = x.0.0.0.0 }) x.0.0.0.1 (record { 0 = x.0.0.1 }) (record { 0 = x.0.1 }) (record { 0 = x.1 }))

unfoldable pub counters_in : List ℕ → Option Record
counters_in = all_of (both (both number_at number_at) number_at) (λ x. log.Counters (record { 0 = x.0.0 }) (record { 0 = x.0.1 }) x.1)

unfoldable pub dir_in : List ℕ → Option Record
dir_in = all_of path_at log.DirItem

unfoldable pub file_in : List ℕ → Option Record
file_in = all_of (both (both path_at number_at) handles_at) (λ x. log.FileItem x.0.0 (record { 0 = x.0.1 }) None x.1)

unfoldable pub shaped_file_in : List ℕ → Option Record
shaped_file_in = all_of (both (both (both path_at number_at) shape_at) handles_at) (λ x. log.FileItem x.0.0.0 (record { 0 = x.0.0.1 }) (Some x.0.1) x.1)

unfoldable pub chunk_in : List ℕ → Option Record
chunk_in = all_of (both (both (both (both number_at number_at) number_at) server_at) members_at)
    (λ x. log.ChunkItem (record { 0 = x.0.0.0.0 }) (record { 0 = x.0.0.0.1 }) (record { 0 = x.0.0.1 }) (record { 0 = x.0.1 }) x.1)

unfoldable pub client_in : List ℕ → Option Record
client_in = all_of (both (both number_at number_at) outcome_at) (λ x. log.ClientItem (record { 0 = x.0.0 }) x.0.1 x.1)

unfoldable pub record_tagged : ℕ → List ℕ → Option Record
record_tagged tag rest =
    if tag == 1 then epoch_in rest else
    if tag == 2 then mkdir_in rest else
    if tag == 3 then rmdir_in rest else
    if tag == 4 then create_in rest else
    if tag == 5 then delete_in rest else
    if tag == 6 then rename_in rest else
    if tag == 7 then snapshot_in rest else
    if tag == 8 then refused_in rest else
    if tag == 9 then expired_in rest else
    if tag == 10 then add_chunk_in rest else
    if tag == 11 then issue_in rest else
    if tag == 12 then grant_in rest else
    if tag == 13 then copy_start_in rest else
    if tag == 15 then shaped_create_in rest else
    if tag == 20 then counters_in rest else
    if tag == 21 then dir_in rest else
    if tag == 22 then file_in rest else
    if tag == 23 then chunk_in rest else
    if tag == 24 then client_in rest else
    if tag == 25 then shaped_file_in rest else None

unfoldable pub record_in : List ℕ → Option Record
record_in [] = None
record_in (tag ∷ rest) = record_tagged tag rest
