-- Whether a record follows a state: the master writes it there. Each record of a lawful log follows what is before it.
use Rattle.std.specs.Prelude.{ℕ, ◌+◌, Bool, true, ◌==◌, ◌&&◌, nat_lt, List, [], ◌∷◌, length, slice_index, find, Option, Some, None, is_none}
use Rattle.std.specs.List.{list_all}
use Rattle.std.specs.FinMap as table
use Rattle.gfs_types.specs.Paths.{Path, is_path}
use Rattle.relaxed_file.specs.Names.{Node, Dir, File, copied_entries}
use Rattle.log_records.specs.declared.record.Record.{Record}
use Rattle.log_records.specs.declared.record.Record.TheVariants as log
use Rattle.gfs_types.specs.Counters.{counter_limit}
use Rattle.chunk_table.specs.ChunkTable.{ChunkRow, ChunkTable, TableState, chunk_of, handles_of, grant}
use Rattle.chunk_table.specs.Refusals.{add_chunk_refusal, start_copy_refusal, share_refusal, counters_refusal, put_file_refusal, put_row_refusal_of, swap_refusal, version_after}
use Rattle.protocol.specs.Logged.{Logged, Copy, is_this_file, copies_for_file, snapshot_logged}

-- the chunk table with its counters
abbrev pub table_of : Logged → TableState
table_of l = record { table = l.table; next_file = l.next_file; next_handle = l.next_handle }

-- The next number is issued. A chunk that is gone takes any.
abbrev pub issue_follows : ℕ → Option ChunkRow → Bool
issue_follows version None = true
issue_follows version (Some row) = (version == row.issued + 1) && nat_lt row.issued counter_limit

-- The number that was issued last is granted, once. A chunk that is gone takes any.
abbrev pub grant_follows : ℕ → Option ChunkRow → Bool
grant_follows version None = true
grant_follows version (Some row) = (row.issued == version) && nat_lt row.granted version

-- whether this handle stands at that place
abbrev pub is_at_index : List ℕ → ℕ → ℕ → Bool
is_at_index handles index handle = nat_lt index (length handles) && (slice_index handles index == handle)

-- The chunk that is copied is still its file's, and the copy is there and nobody's.
abbrev pub swap_follows : TableState → ℕ → Option Copy → Bool
swap_follows s handle None = true
swap_follows s handle (Some c) = is_at_index (handles_of s.table c.file) c.index c.source && is_none (swap_refusal s c.file c.index handle)

-- A granted version was issued. A chunk that is gone takes any.
abbrev pub item_follows : ℕ → ℕ → Option ChunkRow → Bool
item_follows granted issued None = true
item_follows granted issued (Some row) = is_none (put_row_refusal_of granted issued (Some row))

-- no file owns it; a chunk that is gone has no owner
abbrev pub is_unowned : Option ChunkRow → Bool
is_unowned None = true
is_unowned (Some row) = row.references == 0

-- No file owns one of these chunks.
abbrev pub are_unowned : ChunkTable → List ℕ → Bool
are_unowned t handles = list_all (λ handle. is_unowned (chunk_of t handle)) handles

-- The name that goes, where there is one, is a path.
abbrev pub is_name_path : Option (Path × Node) → Bool
is_name_path None = true
is_name_path (Some e) = is_path e.0

-- the first name of this file, in the order of the paths
abbrev pub name_of_file : Logged → ℕ → Option (Path × Node)
name_of_file l file = find (λ e. is_this_file file e.1) (table.entries l.names)

abbrev pub node_follows : TableState → Node → Bool
node_follows s Dir = true
node_follows s (File id) = is_none (share_refusal s id)

-- A snapshot's copies: each has a path, and its file can be shared after those before it.
abbrev pub copies_follow : Logged → List (Path × Node) → Bool
copies_follow l [] = true
copies_follow l (e ∷ rest) = is_path e.0 && node_follows (table_of l) e.1 && copies_follow (snapshot_logged l (e ∷ [])) rest

abbrev pub follows : Logged → Record → Bool
follows l (log.Mkdir client call path) = is_path path
follows l (log.Rmdir client call path) = is_path path
follows l (log.Create client call file shape path) = is_path path && (file.0 == l.next_file) && nat_lt l.next_file counter_limit
follows l (log.Delete client call moment path) = is_path path
follows l (log.Rename client call from to) = is_path from && is_path to
follows l (log.Snapshot client call from to) = is_path from && is_path to && copies_follow l (copied_entries l.names from to)
follows l (log.Expired file) = are_unowned l.table (copies_for_file l file.0) && is_name_path (name_of_file l file.0)
follows l (log.AddChunk file handle) = (handle.0 == l.next_handle) && is_none (add_chunk_refusal (table_of l) file.0)
follows l (log.Issue handle version) = issue_follows version.0 (chunk_of l.table handle.0)
follows l (log.Grant handle version primary members) =
    grant_follows version.0 (chunk_of l.table handle.0)
    && swap_follows (record (table_of l) { table = grant l.table handle.0 version.0 primary.0 members }) handle.0 (table.get l.copies handle.0)
follows l (log.CopyStart file index handle copy copy_version) =
    (copy.0 == l.next_handle) && is_none (start_copy_refusal (table_of l) handle.0) && (copy_version.0 == version_after (chunk_of l.table handle.0))
follows l (log.Counters next_file next_handle epoch) = is_none (counters_refusal (table_of l) next_file.0 next_handle.0)
follows l (log.DirItem path) = is_path path
follows l (log.FileItem path file shape handles) = is_path path && is_none (put_file_refusal (table_of l) file.0 handles)
follows l (log.ChunkItem handle granted issued primary members) = item_follows granted.0 issued.0 (chunk_of l.table handle.0)
follows l other = true
