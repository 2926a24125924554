-- What the master keeps by its operation log: the log is replayed at a restart, and each change of this state, but for leases' ends and copies that are given up, is the replay of its record (sections 2.6.3 and 4.1).
use Rattle.std.specs.Prelude.{ℕ, ◌+◌, Bool, false, ◌==◌, nat_lt, List, [], ◌∷◌, ◌++◌, map, filter, find, max, Option, Some, None}
use Rattle.std.specs.FinMap as table
use Rattle.gfs_types.specs.declared.refusal.Refusal.{Refusal}
use Rattle.gfs_types.specs.Shapes.{shape_or}
use Rattle.log_records.specs.declared.record.Record.{Record}
use Rattle.log_records.specs.declared.record.Record.TheVariants as log
use Rattle.gfs_types.specs.Paths.{Path}
use Rattle.relaxed_file.specs.Names.{Names, Node, Dir, File, first_names, node_at, copied_entries, with_copies, id_after, id_after_all}
use Rattle.relaxed_file.specs.NameStep.{with_node, hidden}
use Rattle.protocol.specs.Tables.{Table, removed_all}
use Rattle.chunk_table.specs.ChunkTable.{ChunkRow, ChunkTable, no_shape, new_chunk_table, handles_of, shape_of, add_file, add_chunk, add_copy, copy_file, drop_file, change_row, issue, grant, put_file, swap}
use Rattle.protocol.specs.Sending.{client_id, file_id, handle_of, version_of, server_id}

-- A client's last changing name call, and its answer: Done where there is no refusal.
pub record KeptCall : Type 0 where
  pub number : ℕ
  pub refusal : Option Refusal

-- A copy of a shared chunk that is under way under a new handle: for the owner's chunk of this index.
pub record Copy : Type 0 where
  pub file : ℕ
  pub index : ℕ
  pub source : ℕ

pub record Logged : Type 0 where
  pub names : Names
  pub table : ChunkTable
  pub next_file : ℕ
  pub next_handle : ℕ
  pub epoch : ℕ
  pub kept : Table KeptCall
  -- by the new handle
  pub copies : Table Copy

-- an empty log
abbrev pub first_logged : Logged
first_logged = record { names = first_names; table = new_chunk_table; next_file = 1; next_handle = 1; epoch = 0; kept = table.empty; copies = table.empty }

abbrev pub with_answer : Logged → ℕ → ℕ → Option Refusal → Logged
with_answer l client number refusal = record l { kept = table.insert l.kept client (record { number = number; refusal = refusal }) }

-- copies are given up; their chunks were never a file's
abbrev pub copies_given_up : Logged → List ℕ → Logged
copies_given_up l handles = record l { copies = removed_all l.copies handles; table = record l.table { chunks = removed_all l.table.chunks handles } }

-- each copy under way is given up
abbrev pub all_copies_given_up : Logged → Logged
all_copies_given_up l = copies_given_up l (table.keys l.copies)

-- the handles of the copies that pass a test
abbrev pub copies_that : Logged → (Copy → Bool) → List ℕ
copies_that l test = map (λ e. e.0) (filter (λ e. test e.1) (table.entries l.copies))

-- the copies for this file
abbrev pub copies_for_file : Logged → ℕ → List ℕ
copies_for_file l file = copies_that l (λ c. c.file == file)

abbrev pub is_this_file : ℕ → Node → Bool
is_this_file file Dir = false
is_this_file file (File id) = id == file

abbrev pub name_removed : Names → Option (Path × Node) → Names
name_removed names None = names
name_removed names (Some e) = table.remove names e.0

-- the names without the one of this file
abbrev pub without_file : Names → ℕ → Names
without_file names file = name_removed names (find (λ e. is_this_file file e.1) (table.entries names))

-- A copied file has the same chunks, each with one owner more. A directory needs none.
abbrev pub with_copied_node : ChunkTable → ℕ → Node → ChunkTable
with_copied_node t next Dir = t
with_copied_node t next (File id) = copy_file t id next

abbrev pub with_copied_nodes : ChunkTable → ℕ → List (Path × Node) → ChunkTable
with_copied_nodes t next [] = t
with_copied_nodes t next (e ∷ rest) = with_copied_nodes (with_copied_node t next e.1) (id_after next e.1) rest

-- a snapshot: the source's name and each below it is copied, and the chunks are shared (section 3.4)
abbrev pub snapshot_logged : Logged → List (Path × Node) → Logged
snapshot_logged l copies =
    record l { names = with_copies l.names l.next_file copies; table = with_copied_nodes l.table l.next_file copies; next_file = id_after_all l.next_file copies }

-- The copy's chunk takes the place of the shared one at its grant.
abbrev pub swapped_in : Logged → ℕ → Option Copy → Logged
swapped_in l handle None = l
swapped_in l handle (Some c) = record l { table = swap l.table c.file c.index c.source handle; copies = table.remove l.copies handle }

-- the state after a record or an item
abbrev pub after_record : Logged → Record → Logged
after_record l (log.Epoch epoch) = record l { epoch = epoch }
after_record l (log.Mkdir client n path) = with_answer (record l { names = table.insert l.names path Dir }) client.0 n None
after_record l (log.Rmdir client n path) = with_answer (record l { names = table.remove l.names path }) client.0 n None
after_record l (log.Create client n file shape path) =
    with_answer (record l { names = table.insert l.names path (File file.0); table = add_file l.table file.0 (shape_or no_shape shape); next_file = max l.next_file (file.0 + 1) }) client.0 n None
after_record l (log.Delete client n moment path) = with_answer (record l { names = hidden l.names path moment.0 (node_at l.names path) }) client.0 n None
after_record l (log.Rename client n from to) = with_answer (record l { names = with_node (table.remove l.names from) to (node_at l.names from) }) client.0 n None
after_record l (log.Snapshot client n from to) = with_answer (snapshot_logged l (copied_entries l.names from to)) client.0 n None
after_record l (log.Refused client n refusal) = with_answer l client.0 n (Some refusal)
after_record l (log.Expired file) =
    let rest : Logged = copies_given_up l (copies_for_file l file.0) in
    record rest { names = without_file l.names file.0; table = drop_file rest.table file.0 }
after_record l (log.AddChunk file handle) = record l { table = add_chunk l.table file.0 handle.0; next_handle = max l.next_handle (handle.0 + 1) }
after_record l (log.Issue handle version) = record l { table = issue l.table handle.0 version.0 }
after_record l (log.Grant handle version primary members) =
    swapped_in (record l { table = grant l.table handle.0 version.0 primary.0 members }) handle.0 (table.get l.copies handle.0)
after_record l (log.CopyStart file index handle copy copy_version) =
    record l {
      table = add_copy l.table handle.0 copy.0 copy_version.0;
      next_handle = max l.next_handle (copy.0 + 1);
      copies = table.insert l.copies copy.0 (record { file = file.0; index = index; source = handle.0 });
    }
after_record l (log.Counters next_file next_handle epoch) = record l { next_file = next_file.0; next_handle = next_handle.0; epoch = epoch }
after_record l (log.DirItem path) = record l { names = table.insert l.names path Dir }
after_record l (log.FileItem path file shape handles) =
    record l { names = table.insert l.names path (File file.0); table = put_file l.table file.0 (shape_or no_shape shape) handles }
after_record l (log.ChunkItem handle granted issued primary members) =
    record l { table = change_row l.table handle.0 (λ row. record row { granted = granted.0; issued = issued.0; primary = primary.0; members = members }) }
after_record l (log.ClientItem client n refusal) = with_answer l client.0 n refusal

abbrev pub after_records : Logged → List Record → Logged
after_records l [] = l
after_records l (r ∷ rest) = after_records (after_record l r) rest

-- The master's disk: the last checkpoint's items, and the records after it.
pub record LogDisk : Type 0 where
  pub items : List Record
  pub records : List Record

abbrev pub new_log : LogDisk
new_log = record { items = []; records = [] }

-- what a log says; a copy without a grant is given up
abbrev pub replayed : LogDisk → Logged
replayed disk = all_copies_given_up (after_records (after_records first_logged disk.items) disk.records)

-- one change of the master's disk; a stop leaves the disk before it or after it
pub data LogChange : Type 0 where
  AppendRecord : (entry : Record) → LogChange
  WriteCheckpoint : (items : List Record) → LogChange

abbrev pub log_changed : LogDisk → LogChange → LogDisk
log_changed d (AppendRecord entry) = record d { records = d.records ++ entry ∷ [] }
log_changed d (WriteCheckpoint items) = record { items = items; records = [] }

abbrev pub log_changed_by_all : LogDisk → List LogChange → LogDisk
log_changed_by_all d [] = d
log_changed_by_all d (change ∷ rest) = log_changed_by_all (log_changed d change) rest

abbrev pub node_item : ChunkTable → Path → Node → Record
node_item t path Dir = log.DirItem path
node_item t path (File id) = log.FileItem path (file_id id) (Some (shape_of t id)) (handles_of t id)

-- the item of a name
abbrev pub name_item : ChunkTable → Path × Node → Record
name_item t e = node_item t e.0 e.1

abbrev pub chunk_item : ℕ × ChunkRow → Record
chunk_item e = log.ChunkItem (handle_of e.0) (version_of e.1.granted) (version_of e.1.issued) (server_id e.1.primary) e.1.members

abbrev pub client_item : ℕ × KeptCall → Record
client_item e = log.ClientItem (client_id e.0) e.1.number e.1.refusal

-- A checkpoint of the state: counters, names by path bytes, owned chunks by handle, clients.
abbrev pub checkpoint_of : Logged → List Record
checkpoint_of l =
    log.Counters (file_id l.next_file) (handle_of l.next_handle) l.epoch
    ∷ (map (name_item l.table) (table.entries l.names)
    ++ map chunk_item (filter (λ e. nat_lt 0 e.1.references) (table.entries l.table.chunks))
    ++ map client_item (table.entries l.kept))
