-- The master's files as lists of chunks, each file with its shape, and what it keeps of each chunk (sections 2.6.1, 3.1 and 3.4).
use Rattle.gfs_types.specs.declared.shape.Shape.{Shape}
use Rattle.std.specs.Prelude.{ℕ, ◌+◌, ◌-◌, nat_lt, nat_le, ◌==◌, if◌then◌else◌, List, [], ◌∷◌, ◌++◌, max, Option, Some, None, unwrap_or, slice_set, slice_index, refl}
use Rattle.std.specs.Ordering.{nat_cmp}
use Rattle.std.specs.FinMap as map
use Rattle.std.specs.Coded.{Coded, code_by, coded×, coded_ℕ, coded_list}

-- a finite map from numbers, which stand for files or handles
abbrev pub NumberTable : Type 0 → Type 0
NumberTable X = map.FinMap nat_cmp X

-- A chunk: its file's shape, the granted version (0 if none), the issued version, how often files list it, and its last lease, which ends at that moment.
pub record ChunkRow : Type 0 where
  pub shape : Shape
  pub granted : ℕ
  pub issued : ℕ
  pub references : ℕ
  pub primary : ℕ
  pub members : List ℕ
  pub lease_end : ℕ

abbrev pub coded_shape : Coded Shape
coded_shape = code_by (ℕ × ℕ) (coded× coded_ℕ coded_ℕ) (λ s. (s.chunk, s.goal)) (λ p. record { chunk = p.0; goal = p.1 }) (λ _. refl)

abbrev pub coded_row : Coded ChunkRow
coded_row =
    code_by (Shape × (ℕ × (ℕ × (ℕ × (ℕ × (List ℕ × ℕ)))))) (coded× coded_shape (coded× coded_ℕ (coded× coded_ℕ (coded× coded_ℕ (coded× coded_ℕ (coded× (coded_list coded_ℕ) coded_ℕ))))))
    (λ r. (r.shape, (r.granted, (r.issued, (r.references, (r.primary, (r.members, r.lease_end)))))))
    (λ p. record { shape = p.0; granted = p.1.0; issued = p.1.1.0; references = p.1.1.1.0; primary = p.1.1.1.1.0; members = p.1.1.1.1.1.0; lease_end = p.1.1.1.1.1.1 })
    (λ _. refl)

-- the shape of a file whose shape isn't known: that of a log which doesn't tell it, until the master's opening
abbrev pub no_shape : Shape
no_shape = record { chunk = 0; goal = 0 }

-- a shape that isn't known is the usual one
abbrev pub known_shape : Shape → Shape → Shape
known_shape usual shape = if shape.chunk == 0 then usual else shape

abbrev pub new_row : ChunkRow
new_row = record { shape = no_shape; granted = 0; issued = 0; references = 0; primary = 0; members = []; lease_end = 0 }

-- The handles of each file's chunks, the files' shapes, and the chunks by handle.
pub record ChunkTable : Type 0 where
  pub files : NumberTable (List ℕ)
  pub shapes : NumberTable Shape
  pub chunks : NumberTable ChunkRow

-- The table with the id that the next file takes and the handle that the next chunk takes.
pub record TableState : Type 0 where
  pub table : ChunkTable
  pub next_file : ℕ
  pub next_handle : ℕ

abbrev pub coded_table : Coded TableState
coded_table =
    code_by (NumberTable (List ℕ) × (NumberTable Shape × (NumberTable ChunkRow × (ℕ × ℕ))))
    (coded× (map.code coded_ℕ (coded_list coded_ℕ)) (coded× (map.code coded_ℕ coded_shape) (coded× (map.code coded_ℕ coded_row) (coded× coded_ℕ coded_ℕ))))
    (λ s. (s.table.files, (s.table.shapes, (s.table.chunks, (s.next_file, s.next_handle)))))
    (λ p. record { table = record { files = p.0; shapes = p.1.0; chunks = p.1.1.0 }; next_file = p.1.1.1.0; next_handle = p.1.1.1.1 })
    (λ _. refl)

abbrev pub new_chunk_table : ChunkTable
new_chunk_table = record { files = map.empty; shapes = map.empty; chunks = map.empty }

-- ids and handles count from 1
abbrev pub new_table : TableState
new_table = record { table = new_chunk_table; next_file = 1; next_handle = 1 }

abbrev pub file_of : ChunkTable → ℕ → Option (List ℕ)
file_of t file = map.get t.files file

abbrev pub handles_of : ChunkTable → ℕ → List ℕ
handles_of t file = unwrap_or (file_of t file) []

-- a file's shape
abbrev pub shape_of : ChunkTable → ℕ → Shape
shape_of t file = unwrap_or (map.get t.shapes file) no_shape

abbrev pub chunk_of : ChunkTable → ℕ → Option ChunkRow
chunk_of t handle = map.get t.chunks handle

abbrev pub changed_by : NumberTable ChunkRow → ℕ → (ChunkRow → ChunkRow) → Option ChunkRow → NumberTable ChunkRow
changed_by chunks handle change None = chunks
changed_by chunks handle change (Some row) = map.insert chunks handle (change row)

-- one chunk changes, where there is one
abbrev pub changed_at : NumberTable ChunkRow → ℕ → (ChunkRow → ChunkRow) → NumberTable ChunkRow
changed_at chunks handle change = changed_by chunks handle change (map.get chunks handle)

abbrev pub change_row : ChunkTable → ℕ → (ChunkRow → ChunkRow) → ChunkTable
change_row t handle change = record t { chunks = changed_at t.chunks handle change }

-- a chunk with this row
abbrev pub with_row : ChunkTable → ℕ → ChunkRow → ChunkTable
with_row t handle row = record t { chunks = map.insert t.chunks handle row }

-- one owner more
abbrev pub row_shared : ChunkRow → ChunkRow
row_shared row = record row { references = row.references + 1 }

abbrev pub share_one : NumberTable ChunkRow → ℕ → NumberTable ChunkRow
share_one chunks handle = changed_at chunks handle row_shared

abbrev pub share_all : NumberTable ChunkRow → List ℕ → NumberTable ChunkRow
share_all chunks [] = chunks
share_all chunks (handle ∷ rest) = share_all (share_one chunks handle) rest

abbrev pub row_left : ChunkRow → ChunkRow
row_left row = record row { references = row.references - 1 }

abbrev pub left_by : NumberTable ChunkRow → ℕ → Option ChunkRow → NumberTable ChunkRow
left_by chunks handle None = chunks
left_by chunks handle (Some row) = if nat_le row.references 1 then map.remove chunks handle else map.insert chunks handle (row_left row)

-- one owner less; a chunk that nobody owns goes
abbrev pub leave_one : NumberTable ChunkRow → ℕ → NumberTable ChunkRow
leave_one chunks handle = left_by chunks handle (map.get chunks handle)

abbrev pub leave_all : NumberTable ChunkRow → List ℕ → NumberTable ChunkRow
leave_all chunks [] = chunks
leave_all chunks (handle ∷ rest) = leave_all (leave_one chunks handle) rest

-- a file without chunks
abbrev pub add_file : ChunkTable → ℕ → Shape → ChunkTable
add_file t file shape = record t { files = map.insert t.files file []; shapes = map.insert t.shapes file shape }

-- the row of a new chunk of a file
abbrev pub added_row : ChunkTable → ℕ → ChunkRow
added_row t file = record new_row { shape = shape_of t file; references = 1 }

-- an empty chunk at the file's end
abbrev pub add_chunk : ChunkTable → ℕ → ℕ → ChunkTable
add_chunk t file handle =
    record t { files = map.insert t.files file (handles_of t file ++ handle ∷ []); chunks = map.insert t.chunks handle (added_row t file) }

-- a chunk's shape
abbrev pub shape_in : Option ChunkRow → Shape
shape_in None = no_shape
shape_in (Some row) = row.shape

-- the row of a chunk without owner, of the shape of its source, whose version number was issued
abbrev pub copied_row : ChunkTable → ℕ → ℕ → ChunkRow
copied_row t source version = record new_row { shape = shape_in (chunk_of t source); issued = version }

abbrev pub add_copy : ChunkTable → ℕ → ℕ → ℕ → ChunkTable
add_copy t source handle version = with_row t handle (copied_row t source version)

-- a version number is issued
abbrev pub row_issued : ℕ → ChunkRow → ChunkRow
row_issued version row = record row { issued = version }

abbrev pub issue : ChunkTable → ℕ → ℕ → ChunkTable
issue t handle version = change_row t handle (row_issued version)

-- an issued version gets a primary and its members; the lease's end is set apart
abbrev pub row_granted : ℕ → ℕ → List ℕ → ChunkRow → ChunkRow
row_granted version primary members row =
    record row { granted = version; issued = max row.issued version; primary = primary; members = members; lease_end = 0 }

abbrev pub grant : ChunkTable → ℕ → ℕ → ℕ → List ℕ → ChunkTable
grant t handle version primary members = change_row t handle (row_granted version primary members)

-- versions and the last lease's servers as a checkpoint has them
abbrev pub row_put : ℕ → ℕ → ℕ → List ℕ → ChunkRow → ChunkRow
row_put granted issued primary members row = record row { granted = granted; issued = issued; primary = primary; members = members }

abbrev pub row_ended : ℕ → ChunkRow → ChunkRow
row_ended moment row = record row { lease_end = moment }

-- what a restart makes of a chunk: the lease of one that was granted ends then, and a shape that isn't known is the usual one
abbrev pub row_restarted : ℕ → Shape → ChunkRow → ChunkRow
row_restarted until usual row =
    record row { shape = known_shape usual row.shape; lease_end = if nat_lt 0 row.granted then until else row.lease_end }

abbrev pub set_end : ChunkTable → ℕ → ℕ → ChunkTable
set_end t handle moment = change_row t handle (row_ended moment)

abbrev pub known_by : NumberTable Shape → ℕ → Shape → Option Shape → NumberTable Shape
known_by shapes file usual None = shapes
known_by shapes file usual (Some shape) = map.insert shapes file (known_shape usual shape)

-- one file's shape is known, where there is one
abbrev pub known_at : NumberTable Shape → ℕ → Shape → NumberTable Shape
known_at shapes file usual = known_by shapes file usual (map.get shapes file)

-- a file of the same shape and chunks
abbrev pub copy_file : ChunkTable → ℕ → ℕ → ChunkTable
copy_file t from to = record { files = map.insert t.files to (handles_of t from); shapes = map.insert t.shapes to (shape_of t from); chunks = share_all t.chunks (handles_of t from) }

-- a chunk that a file puts in its list: one owner more, or a new one
abbrev pub owned_row : Shape → Option ChunkRow → ChunkRow
owned_row shape None = record new_row { shape = shape; references = 1 }
owned_row shape (Some row) = row_shared row

abbrev pub own_one : Shape → NumberTable ChunkRow → ℕ → NumberTable ChunkRow
own_one shape rows handle = map.insert rows handle (owned_row shape (map.get rows handle))

abbrev pub with_owned : Shape → NumberTable ChunkRow → List ℕ → NumberTable ChunkRow
with_owned shape rows [] = rows
with_owned shape rows (handle ∷ rest) = with_owned shape (own_one shape rows handle) rest

-- a file with its shape and its list, as a checkpoint has it
abbrev pub put_file : ChunkTable → ℕ → Shape → List ℕ → ChunkTable
put_file t file shape handles =
    record { files = map.insert t.files file handles; shapes = map.insert t.shapes file shape; chunks = with_owned shape t.chunks handles }

-- a file's chunk of this index becomes another one
abbrev pub swap : ChunkTable → ℕ → ℕ → ℕ → ℕ → ChunkTable
swap t file index from to = record t { files = map.insert t.files file (slice_set (handles_of t file) index to); chunks = leave_one (share_one t.chunks to) from }

-- the file goes, and with it each chunk that no other file owns
abbrev pub drop_file : ChunkTable → ℕ → ChunkTable
drop_file t file = record { files = map.remove t.files file; shapes = map.remove t.shapes file; chunks = leave_all t.chunks (handles_of t file) }

-- The state after each call.
abbrev pub with_file : TableState → Shape → TableState
with_file s shape = record { table = add_file s.table s.next_file shape; next_file = s.next_file + 1; next_handle = s.next_handle }

abbrev pub with_chunk : TableState → ℕ → TableState
with_chunk s file = record { table = add_chunk s.table file s.next_handle; next_file = s.next_file; next_handle = s.next_handle + 1 }

abbrev pub with_known_shape : TableState → ℕ → Shape → TableState
with_known_shape s file usual = record s { table = record s.table { shapes = known_at s.table.shapes file usual } }

abbrev pub with_row_changed : TableState → ℕ → (ChunkRow → ChunkRow) → TableState
with_row_changed s handle change = record s { table = change_row s.table handle change }

abbrev pub with_shared : TableState → ℕ → TableState
with_shared s file = record { table = copy_file s.table file s.next_file; next_file = s.next_file + 1; next_handle = s.next_handle }

abbrev pub with_swapped : TableState → ℕ → ℕ → ℕ → TableState
with_swapped s file index to = record s { table = swap s.table file index (slice_index (handles_of s.table file) index) to }

abbrev pub without_file : TableState → ℕ → TableState
without_file s file = record s { table = drop_file s.table file }

abbrev pub with_copy : TableState → ℕ → ℕ → TableState
with_copy s source version = record { table = add_copy s.table source s.next_handle version; next_file = s.next_file; next_handle = s.next_handle + 1 }

abbrev pub without_copy : TableState → ℕ → TableState
without_copy s handle = record s { table = record s.table { chunks = map.remove s.table.chunks handle } }

abbrev pub with_counters : TableState → ℕ → ℕ → TableState
with_counters s next_file next_handle = record s { next_file = next_file; next_handle = next_handle }

abbrev pub with_put_file : TableState → ℕ → Shape → List ℕ → TableState
with_put_file s file shape handles = record s { table = put_file s.table file shape handles }
