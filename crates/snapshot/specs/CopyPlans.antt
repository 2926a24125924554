-- The copy that a write to a shared chunk needs first (section 3.4).
use Rattle.std.specs.Prelude.{ℕ, suc, nat_lt, if◌then◌else◌, Option, Some, None, slice_get}
use Rattle.gfs_types.specs.declared.ids.FileId.{FileId}
use Rattle.gfs_types.specs.declared.ids.Handle.{Handle}
use Rattle.gfs_types.specs.declared.ids.Version.{Version}
use Rattle.chunk_table.specs.ChunkTable.{ChunkRow, TableState, handles_of, chunk_of}
use Rattle.snapshot.specs.declared.copy_plan.CopyPlan.{CopyPlan}

abbrev pub file_id : ℕ → FileId
file_id n = record { 0 = n }

abbrev pub handle_id : ℕ → Handle
handle_id n = record { 0 = n }

abbrev pub version_id : ℕ → Version
version_id n = record { 0 = n }

abbrev pub copy_of_row : TableState → ℕ → ℕ → ℕ → Option ChunkRow → Option CopyPlan
copy_of_row s file index handle None = None
copy_of_row s file index handle (Some row) =
    if nat_lt 1 row.references
    then Some (record { file = file_id file; index = index; source = handle_id handle; copy = handle_id s.next_handle; version = version_id (suc row.issued) })
    else None

abbrev pub copy_of_handle : TableState → ℕ → ℕ → Option ℕ → Option CopyPlan
copy_of_handle s file index None = None
copy_of_handle s file index (Some handle) = copy_of_row s file index handle (chunk_of s.table handle)

-- the copy of a file's chunk that has several owners
abbrev pub copy_of_chunk : TableState → ℕ → ℕ → Option CopyPlan
copy_of_chunk s file index = copy_of_handle s file index (slice_get (handles_of s.table file) index)
