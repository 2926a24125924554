-- What holds of every table: a chunk's reference count is the number of its owners, no number is used twice, and each file has a shape (sections 2.6.1 and 3.4).
use Rattle.std.specs.Prelude.{◌≡◌, ℕ, ◌<◌, ◌≤◌, ◌==◌, List, length, Option, Some, None, IfSome, OnSome, is_some, count_by, sum_by}
use Rattle.std.specs.FinMap as map
use Rattle.gfs_types.specs.Counters.{counter_limit}
use Rattle.chunk_table.specs.ChunkTable.{NumberTable, ChunkRow, TableState}

-- a measure of each file's list, added up
abbrev pub total : (List ℕ → ℕ) → NumberTable (List ℕ) → ℕ
total measure files = sum_by (λ e. measure e.1) (map.entries files)

-- how often a handle stands in a list
abbrev pub times : ℕ → List ℕ → ℕ
times handle handles = count_by (λ x. x == handle) handles

-- how often files list a chunk
abbrev pub owners : NumberTable (List ℕ) → ℕ → ℕ
owners files handle = total (times handle) files

-- the owners of all chunks together
abbrev pub all_owners : NumberTable (List ℕ) → ℕ
all_owners files = total (λ handles. length handles) files

abbrev pub references_in : Option ChunkRow → ℕ
references_in None = 0
references_in (Some row) = row.references

-- a chunk's reference count, 0 where there is no such chunk
abbrev pub references_at : NumberTable ChunkRow → ℕ → ℕ
references_at chunks handle = references_in (map.get chunks handle)

-- A chunk's handle was given out, its granted version was issued, and no version passes the counters' limit.
pub record IsSoundRow (next : ℕ) (handle : ℕ) (row : ChunkRow) : Type 0 where
  pub from_one : 1 ≤ handle
  pub given : handle < next
  pub granted_was_issued : row.granted ≤ row.issued
  pub within_limit : row.issued ≤ counter_limit

pub record IsSoundFile (next : ℕ) (file : ℕ) : Type 0 where
  pub from_one : 1 ≤ file
  pub given : file < next

pub record IsSound (s : TableState) : Type 0 where
  pub files : (file : ℕ) → OnSome (map.get s.table.files file) (IsSoundFile s.next_file file)
  pub chunks : (handle : ℕ) → IfSome (map.get s.table.chunks handle) (IsSoundRow s.next_handle handle)
  pub shapes : (file : ℕ) → is_some (map.get s.table.shapes file) ≡ is_some (map.get s.table.files file)
  pub references : (handle : ℕ) → references_at s.table.chunks handle ≡ owners s.table.files handle
  pub next_file_from_one : 1 ≤ s.next_file
  pub next_file_within_limit : s.next_file ≤ counter_limit
  pub next_handle_from_one : 1 ≤ s.next_handle
  pub next_handle_within_limit : s.next_handle ≤ counter_limit
  pub owners_within_limit : all_owners s.table.files ≤ counter_limit
