-- What a snapshot copies and shares (section 3.4).
use Rattle.std.specs.Prelude.{ℕ, Bool, true, ◌==◌, ◌&&◌, nat_lt, if◌then◌else◌, List, [], ◌∷◌, ◌++◌, map, filter, flat_map, length, drop, Option, Some, None, is_none}
use Rattle.std.specs.List.{list_all}
use Rattle.gfs_types.specs.Paths.{Path, is_path, is_at_or_below}
use Rattle.relaxed_file.specs.Names.{Names, Node, Dir, File, copied_entries}
use Rattle.chunk_table.specs.ChunkTable.{ChunkRow, ChunkTable, TableState, handles_of, chunk_of, with_shared}
use Rattle.chunk_table.specs.Refusals.{share_refusal}
use Rattle.leases.specs.LeaseEnds.{has_ended}

-- those of these entries that lie at `from` or below it, with `to` in its place
abbrev pub moved : Path → Path → List (Path × Node) → List (Path × Node)
moved from to es = map (λ e. (to ++ drop (length from) e.0, e.1)) (filter (λ e. is_at_or_below from e.0) es)

-- a list that rises, with one more number in its place
abbrev pub with_number : List ℕ → ℕ → List ℕ
with_number [] n = n ∷ []
with_number (x ∷ xs) n = if x == n then x ∷ xs else (if nat_lt n x then n ∷ x ∷ xs else x ∷ with_number xs n)

-- the same numbers in rising order, each once
abbrev pub rising : List ℕ → List ℕ
rising [] = []
rising (x ∷ xs) = with_number (rising xs) x

abbrev pub node_files : Node → List ℕ
node_files Dir = []
node_files (File id) = id ∷ []

abbrev pub node_chunks : ChunkTable → Node → List ℕ
node_chunks t Dir = []
node_chunks t (File id) = handles_of t id

-- A snapshot: the names that it adds, in the order of their paths, each file still under the id that it is copied from; the files in that order; and their chunks in rising number, each once.
pub record SnapshotState : Type 0 where
  pub copies : List (Path × Node)
  pub files : List ℕ
  pub chunks : List ℕ

-- the files of these names
abbrev pub files_of : List (Path × Node) → List ℕ
files_of copies = flat_map (λ e. node_files e.1) copies

-- their chunks, by file
abbrev pub chunks_of : ChunkTable → List (Path × Node) → List ℕ
chunks_of t copies = flat_map (λ e. node_chunks t e.1) copies

abbrev pub snapshot_by : ChunkTable → List (Path × Node) → SnapshotState
snapshot_by t copies = record { copies = copies; files = files_of copies; chunks = rising (chunks_of t copies) }

-- what a snapshot of `from` at `to` is about
abbrev pub snapshot_of : Names → ChunkTable → Path → Path → SnapshotState
snapshot_of names t from to = snapshot_by t (copied_entries names from to)

abbrev pub are_paths : List (Path × Node) → Bool
are_paths copies = list_all (λ e. is_path e.0) copies

-- whether no lease of a chunk runs
abbrev pub is_closed : ℕ → Option ChunkRow → Bool
is_closed now None = true
is_closed now (Some row) = has_ended row now

-- each of these chunks is closed
abbrev pub are_closed : ChunkTable → ℕ → List ℕ → Bool
are_closed t now handles = list_all (λ handle. is_closed now (chunk_of t handle)) handles

abbrev pub is_node_closed : ChunkTable → ℕ → Node → Bool
is_node_closed t now node = are_closed t now (node_chunks t node)

-- each chunk of each file that is copied is closed, as the table stands
abbrev pub are_all_closed : ChunkTable → ℕ → List (Path × Node) → Bool
are_all_closed t now copies = list_all (λ e. is_node_closed t now e.1) copies

-- a copied file gets the next id, the same shape and the same chunks, each with one owner more; a directory needs nothing
abbrev pub with_node_shared : TableState → Node → TableState
with_node_shared s Dir = s
with_node_shared s (File id) = with_shared s id

abbrev pub with_all_shared : TableState → List (Path × Node) → TableState
with_all_shared s [] = s
with_all_shared s (e ∷ rest) = with_all_shared (with_node_shared s e.1) rest

abbrev pub may_share : TableState → Node → Bool
may_share s Dir = true
may_share s (File id) = is_none (share_refusal s id)

-- each copied file can be shared after those before it
abbrev pub may_share_all : TableState → List (Path × Node) → Bool
may_share_all s [] = true
may_share_all s (e ∷ rest) = may_share s e.1 && may_share_all (with_node_shared s e.1) rest
