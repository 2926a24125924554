-- Files' lists that are copied, and put in the place of other ones.
use Rattle.std.specs.Prelude.{ℕ, List, [], ◌∷◌, map, Option, Some, None}
use Rattle.std.specs.FinMap as finite
use Rattle.chunk_table.specs.ChunkTable.{NumberTable, ChunkTable, file_of}
use Rattle.master_cell.specs.declared.copy.FileCopy.{FileCopy}

-- a file more, where there is one
abbrev pub with_copy_of : NumberTable (List ℕ) → ℕ → Option (List ℕ) → NumberTable (List ℕ)
with_copy_of files file None = files
with_copy_of files file (Some handles) = finite.insert files file handles

-- a file with this list, or gone
abbrev pub with_file_as : NumberTable (List ℕ) → ℕ → Option (List ℕ) → NumberTable (List ℕ)
with_file_as files file None = finite.remove files file
with_file_as files file (Some handles) = finite.insert files file handles

abbrev pub with_list : NumberTable (List ℕ) → FileCopy → NumberTable (List ℕ)
with_list files copy = with_file_as files copy.file.0 copy.handles

-- of two lists for one file the first counts
abbrev pub with_lists : NumberTable (List ℕ) → List FileCopy → NumberTable (List ℕ)
with_lists files [] = files
with_lists files (copy ∷ rest) = with_list (with_lists files rest) copy

abbrev pub copy_of : ChunkTable → ℕ → FileCopy
copy_of t file = record { file = record { 0 = file }; handles = file_of t file }

abbrev pub copies_of : ChunkTable → List ℕ → List FileCopy
copies_of t files = map (copy_of t) files
