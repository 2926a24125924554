-- The files that a step changes.
use Rattle.std.specs.Prelude.{◌≡◌, ℕ, zero, suc, ◌+◌, ◌-◌, List, [], ◌∷◌, ◌++◌, Option, Some, None, option_map}
use Rattle.std.specs.FinMap as table
use Rattle.chunk_table.specs.Owners.{IsSound}
use Rattle.protocol.specs.Logged.{Logged, LogChange, Copy}
use Rattle.protocol.specs.Tables.{Table}
use Rattle.master_cell.specs.ChangedFiles.{files_changed}
use Rattle.master_state.specs.Follows.{table_of}

-- the file of each copy under way, by the copy's handle
abbrev pub AreFilesOfCopies : Logged → Table ℕ → Type 0
AreFilesOfCopies l copies = (handle : ℕ) → table.get copies handle ≡ option_map (λ (c : Copy). c.file) (table.get l.copies handle)

-- with the file of a copy under way, where there is one under this handle
abbrev pub with_file_of : Table ℕ → ℕ → Option Copy → Table ℕ
with_file_of files handle None = files
with_file_of files handle (Some copy) = table.insert files handle copy.file

-- what is noted of the files before a step
pub record AreFilesOf (l : Logged) (next_file : ℕ) (copies : Table ℕ) : Type 0 where
  pub next_is : next_file ≡ l.next_file
  pub copies_are : AreFilesOfCopies l copies
  pub sound : IsSound (table_of l)

-- so many numbers, from the first on
abbrev pub numbers_from : ℕ → ℕ → List ℕ
numbers_from first zero = []
numbers_from first (suc n) = numbers_from first n ++ (first + n) ∷ []

-- the files that are new, and those that were changed
abbrev pub files_after : ℕ → Table ℕ → ℕ → List LogChange → List ℕ
files_after first copies next changes = numbers_from first (next - first) ++ files_changed copies changes
