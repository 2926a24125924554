-- What is shown of the files.
use Rattle.std.specs.Prelude.{ℕ, List}
use Rattle.chunk_table.specs.ChunkTable.{NumberTable}
use Rattle.master_cell.specs.Copies.{with_lists}
use Rattle.master_cell.specs.declared.shown.ShownFiles.{ShownFiles}

abbrev pub shown_in : ShownFiles → NumberTable (List ℕ)
shown_in s = with_lists s.files s.late.items
