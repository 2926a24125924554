use Rattle.std.proofs.Common.{◌≡◌, ◌++◌, drop}
use Rattle.master_cell.specs.Copies.{copies_of}
use Rattle.master_cell.proofs.copy.copies_of.Given as goal

abbrev pub invariant-loop-file : goal.invariant-loop-file
invariant-loop-file l = l.copies.items ++ copies_of l.table.table (drop l.file-index l.files) ≡ copies_of l.table.table l.files
