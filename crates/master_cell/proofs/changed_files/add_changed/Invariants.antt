use Rattle.std.proofs.Common.{◌≡◌, ◌++◌, drop}
use Rattle.master_cell.specs.ChangedFiles.{files_changed}
use Rattle.master_plan.specs.Changes.{changes_of}
use Rattle.master_cell.proofs.changed_files.add_changed.Given as goal

abbrev pub invariant-loop-change : goal.invariant-loop-change
invariant-loop-change l = l.files.items ++ files_changed l.copies (changes_of (drop l.change-index l.changes)) ≡ l.fn.files.items ++ files_changed l.copies (changes_of l.changes)
