use Rattle.std.proofs.Common.{◌≡◌, ◌++◌, map}
use Rattle.std.specs.FinMap.{entries}
use Rattle.store_disk.specs.Index.{row_in}
use Rattle.store_disk.proofs.index.SlotIndex.list.Given as goal

-- what is left completes the rows
abbrev pub invariant-loop-handle : goal.invariant-loop-handle
invariant-loop-handle l = l.rows.items ++ map row_in l.handle-iterator ≡ map row_in (entries l.self.held)
