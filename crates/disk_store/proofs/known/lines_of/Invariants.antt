use Rattle.std.proofs.Common.{◌≡◌, ◌++◌, map}
use Rattle.std.specs.FinMap.{entries}
use Rattle.disk_store.specs.Known.{row_line}
use Rattle.disk_store.proofs.known.lines_of.Given as goal

-- what is left completes the lines
abbrev pub invariant-loop-handle : goal.invariant-loop-handle
invariant-loop-handle l = l.lines.items ++ map row_line l.handle-iterator ≡ map row_line (entries l.rows)
