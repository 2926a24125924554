use Rattle.std.proofs.Common.{◌≡◌, ◌++◌, drop}
use Rattle.snapshot.specs.Copies.{chunks_of}
use Rattle.snapshot.proofs.plan.chunks_of.Given as goal

-- what is left completes the list
abbrev pub invariant-loop-copy : goal.invariant-loop-copy
invariant-loop-copy l = l.handles.items ++ chunks_of l.table.table (drop l.copy-index l.copies) ≡ chunks_of l.table.table l.copies
