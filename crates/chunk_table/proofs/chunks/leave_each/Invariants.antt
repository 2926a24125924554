use Rattle.std.proofs.Common.{◌≡◌, drop}
use Rattle.chunk_table.specs.ChunkTable.{leave_all}
use Rattle.chunk_table.proofs.chunks.leave_each.Given as goal

abbrev pub invariant-loop-handle : goal.invariant-loop-handle
invariant-loop-handle l = leave_all l.chunks (drop l.handle-index l.handles) ≡ leave_all l.fn.chunks l.handles
