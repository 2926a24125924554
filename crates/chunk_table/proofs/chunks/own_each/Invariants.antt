use Rattle.std.proofs.Common.{◌≡◌, ℕ, ◌+◌, ◌-◌, ◌≤◌, drop, length}
use Rattle.gfs_types.specs.Counters.{counter_limit}
use Rattle.chunk_table.specs.ChunkTable.{with_owned}
use Rattle.chunk_table.specs.Owners.{references_at}
use Rattle.chunk_table.proofs.chunks.own_each.Given as goal

abbrev pub invariant-loop-handle : goal.invariant-loop-handle
invariant-loop-handle l = record {
  owned : with_owned l.shape l.chunks (drop l.handle-index l.handles) ≡ with_owned l.shape l.fn.chunks l.handles;
  room : (q : ℕ) → references_at l.chunks q + (length l.handles - l.handle-index) ≤ counter_limit;
}
