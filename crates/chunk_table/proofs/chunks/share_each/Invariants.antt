use Rattle.std.proofs.Common.{◌≡◌, ℕ, ◌+◌, ◌-◌, ◌≤◌, drop, length}
use Rattle.gfs_types.specs.Counters.{counter_limit}
use Rattle.chunk_table.specs.ChunkTable.{share_all}
use Rattle.chunk_table.specs.Owners.{references_at}
use Rattle.chunk_table.proofs.chunks.share_each.Given as goal

abbrev pub invariant-loop-handle : goal.invariant-loop-handle
invariant-loop-handle l = record {
  shared : share_all l.chunks (drop l.handle-index l.handles) ≡ share_all l.fn.chunks l.handles;
  room : (q : ℕ) → references_at l.chunks q + (length l.handles - l.handle-index) ≤ counter_limit;
}
