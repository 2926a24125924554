use Rattle.std.proofs.Common.{◌≡◌, ℕ}
use Rattle.std.specs.FinMap.{get}
use Rattle.chunk_table.specs.ChunkTable.{row_restarted}
use Rattle.master_state.proofs.Ends.{below_changed}
use Rattle.master_state.proofs.lease_ends.restart_each.Given as goal

abbrev pub invariant-loop-number : goal.invariant-loop-number
invariant-loop-number l =
    let old = l.initial.table in
    record {
      others : l.table ≡ record old { table = record old.table { chunks = l.table.table.chunks } };
      chunks : (q : ℕ) → get l.table.table.chunks q ≡ below_changed (row_restarted l.until.0 l.usual) old.table.chunks l.number q;
    }
