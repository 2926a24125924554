use Rattle.std.proofs.Common.{◌≡◌, ℕ}
use Rattle.std.specs.FinMap.{get}
use Rattle.chunk_table.specs.ChunkTable.{known_shape}
use Rattle.master_state.proofs.Ends.{below_changed}
use Rattle.master_state.proofs.lease_ends.know_each.Given as goal

abbrev pub invariant-loop-number : goal.invariant-loop-number
invariant-loop-number l =
    let old = l.initial.table in
    record {
      others : l.table ≡ record old { table = record old.table { shapes = l.table.table.shapes } };
      shapes : (q : ℕ) → get l.table.table.shapes q ≡ below_changed (known_shape l.usual) old.table.shapes l.number q;
    }
