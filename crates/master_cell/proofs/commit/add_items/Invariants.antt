use Rattle.std.proofs.Common.{◌≡◌, ◌<◌, [], true, take}
use Rattle.protocol.specs.LogSizes.{checkpoint_fits}
use Rattle.master_cell.proofs.commit.add_items.Given as goal

-- the items so far are written, and fit
abbrev pub invariant-loop-item : goal.invariant-loop-item
invariant-loop-item g l =
    record {
      writing : g.L.OperationLog.writing l.log ≡ take l.item-index l.items;
      fits : 0 < l.item-index → checkpoint_fits (g.L.OperationLog.log_bytes l.log) (take l.item-index l.items) ≡ true;
      disk : g.L.OperationLog.disk l.log ≡ g.L.OperationLog.disk l.fn.log;
      under_way : g.L.OperationLog.under_way l.log ≡ [];
    }
