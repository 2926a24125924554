use Rattle.std.proofs.Common.{◌≡◌, [], take}
use Rattle.protocol.specs.Logged.{log_changed_by_all}
use Rattle.master_plan.specs.Changes.{changes_of}
use Rattle.master_cell.proofs.commit.commit.Given as goal

-- the changes so far are made, and nothing is under way
abbrev pub invariant-loop-change : goal.invariant-loop-change
invariant-loop-change g l =
    record {
      disk : g.L.OperationLog.disk l.log ≡ log_changed_by_all (g.L.OperationLog.disk l.fn.log) (changes_of (take l.change-index l.changes));
      under_way : g.L.OperationLog.under_way l.log ≡ [];
    }
