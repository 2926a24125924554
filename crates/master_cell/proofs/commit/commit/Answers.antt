use Rattle.std.proofs.Common.{rules}
use Rattle.master_cell.proofs.Committing.{changes_more, stopped_at}
use Rattle.master_cell.proofs.commit.commit.Goals as goal

pub loop-change-preserved : goal.loop-change-preserved
loop-change-preserved g c =
    record {
      disk = changes_more (g.L.OperationLog.disk c.args.log.now) c.args.changes.now c.loop-change.change-index c.change-item.result (g.L.OperationLog.disk c.loop-change.log) (g.L.OperationLog.disk c.make.new.log) (search rules)
          c.change-item.is c.loop-change.invariant.disk (search rules);
      under_way = search rules;
    }

pub returns-in-Err-clause-err : goal.returns-in-Err-clause-err
returns-in-Err-clause-err g c =
    stopped_at (g.L.OperationLog.disk c.args.log.now) c.args.changes.now c.loop-change.change-index c.change-item.result (g.L.OperationLog.disk c.loop-change.log) (g.L.OperationLog.disk c.make.new.log)
    (g.L.OperationLog.under_way c.make.new.log) (search rules) c.change-item.is c.loop-change.invariant.disk c.in-Err.ensures.err c.in-Err.ensures.begun
