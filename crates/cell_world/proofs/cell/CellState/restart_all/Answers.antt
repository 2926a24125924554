use Rattle.std.proofs.Common.{arith}
use Rattle.cell_world.proofs.Restarting.{master_began, server_began, all_began}
use Rattle.cell_world.proofs.cell.CellState.restart_all.Goals as goal

pub loop-number-init : goal.loop-number-init
loop-number-init g c = record {
  runs = master_began c.args.self.now c.restart.new.self c.args.now c.restart.ensures;
  most = omega arith;
}

pub loop-number-preserved : goal.loop-number-preserved
loop-number-preserved g c = record {
  runs = server_began c.args.self.now c.loop-number.self c.restart-in-loop-number.new.self c.loop-number.number c.args.now c.loop-number.invariant.runs c.restart-in-loop-number.ensures;
  most = omega (arith, c.loop-number-test.true);
}

pub returns : goal.returns
returns g c =
    all_began c.args.self.now c.loop-number.self c.loop-number.number c.server_count-count.result c.args.now.0
    (omega (arith, c.loop-number.invariant.most, c.loop-number-test.false)) c.server_count-count.ensures c.loop-number.invariant.runs
