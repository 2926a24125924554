use Rattle.std.proofs.Common.{ap, ◌∙◌}
use Rattle.cell_run.specs.Cells.{CellState}
use Rattle.tests_live.proofs.resuming.make_clients.Goals as goal

pub loop-preserved : goal.loop-preserved
loop-preserved c = ap (λ (x : CellState). x.of) c.in-Ok.ensures.ok.1 ∙ c.loop.invariant
