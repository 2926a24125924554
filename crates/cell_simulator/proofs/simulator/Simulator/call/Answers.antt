use Rattle.std.proofs.Common.{ap, arith}
use Rattle.gfs_types.specs.declared.ids.Moment.{Moment}
use Rattle.cell_simulator.specs.Steps.{is_of_round}
use Rattle.cell_simulator.proofs.StepLemmas.{goes_after, goes_first_of_round, no_rounds, one_round}
use Rattle.cell_simulator.proofs.simulator.Simulator.call.Goals as goal

pub loop-init : goal.loop-init
loop-init g c = record {
  rounds = no_rounds _ _ (ap (λ (x : Moment). x.0) c.in_ok-start.ensures.clock) (omega arith);
  goes = goes_first_of_round _ _ _ _ _ _ c.in_ok-start.ensures.goes;
}

pub loop-preserved : goal.loop-preserved
loop-preserved g c = record {
  rounds = one_round _ _ _ _ c.loop.invariant.rounds c.in_ok-wait.ensures.clock;
  goes = goes_after _ _ _ _ _ is_of_round _ _ _ c.loop.invariant.goes c.in_ok-wait.ensures.goes;
}
