use Rattle.std.proofs.Common.{refl, arith}
use Rattle.cell_simulator.specs.Steps.{is_of_round}
use Rattle.cell_simulator.proofs.StepLemmas.{goes_on, goes_nothing, no_rounds, one_round}
use Rattle.cell_simulator.proofs.simulator.Simulator.finish.Goals as goal

pub loop-init : goal.loop-init
loop-init g c = record { rounds = no_rounds _ _ refl (omega arith); goes = goes_nothing _ _ is_of_round _ }

pub loop-preserved : goal.loop-preserved
loop-preserved g c = record {
  rounds = one_round _ _ _ _ c.loop.invariant.rounds c.in_ok-wait.ensures.clock;
  goes = goes_on _ _ _ _ is_of_round _ _ _ c.loop.invariant.goes c.in_ok-wait.ensures.goes;
}
