use Rattle.std.proofs.Common.{◌∙◌}
use Rattle.cell_simulator.specs.Steps.{is_delivery}
use Rattle.cell_simulator.proofs.StepLemmas.{goes_on}
use Rattle.cell_simulator.proofs.simulator.Simulator.see_to_all.Goals as goal

pub loop-preserved : goal.loop-preserved
loop-preserved g c = record {
  clock = c.in_ok-see_to_next.ensures.clock ∙ c.loop.invariant.clock;
  goes = goes_on _ _ _ _ is_delivery _ _ _ c.loop.invariant.goes c.in_ok-see_to_next.ensures.goes;
}

pub returns-then-not-branch-clause-goes : goal.returns-then-not-branch-clause-goes
returns-then-not-branch-clause-goes g c = goes_on _ _ _ _ is_delivery _ _ _ c.loop.invariant.goes c.in_ok-see_to_next.ensures.goes
