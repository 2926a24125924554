use Rattle.cell_simulator.specs.Steps.{is_of_round}
use Rattle.cell_simulator.proofs.StepLemmas.{on_ok, goes_on, goes_delivering}
use Rattle.cell_simulator.proofs.simulator.Simulator.tick_round.Goals as goal

pub returns-clause-goes : goal.returns-clause-goes
returns-clause-goes g c =
    let servers = goes_delivering _ _ _ _ _ _ _ c.in_ok-tick_servers.ensures.goes c.in_ok-deliver.ensures.goes in
    let master = goes_delivering _ _ _ _ _ _ _ (goes_on _ _ _ _ is_of_round _ _ _ servers c.in_ok-tick.ensures.goes) c.in_ok-deliver-2.ensures.goes in
    on_ok _ _ _ c.deliver-3.ensures.goes (goes_delivering _ _ _ _ _ _ _ (goes_on _ _ _ _ is_of_round _ _ _ master c.in_ok-tick_clients.ensures.goes))
