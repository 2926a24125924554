use Rattle.cell_simulator.proofs.StopLemmas.{stops_endless}
use Rattle.cell_simulator.proofs.run.run_line.Goals as goal

pub returns-in-NoEnd-clause-stops : goal.returns-in-NoEnd-clause-stops
returns-in-NoEnd-clause-stops g c = stops_endless _ _ _ _ _ _ c.args.text.now _ _ c.in-Ok.ensures c.in-NoEnd.is c.in_ok-run.ensures.ends
