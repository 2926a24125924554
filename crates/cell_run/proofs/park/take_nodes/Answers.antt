use Rattle.cell_run.proofs.Parking.{as_many}
use Rattle.cell_run.proofs.park.take_nodes.Goals as goal

pub returns-clause-back : goal.returns-clause-back
returns-clause-back g c = (c.requires.none.2, as_many _ _ _ c.park_seats-seats.ensures.seats c.requires.seats.1)
