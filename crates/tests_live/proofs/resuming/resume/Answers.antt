use Rattle.tests_live.proofs.Parkings.{over_named}
use Rattle.tests_live.proofs.resuming.resume.Goals as goal

pub first_seated-requires : goal.first_seated-requires
first_seated-requires g c = over_named c.in-Ok.cell.of c.args.parked.seats c.in-Ok.seats.items c.in-Ok.ensures.resumed.go_over
