use Rattle.tests_live.proofs.Parkings.{one_of_name, keeps_name}
use Rattle.tests_live.proofs.resuming.park.Goals as goal

pub park-requires : goal.park-requires
park-requires g c = one_of_name c.args.seated.cell.of c.in-Some.seats.items c.args.seated.seat c.in-Some.ensures c.args.seated.of

pub park_again-requires : goal.park_again-requires
park_again-requires g c =
    let seats = c.in-Some.seats.items in
    keeps_name c.args.seated.cell seats c.in-Err.fault c.in-Err.ensures.fault
    (one_of_name c.args.seated.cell.of seats c.args.seated.seat c.in-Some.ensures c.args.seated.of)
