use Rattle.tests_live.proofs.Parkings.{last_named}
use Rattle.tests_live.proofs.resuming.first_seated.Goals as goal

pub invariant_of-seated : goal.invariant_of-seated
invariant_of-seated c =
    record { of = last_named c.args.cell.of c.args.seats.items c.pop.new.self.items c.pop.result c.in-Some.seat c.pop.ensures.items c.in-Some.is c.requires }
