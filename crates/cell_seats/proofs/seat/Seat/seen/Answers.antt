use Rattle.std.proofs.Common.{subst}
use Rattle.headline.specs.Journals.{AreExplained}
use Rattle.cell_seats.specs.Seats.{SeatState}
use Rattle.cell_seats.proofs.Sitting.{explains}
use Rattle.cell_seats.proofs.Traces.{told_of}
use Rattle.cell_seats.proofs.seat.Seat.seen.Goals as goal

pub returns-clause-explained : goal.returns-clause-explained
returns-clause-explained g c =
    let s = c.self.inside in
    let seat = c.self.invariant in
    subst (λ (x : SeatState). AreExplained x.cell.config x.seen) c.self.view_is (explains s.slot.view.of s.view.items seat.in_range seat.lawful seat.clocks)

pub returns-clause-own : goal.returns-clause-own
returns-clause-own g c = told_of c.args.self.now
