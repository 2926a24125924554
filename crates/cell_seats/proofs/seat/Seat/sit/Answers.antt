use Rattle.std.proofs.Common.{ap, ◌∙◌}
use Rattle.cell_seats.specs.Seats.{SeatState}
use Rattle.cell_seats.specs.Seen.{clients_in}
use Rattle.cell_seats.proofs.ParkedSeats.{sits_on}
use Rattle.cell_seats.proofs.seat.Seat.sit.Goals as goal

pub invariant_of-result : goal.invariant_of-result
invariant_of-result g c =
    let was = c.self.inside in
    sits_on c.args.self c.args.slot.node (clients_in 0 c.args.earlier) c.args.slot.view was.view was.count c.requires (c.self.invariant.name ∙ ap (λ (s : SeatState). s.cell.name) c.self.view_is)
    (ap (λ (s : SeatState). s.seen) c.self.view_is) c.self.invariant.count_is
