use Rattle.std.proofs.Common.{◌≡◌, ◌+◌, ◌≤◌, ◌++◌, List, length}
use Rattle.std.specs.Prelude.{All, vec_len, vec_capacity}
use Rattle.std.specs.Vec.Iter.{into_iter_items, into_iter_len}
use Rattle.running_nodes.specs.Seatings.{AllGoOver, IsSeatOf, IsReady}
use Rattle.running_nodes.specs.ParkedSeats.{ParkedSeatState}
use Rattle.running_nodes.proofs.seating.seat_all.Given as goal

-- those before went over, and there is room for the others
abbrev pub invariant-loop-seat : goal.invariant-loop-seat
invariant-loop-seat g l = record {
  ready : IsReady l.seating;
  cell : l.seating.cell ≡ l.fn.seating.cell;
  count : into_iter_len l.seat-iterator ≡ length (into_iter_items l.seat-iterator);
  left : All (IsSeatOf l.fn.seating.cell (length l.fn.seating.cell.base)) (into_iter_items l.seat-iterator);
  over : (done : List ParkedSeatState) × (done ++ into_iter_items l.seat-iterator ≡ l.fn.parked.items) × AllGoOver l.fn.seating.cell done l.seats.items;
  room : vec_len l.seats + length (into_iter_items l.seat-iterator) ≤ vec_capacity l.seats;
}
