use Rattle.std.proofs.Common.{◌≡◌, ◌+◌, ◌≤◌, ◌++◌, length}
use Rattle.std.specs.Prelude.{map, vec_len, vec_capacity}
use Rattle.std.specs.Vec.Iter.{into_iter_items}
use Rattle.cell_run.proofs.park.seats_of.Given as goal

-- those that came back and those that are left are all, and there is room
abbrev pub invariant-loop-seat : goal.invariant-loop-seat
invariant-loop-seat l = record {
  all : l.seats.items ++ map (λ p. p.seat) (into_iter_items l.seat-iterator) ≡ map (λ p. p.seat) l.fn.parked.items;
  room : vec_len l.seats + length (into_iter_items l.seat-iterator) ≤ vec_capacity l.seats;
}
