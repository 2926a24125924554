use Rattle.std.proofs.Common.{◌≡◌, ◌+◌, ◌≤◌, ◌++◌, length}
use Rattle.std.specs.Prelude.{All, IfSome, map, vec_len, vec_capacity}
use Rattle.std.specs.Vec.Iter.{into_iter_items}
use Rattle.cell_run.proofs.park.park_seats.Given as goal

-- those that were parked and those that are left are all, and there is room
abbrev pub invariant-loop-seat : goal.invariant-loop-seat
invariant-loop-seat g l = record {
  all : map (λ p. p.seat) l.parked.items ++ into_iter_items l.seat-iterator ≡ l.fn.seats.items;
  saw : All (λ p. IfSome p.saw (λ k. k ≡ l.fn.count)) l.parked.items;
  room : vec_len l.parked + length (into_iter_items l.seat-iterator) ≤ vec_capacity l.parked;
}
