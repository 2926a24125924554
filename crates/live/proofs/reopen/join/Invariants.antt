use Rattle.std.proofs.Common.{◌≡◌, ◌+◌, ◌≤◌, ◌++◌, length}
use Rattle.std.specs.Prelude.{vec_len, vec_capacity}
use Rattle.std.specs.Vec.Iter.{into_iter_items}
use Rattle.live.specs.Playing.{seated}
use Rattle.live.proofs.reopen.join.Given as goal

-- those that have their seats and those that are left are all, and there is room
abbrev pub invariant-loop-rest : goal.invariant-loop-rest
invariant-loop-rest l = record {
  all : l.players.items ++ seated (into_iter_items l.rest-iterator) (into_iter_items l.left) ≡ seated l.fn.rests.items l.fn.seats.items;
  count : length (into_iter_items l.left) ≡ length (into_iter_items l.rest-iterator);
  room : vec_len l.players + length (into_iter_items l.rest-iterator) ≤ vec_capacity l.players;
}
