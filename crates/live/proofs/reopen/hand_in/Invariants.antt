use Rattle.std.proofs.Common.{◌≡◌, ◌≤◌, ◌++◌, [], length, map}
use Rattle.std.specs.Prelude.{vec_capacity}
use Rattle.std.specs.Vec.Iter.{into_iter_items}
use Rattle.live.specs.Playing.{rest_of}
use Rattle.live.proofs.reopen.hand_in.Given as goal

-- those that were taken apart and those that are left are all
abbrev pub invariant-loop-player : goal.invariant-loop-player
invariant-loop-player l = record {
  rests : l.handed.rests.items ++ map rest_of (into_iter_items l.player-iterator) ≡ map rest_of l.fn.players.items;
  seats : l.handed.seats.items ++ map (λ p. p.seat) (into_iter_items l.player-iterator) ≡ map (λ p. p.seat) l.fn.players.items;
  room : (l.handed.room.items ≡ []) × (length l.fn.players.items ≤ vec_capacity l.handed.room);
}
