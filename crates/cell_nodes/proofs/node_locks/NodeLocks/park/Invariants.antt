use Rattle.std.proofs.Common.{◌≡◌, ◌+◌, ◌-◌, ◌≤◌, length, take}
use Rattle.std.specs.Prelude.{map, All, vec_len, vec_capacity}
use Rattle.std.specs.Arc.{arc_value}
use Rattle.cell_seats.specs.ParkedNodes.{name_of, HasSeenAll}
use Rattle.cell_nodes.proofs.node_locks.NodeLocks.park.Given as goal

-- so many servers are out of their locks
abbrev pub invariant-loop-lock : goal.invariant-loop-lock
invariant-loop-lock g l = record {
  names : map name_of l.parked.items ≡ map arc_value (take l.lock-index l.lock-items);
  seen : All (λ p. HasSeenAll p.cell l.count p) l.parked.items;
  room : vec_len l.parked + (length l.lock-items - l.lock-index) ≤ vec_capacity l.parked;
}
