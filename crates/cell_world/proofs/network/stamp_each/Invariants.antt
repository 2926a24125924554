use Rattle.std.proofs.Common.{◌≡◌, ◌+◌, ◌++◌, length, take, drop}
use Rattle.protocol.specs.World.{stamped}
use Rattle.cell_world.proofs.network.stamp_each.Given as goal

-- those before this place are stamped, and the rest makes up the list
abbrev pub invariant-loop-place : goal.invariant-loop-place
invariant-loop-place l = record {
  all : take l.place l.messages.items ++ stamped (l.first + l.place) (drop l.place l.messages.items) ≡ stamped l.first l.fn.messages.items;
  count : length l.messages.items ≡ length l.fn.messages.items;
}
