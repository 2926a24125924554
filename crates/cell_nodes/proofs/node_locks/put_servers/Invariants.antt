use Rattle.std.proofs.Common.{◌≡◌, ◌+◌, length}
use Rattle.std.specs.Prelude.{All}
use Rattle.std.specs.Vec.Iter.{into_iter_items}
use Rattle.cell_seats.specs.ParkedNodes.{HasSeenBase}
use Rattle.cell_seats.specs.Registries.{IsSameRegistry}
use Rattle.cell_nodes.proofs.node_locks.put_servers.Given as goal

-- so many servers lie in their locks
abbrev pub invariant-loop-server : goal.invariant-loop-server
invariant-loop-server g l = record {
  same : IsSameRegistry l.fn.registry l.registry;
  registered : l.registry.registered ≡ l.before + 1;
  left : l.before + length (into_iter_items l.server-iterator) ≡ l.fn.registry.servers;
  seen : All (HasSeenBase l.fn.registry.cell) (into_iter_items l.server-iterator);
}
