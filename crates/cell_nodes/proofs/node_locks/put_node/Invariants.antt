use Rattle.std.proofs.Common.{◌≡◌}
use Rattle.cell_seats.specs.Registries.{IsSameRegistry}
use Rattle.cell_nodes.proofs.node_locks.put_node.Given as goal

-- nothing was registered yet
abbrev pub invariant-loop : goal.invariant-loop
invariant-loop g l = record { same : IsSameRegistry l.fn.registry l.registry; registered : l.registry.registered ≡ l.fn.registry.registered }
