use Rattle.std.proofs.Common.{◌≡◌, ◌+◌}
use Rattle.std.specs.Prelude.{map}
use Rattle.std.specs.Arc.{arc_value}
use Rattle.protocol.specs.Tables.{first_numbers}
use Rattle.protocol.specs.Sending.{the_server}
use Rattle.cell_seats.specs.NodeLocks.{node_name}
use Rattle.cell_seats.specs.Registries.{IsSameRegistry}
use Rattle.cell_run.proofs.cell.start_nodes.Given as goal

-- the master and so many servers are registered, and stand under their locks
abbrev pub invariant-loop-before : goal.invariant-loop-before
invariant-loop-before g l = record {
  registered : l.registry.registered ≡ l.before + 1;
  same : IsSameRegistry l.fn.registry l.registry;
  locks : map arc_value l.locks.items ≡ map (λ s. node_name l.fn.registry.cell (the_server s)) (first_numbers l.before);
}
