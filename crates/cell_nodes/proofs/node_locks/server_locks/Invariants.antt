use Rattle.std.proofs.Common.{◌≡◌}
use Rattle.std.specs.Prelude.{map}
use Rattle.std.specs.Arc.{arc_value}
use Rattle.protocol.specs.Tables.{first_numbers}
use Rattle.protocol.specs.Sending.{the_server}
use Rattle.cell_seats.specs.NodeLocks.{node_name}
use Rattle.cell_nodes.proofs.node_locks.server_locks.Given as goal

-- so many servers have their locks
abbrev pub invariant-loop-before : goal.invariant-loop-before
invariant-loop-before l = map arc_value l.locks.items ≡ map (λ s. node_name l.fn.cell (the_server s)) (first_numbers l.before)
