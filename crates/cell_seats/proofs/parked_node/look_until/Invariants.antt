use Rattle.std.proofs.Common.{◌≡◌}
use Rattle.cell_journal.specs.Writers.{IsLater}
use Rattle.cell_seats.proofs.parked_node.look_until.Given as goal

-- the slot is the node's, which took no step
abbrev pub invariant-loop : goal.invariant-loop
invariant-loop g l = record { node : l.slot.node ≡ l.fn.slot.node; later : IsLater l.fn.slot.view l.slot.view }
