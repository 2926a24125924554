use Rattle.std.proofs.Common.{◌≡◌}
use Rattle.cell_simulator.proofs.network.take_order.Given as goal

-- no order was taken yet
abbrev pub invariant-loop-place : goal.invariant-loop-place
invariant-loop-place l = l.orders.items ≡ l.fn.orders.items
