use Rattle.std.proofs.Common.{◌≡◌, [], drop, map}
use Rattle.protocol.specs.Observer.{orders_after_all}
use Rattle.cell_world.specs.Kept.{seen_of}
use Rattle.cell_world.proofs.orders.Orders.sees_all.Given as goal

-- what is left gives the orders after all
abbrev pub invariant-loop-one : goal.invariant-loop-one
invariant-loop-one l = orders_after_all [] l.self (map seen_of (drop l.one-index l.seen)) ≡ orders_after_all [] l.fn.self (map seen_of l.seen)
