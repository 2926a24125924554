use Rattle.std.proofs.Common.{◌≡◌, ◌++◌, map}
use Rattle.protocol.specs.Observer.{settled_as}
use Rattle.cell_world.proofs.orders.settled.Given as goal

-- what is left completes the list
abbrev pub invariant-loop-one : goal.invariant-loop-one
invariant-loop-one l = l.after.items ++ map (settled_as l.fn.version.0 l.fn.serial.0) l.one-iterator.rest.items ≡ map (settled_as l.fn.version.0 l.fn.serial.0) l.fn.list
