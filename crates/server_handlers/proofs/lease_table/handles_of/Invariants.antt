use Rattle.std.proofs.Common.{◌≡◌, ◌++◌, map}
use Rattle.std.specs.FinMap.{keys}
use Rattle.server_handlers.proofs.lease_table.handles_of.Given as goal

-- what is left completes the numbers
abbrev pub invariant-loop-handle : goal.invariant-loop-handle
invariant-loop-handle l = l.handles.items ++ map (λ e. e.0) l.handle-iterator ≡ keys l.leases
