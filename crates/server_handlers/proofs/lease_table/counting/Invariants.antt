use Rattle.std.proofs.Common.{◌≡◌, ◌++◌, map, filter}
use Rattle.server_handlers.specs.Held.{line_of, lines_of, would_count}
use Rattle.server_handlers.proofs.lease_table.counting.Given as goal

-- what is left completes the lines
abbrev pub invariant-loop-handle : goal.invariant-loop-handle
invariant-loop-handle l = l.lines.items ++ map line_of (filter (λ e. would_count l.now.0 e.1) l.handle-iterator) ≡ lines_of l.now.0 l.leases
