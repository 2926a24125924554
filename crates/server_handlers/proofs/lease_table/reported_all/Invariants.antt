use Rattle.std.proofs.Common.{◌≡◌, drop}
use Rattle.server_handlers.specs.Reported.{seen_all}
use Rattle.server_handlers.proofs.lease_table.reported_all.Given as goal

-- what is left gives what is wanted
abbrev pub invariant-loop-handle : goal.invariant-loop-handle
invariant-loop-handle l = seen_all l.now.0 l.leases (drop l.handle-index l.handles) ≡ seen_all l.now.0 l.fn.leases l.handles
