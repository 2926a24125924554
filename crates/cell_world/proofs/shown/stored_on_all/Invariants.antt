use Rattle.std.proofs.Common.{◌≡◌, ◌++◌, drop, map}
use Rattle.std.specs.List.{filter_map}
use Rattle.protocol.specs.Lookups.{stored_on}
use Rattle.cell_world.specs.AsStored.{as_stored}
use Rattle.cell_world.proofs.shown.stored_on_all.Given as goal

-- what is left completes the list
abbrev pub invariant-loop-server : goal.invariant-loop-server
invariant-loop-server l = map as_stored l.all.items ++ filter_map (stored_on l.handle.0) (drop l.server-index l.servers) ≡ filter_map (stored_on l.handle.0) l.servers
