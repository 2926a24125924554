use Rattle.std.proofs.Common.{◌≡◌, ◌++◌, drop, map}
use Rattle.std.specs.List.{filter_map}
use Rattle.protocol.specs.Lookups.{stored_on}
use Rattle.cell_world.specs.AsStored.{as_stored}
use Rattle.cell_looks.proofs.looks.stored_on_all.Given as goal

-- what is left completes the list
abbrev pub invariant-loop-before : goal.invariant-loop-before
invariant-loop-before l =
    map as_stored l.all.items ++ filter_map (stored_on l.handle.0) (map (λ s. s.now) (drop l.before l.servers)) ≡ filter_map (stored_on l.handle.0) (map (λ s. s.now) l.servers)
