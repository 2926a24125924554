use Rattle.std.proofs.Common.{◌≡◌, ◌++◌, drop, map}
use Rattle.cell_world.specs.Kept.{blank_seen, seen_of}
use Rattle.cell_world.proofs.sighting.sightings.Given as goal

-- what is left completes the list
abbrev pub invariant-loop-seen : goal.invariant-loop-seen
invariant-loop-seen l = map seen_of l.kept.items ++ map blank_seen (drop l.seen-index l.all) ≡ map blank_seen l.all
