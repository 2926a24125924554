use Rattle.std.proofs.Common.{◌≡◌, drop, option_map}
use Rattle.gfs_types.specs.Image as spec
use Rattle.gfs_types.specs.Mutations as change
use Rattle.machine_programs.proofs.image.byte_at.Given as goal

-- what is left decides, and where nothing in it covers the place, what was found
abbrev pub invariant-loop-mutation : goal.invariant-loop-mutation
invariant-loop-mutation l =
    spec.newer l.last (option_map (change.byte_of l.place) (spec.last_that (change.covers l.place) (drop l.mutation-index l.mutations)))
    ≡ option_map (change.byte_of l.place) (spec.last_that (change.covers l.place) l.mutations)
