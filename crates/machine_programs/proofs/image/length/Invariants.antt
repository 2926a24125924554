use Rattle.std.proofs.Common.{◌≡◌, drop, max}
use Rattle.gfs_types.specs.Image as spec
use Rattle.machine_programs.proofs.image.length.Given as goal

-- what is left gives the greatest end of all
abbrev pub invariant-loop-mutation : goal.invariant-loop-mutation
invariant-loop-mutation l = max l.greatest (spec.image_length (drop l.mutation-index l.mutations)) ≡ spec.image_length l.mutations
