use Rattle.std.proofs.Common.{◌≡◌, ◌-◌, ◌++◌}
use Rattle.gfs_types.specs.Image as spec
use Rattle.machine_programs.proofs.image.image.Given as goal

-- the bytes so far, and those from this place on, are the image
abbrev pub invariant-loop-place : goal.invariant-loop-place
invariant-loop-place l =
    l.bytes.items ++ spec.bytes_from l.mutations l.place (spec.image_length l.mutations - l.place) ≡ spec.image l.mutations
