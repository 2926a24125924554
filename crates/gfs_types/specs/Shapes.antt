-- The shape of a file: how large its chunks are, and how many replicas of each are wanted. A file has it from its creation on (section 2.3).
use Rattle.std.specs.Prelude.{min, ◌%◌, Bool, ◌&&◌, ◌==◌, Option, Some, None}
use Rattle.gfs_types.specs.declared.config.Config.{Config}
use Rattle.gfs_types.specs.declared.shape.Shape.{Shape}
use Rattle.gfs_types.specs.Settings.{is_within}

-- the shape of a file that is made without one; a goal has one byte, and settings that are in their range have none past it
abbrev pub usual_shape : Config → Shape
usual_shape c = record { chunk = c.chunk; goal = min c.goal 255 }

-- A chunk is made of whole blocks, of 64 bytes at least, and has room where one of the settings' has it; the goal is 1 to 8.
abbrev pub fits : Config → Shape → Bool
fits c s = is_within 64 c.chunk s.chunk && s.chunk % c.block == 0 && is_within 1 8 s.goal

-- the shape that was asked for, or else the usual one
abbrev pub shape_or : Shape → Option Shape → Shape
shape_or usual None = usual
shape_or usual (Some s) = s

-- whether a file may be asked for so: the shape that it would have fits
abbrev pub may_have : Config → Option Shape → Bool
may_have c asked = fits c (shape_or (usual_shape c) asked)
