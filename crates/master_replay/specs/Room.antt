-- Names that were added for a trial.
use Rattle.std.specs.Prelude.{List, [], ◌∷◌}
use Rattle.std.specs.FinMap.{remove}
use Rattle.gfs_types.specs.Paths.{Path}
use Rattle.relaxed_file.specs.Names.{Names}

-- the names without these, the last of them taken first
abbrev pub taken_back : Names → List Path → Names
taken_back names [] = names
taken_back names (path ∷ rest) = remove (taken_back names rest) path
