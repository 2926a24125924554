-- Names that come and go leave the others as they were.
use Rattle.std.proofs.Common.{◌≡◌, List, [], ◌∷◌, ◌++◌, None, refl, ap, ◌∙◌}
use Rattle.std.specs.FinMap as map
use Rattle.gfs_types.specs.Paths.{Path}
use Rattle.relaxed_file.specs.Names.{Names, Dir}
use Rattle.master_state.proofs.Trials.{put_and_taken as node_put_and_taken}
use Rattle.master_replay.specs.Room.{taken_back}

pub put_and_taken : (names : Names) (path : Path) → map.get names path ≡ None → map.remove (map.insert names path Dir) path ≡ names
put_and_taken names path absent = node_put_and_taken names path Dir absent

-- the last goes first
pub taken_last : (names : Names) (paths : List Path) (path : Path) → taken_back names (paths ++ path ∷ []) ≡ taken_back (map.remove names path) paths
taken_last names [] path = refl
taken_last names (first ∷ rest) path = ap (λ (n : Names). map.remove n first) (taken_last names rest path)

-- one more was added
pub added_last : (names : Names) (paths : List Path) (path : Path) → map.get names path ≡ None
    → taken_back (map.insert names path Dir) (paths ++ path ∷ []) ≡ taken_back names paths
added_last names paths path absent =
    taken_last (map.insert names path Dir) paths path ∙ ap (λ (n : Names). taken_back n paths) (put_and_taken names path absent)
