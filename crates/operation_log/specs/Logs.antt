-- What a call leaves of a log.
use Rattle.std.specs.Prelude.{◌≡◌, ◌⊎◌, ℕ, Bool, List, [], ◌∷◌, ◌++◌}
use Rattle.protocol.specs.Choice.{decided_changes}
use Rattle.protocol.specs.Logged.{LogDisk, LogChange, log_changed_by_all}

-- a change was begun, or it wasn't
abbrev pub MayBeUnderWay : LogChange → List LogChange → Type 0
MayBeUnderWay change under_way = (under_way ≡ []) ⊎ (under_way ≡ change ∷ [])

-- what a log has once it is decided what was made of the changes under way
abbrev pub IsDecided : LogDisk → List LogChange → LogDisk → Type 0
IsDecided old under_way new = (decided : List Bool) × (new ≡ log_changed_by_all old (decided_changes decided under_way))
