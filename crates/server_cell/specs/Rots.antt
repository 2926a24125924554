-- What rot comes to.
use Rattle.std.specs.Prelude.{◌≡◌}
use Rattle.replica_store.specs.declared.change.StoreChange.{StoreChange}
use Rattle.protocol.specs.Choice.{Ending}
use Rattle.protocol.specs.Server.{ServerState}
use Rattle.protocol.specs.World.{after_rot}

-- a server whose disk changed so past its digests, or that is down, with this change made, under way or not begun
abbrev pub IsRotten : ServerState → StoreChange → ServerState → Type 0
IsRotten s change t = (ending : Ending) × (after_rot s change ending ≡ t)
