-- Laws of every lawful list of events on the orders that raise a replica to a version, that public functions of this crate state.
use Rattle.std.specs.Prelude.{◌≡◌, ◌⊎◌, ℕ, ◌≤◌, Some}
use Rattle.gfs_types.specs.declared.config.Config.{Config}
use Rattle.gfs_types.specs.declared.ids.DataId.{DataId}
use Rattle.gfs_types.specs.declared.ids.Handle.{Handle}
use Rattle.gfs_types.specs.declared.ids.Version.{Version}
use Rattle.gfs_types.specs.declared.ids.OrderNo.{OrderNo}
use Rattle.messages.specs.declared.event.NodeInput.{NodeInput}
use Rattle.messages.specs.declared.message.Message.{Message}
use Rattle.messages.specs.declared.message.Body.TheVariants as body
use Rattle.protocol.specs.Tables.{element_at}
use Rattle.protocol.specs.Choice.{Choice}
use Rattle.protocol.specs.Server.{ServerState}
use Rattle.protocol.specs.World.{WorldState, IsReached}
use Rattle.laws_base.specs.Laws.{grants_of}
use Rattle.laws_base.specs.Deadlines.{Numbers}

-- No Grant is ever sent of a version above the one that a SetVersion replaces and below the one that it gives (sections 3.1 and 4.5).
abbrev pub RaisesSkipNoGrant : Type 0
RaisesSkipNoGrant =
    (config : Config) (servers clients : ℕ) (w : WorldState) → IsReached config servers clients w
    → (place : ℕ) (m : Message) → element_at w.sent place ≡ Some m → (order : OrderNo) (handle : Handle) (version base : Version) → m.body ≡ body.SetVersion order handle version base
    → (granted : ℕ) → 1 ≤ grants_of handle.0 granted w.sent → (granted ≤ base.0) ⊎ (version.0 ≤ granted)

-- Nor does a server number a mutation under such a version (section 3.1).
abbrev pub RaisesSkipNoEntry : Type 0
RaisesSkipNoEntry =
    (config : Config) (servers clients : ℕ) (w : WorldState) → IsReached config servers clients w
    → (place : ℕ) (m : Message) → element_at w.sent place ≡ Some m → (order : OrderNo) (handle : Handle) (version base : Version) → m.body ≡ body.SetVersion order handle version base
    → (index moment : ℕ) (s : ServerState) (i : NodeInput) (choice : Choice) (numbered : Version) (id : DataId) → Numbers w index moment s i choice handle numbered id → (numbered.0 ≤ base.0) ⊎ (version.0 ≤ numbered.0)
