-- The law of every lawful list of events on the orders that make a replica anew, that a public function of this crate states.
use Rattle.std.specs.Prelude.{◌≡◌, ◌⊎◌, ℕ, ◌≤◌, Option, Some, None}
use Rattle.gfs_types.specs.declared.config.Config.{Config}
use Rattle.gfs_types.specs.declared.ids.DataId.{DataId}
use Rattle.gfs_types.specs.declared.ids.Handle.{Handle}
use Rattle.gfs_types.specs.declared.ids.Version.{Version}
use Rattle.messages.specs.declared.event.NodeInput.{NodeInput}
use Rattle.messages.specs.declared.message.Message.{Message}
use Rattle.messages.specs.declared.message.Body.{Body}
use Rattle.messages.specs.declared.message.Body.TheVariants as body
use Rattle.protocol.specs.Tables.{element_at}
use Rattle.protocol.specs.Choice.{Choice}
use Rattle.protocol.specs.Server.{ServerState}
use Rattle.protocol.specs.World.{WorldState, IsReached}
use Rattle.laws_base.specs.Laws.{grants_of}
use Rattle.laws_base.specs.Deadlines.{Numbers}

-- the chunk of which an order makes a replica, and its version
abbrev pub version_made : Body → Option (ℕ × ℕ)
version_made (body.Create order handle version) = Some (handle.0, version.0)
version_made (body.CopyLocal order handle version copy copy_version) = Some (copy.0, copy_version.0)
version_made other = None

-- No Grant of that chunk is ever sent of a version from the first one on and below the one that is made (sections 3.1 and 3.4).
abbrev pub FirstVersionsSkipNoGrant : Type 0
FirstVersionsSkipNoGrant =
    (config : Config) (servers clients : ℕ) (w : WorldState) → IsReached config servers clients w
    → (place : ℕ) (m : Message) → element_at w.sent place ≡ Some m → (handle version : ℕ) → version_made m.body ≡ Some (handle, version)
    → (granted : ℕ) → 1 ≤ grants_of handle granted w.sent → (granted ≤ 0) ⊎ (version ≤ granted)

-- Nor does a server number a mutation under such a version (section 3.1).
abbrev pub FirstVersionsSkipNoEntry : Type 0
FirstVersionsSkipNoEntry =
    (config : Config) (servers clients : ℕ) (w : WorldState) → IsReached config servers clients w
    → (place : ℕ) (m : Message) → element_at w.sent place ≡ Some m → (handle : Handle) (version : ℕ) → version_made m.body ≡ Some (handle.0, version)
    → (index moment : ℕ) (s : ServerState) (i : NodeInput) (choice : Choice) (numbered : Version) (id : DataId) → Numbers w index moment s i choice handle numbered id → (numbered.0 ≤ 0) ⊎ (version ≤ numbered.0)
