-- The law of every lawful list of events on the versions that servers are told to drop, that a public function of this crate states.
use Rattle.std.specs.Prelude.{◌≡◌, ℕ, Some, IsTrue}
use Rattle.gfs_types.specs.declared.config.Config.{Config}
use Rattle.messages.specs.declared.message.Message.{Message}
use Rattle.protocol.specs.Tables.{element_at}
use Rattle.protocol.specs.Logged.{replayed}
use Rattle.protocol.specs.World.{WorldState, IsReached}
use Rattle.laws_versions.specs.OutdatedVersions.{version_dropped, IsNeverCurrent}

-- The version that a Drop names is below the granted one of its chunk, or the chunk is gone, in the log and at a master that is up: it is not current, and never will be (section 4.5).
abbrev pub DroppedVersionsAreOutdated : Type 0
DroppedVersionsAreOutdated =
    (config : Config) (servers clients : ℕ) (w : WorldState) → IsReached config servers clients w
    → (place : ℕ) (m : Message) → element_at w.sent place ≡ Some m → (handle version : ℕ) → version_dropped m.body ≡ Some (handle, version)
    → IsNeverCurrent (replayed w.master.disk) handle version × (IsTrue w.master.up → IsNeverCurrent w.master.logged handle version)
