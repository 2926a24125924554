-- Laws of every lawful list of events on what servers say of their versions, and on what the master keeps of it, that public functions of this crate state.
use Rattle.std.specs.Prelude.{◌≡◌, ◌⊎◌, ℕ, List, Some, IsTrue}
use Rattle.gfs_types.specs.declared.config.Config.{Config}
use Rattle.messages.specs.declared.message.Message.{Message}
use Rattle.messages.specs.declared.message.Body.{Body}
use Rattle.messages.specs.declared.message.Body.TheVariants as body
use Rattle.messages.specs.declared.message.ReplicaLine.{ReplicaLine}
use Rattle.protocol.specs.Tables.{element_at}
use Rattle.protocol.specs.Sending.{the_server}
use Rattle.protocol.specs.Master.{version_held}
use Rattle.protocol.specs.World.{WorldState, IsReached}
use Rattle.laws_versions.specs.HeldVersions.{WasGiven, WasCloned}

-- one of the lines of a report is of this version of the chunk
abbrev pub IsReported : List ReplicaLine → ℕ → ℕ → Type 0
IsReported lines handle version = (place : ℕ) × (line : ReplicaLine) × (element_at lines place ≡ Some line) × (line.handle.0 ≡ handle) × (line.version.0 ≡ version)

-- the message says that its sender has a replica of this version
abbrev pub SaysVersion : Body → ℕ → ℕ → Type 0
SaysVersion (body.Recorded chunk number) handle version = (chunk.0 ≡ handle) × (number.0 ≡ version)
SaysVersion (body.Cloned chunk number) handle version = (chunk.0 ≡ handle) × (number.0 ≡ version)
SaysVersion (body.Report replicas leases) handle version = IsReported replicas handle version
SaysVersion other handle version = ⊥

-- an order to this server gave it the version, or it was ordered to clone it
abbrev pub WasOrdered : List Message → ℕ → ℕ → ℕ → Type 0
WasOrdered sent server handle version = WasGiven sent server handle version ⊎ WasCloned sent server handle version

-- Each version that a server says it has, by a Recorded, a Cloned or a line of a Report, was ordered (sections 3.1, 4.3 and 4.5).
abbrev pub SaidVersionsWereOrdered : Type 0
SaidVersionsWereOrdered =
    (config : Config) (servers clients : ℕ) (w : WorldState) → IsReached config servers clients w
    → (place : ℕ) (m : Message) → element_at w.sent place ≡ Some m → (server : ℕ) → m.sender ≡ the_server server
    → (handle version : ℕ) → SaysVersion m.body handle version → WasOrdered w.sent server handle version

-- Each version that a master that is up keeps of a server's replicas was ordered (section 4.5).
abbrev pub HoldersWereOrdered : Type 0
HoldersWereOrdered =
    (config : Config) (servers clients : ℕ) (w : WorldState) → IsReached config servers clients w → IsTrue w.master.up
    → (server handle version : ℕ) → version_held w.master handle server ≡ Some version → WasOrdered w.sent server handle version
