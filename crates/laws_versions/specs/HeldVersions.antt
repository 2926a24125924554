-- Laws of every lawful list of events on the versions that servers hold, that public functions of this crate state.
use Rattle.std.specs.Prelude.{◌≡◌, ◌⊎◌, ℕ, suc, List, Option, Some, None, IsTrue}
use Rattle.std.specs.FinMap as table
use Rattle.gfs_types.specs.declared.config.Config.{Config}
use Rattle.gfs_types.specs.declared.ids.Moment.{Moment}
use Rattle.gfs_types.specs.declared.ids.OrderNo.{OrderNo}
use Rattle.messages.specs.declared.message.Message.{Message}
use Rattle.messages.specs.declared.message.Body.{Body}
use Rattle.messages.specs.declared.message.Body.TheVariants as body
use Rattle.protocol.specs.Tables.{element_at, has_number}
use Rattle.protocol.specs.Sending.{the_server, handle_of, version_of}
use Rattle.protocol.specs.Master.{VersionAttempt}
use Rattle.replica_store.specs.Replicas.{Replica, replica_of}
use Rattle.protocol.specs.Server.{ServerState}
use Rattle.protocol.specs.World.{WorldState, IsReached}
use Rattle.laws_base.specs.Given.{version_given}
use Rattle.laws_base.specs.Laws.{IsGrantBody}

-- the chunk and the version of which an order has its server make a replica from another server's
abbrev pub version_cloned : Body → Option (ℕ × ℕ)
version_cloned (body.Clone order handle version source) = Some (handle.0, version.0)
version_cloned other = None

-- one of the messages is an order to this server that gives it this version of the chunk
abbrev pub WasGiven : List Message → ℕ → ℕ → ℕ → Type 0
WasGiven sent server handle version = (place : ℕ) × (m : Message) × (element_at sent place ≡ Some m) × (m.receiver ≡ the_server server) × (version_given m.body ≡ Some (handle, version))

-- one of them is an order to make a replica of this version from another server's
abbrev pub WasCloned : List Message → ℕ → ℕ → ℕ → Type 0
WasCloned sent server handle version = (place : ℕ) × (m : Message) × (element_at sent place ≡ Some m) × (m.receiver ≡ the_server server) × (version_cloned m.body ≡ Some (handle, version))

-- Each replica on a server's disk, also of one that is down, has a version that an order to this server gave it, or that it was ordered to clone (sections 3.1 and 4.3).
abbrev pub ReplicasWereOrdered : Type 0
ReplicasWereOrdered =
    (config : Config) (servers clients : ℕ) (w : WorldState) → IsReached config servers clients w
    → (index : ℕ) (s : ServerState) → element_at w.servers index ≡ Some s → (handle : ℕ) (r : Replica) → replica_of s.disk handle ≡ Some r
    → WasGiven w.sent (suc index) handle r.version ⊎ WasCloned w.sent (suc index) handle r.version

-- A replica of a version that was granted stands at a member of its Grant, or was cloned (section 3.1).
abbrev pub MembersAloneHoldAVersion : Type 0
MembersAloneHoldAVersion =
    (config : Config) (servers clients : ℕ) (w : WorldState) → IsReached config servers clients w
    → (index : ℕ) (s : ServerState) → element_at w.servers index ≡ Some s → (handle : ℕ) (r : Replica) → replica_of s.disk handle ≡ Some r
    → (place : ℕ) (grant : Message) (order : OrderNo) (end_moment : Moment) (members : List ℕ)
    → element_at w.sent place ≡ Some grant → IsGrantBody order (handle_of handle) (version_of r.version) end_moment members grant.body
    → IsTrue (has_number members (suc index)) ⊎ WasCloned w.sent (suc index) handle r.version

-- A replica of a version that is attempted stands at a server of the attempt, or was cloned (section 3.1).
abbrev pub AttemptsAloneHoldTheirVersion : Type 0
AttemptsAloneHoldTheirVersion =
    (config : Config) (servers clients : ℕ) (w : WorldState) → IsReached config servers clients w → IsTrue w.master.up
    → (handle : ℕ) (a : VersionAttempt) → table.get w.master.attempts handle ≡ Some a
    → (index : ℕ) (s : ServerState) → element_at w.servers index ≡ Some s → (r : Replica) → replica_of s.disk handle ≡ Some r → r.version ≡ a.version
    → IsTrue (has_number a.servers (suc index)) ⊎ WasCloned w.sent (suc index) handle r.version
