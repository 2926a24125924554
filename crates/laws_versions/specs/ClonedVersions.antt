-- Laws of every lawful list of events on versions that servers copy from each other, that public functions of this crate state.
use Rattle.std.specs.Prelude.{◌≡◌, ◌≢◌, ◌⊎◌, ℕ, suc, ◌≤◌, List, Option, Some, None, IsTrue}
use Rattle.std.specs.FinMap as table
use Rattle.gfs_types.specs.declared.config.Config.{Config}
use Rattle.gfs_types.specs.declared.ids.Moment.{Moment}
use Rattle.gfs_types.specs.declared.ids.OrderNo.{OrderNo}
use Rattle.messages.specs.declared.message.Message.{Message}
use Rattle.messages.specs.declared.message.Body.{Body}
use Rattle.messages.specs.declared.message.Body.TheVariants as body
use Rattle.chunk_table.specs.ChunkTable.{ChunkRow, chunk_of}
use Rattle.protocol.specs.Tables.{element_at, has_number}
use Rattle.protocol.specs.Sending.{the_server, handle_of, version_of}
use Rattle.protocol.specs.Master.{VersionAttempt}
use Rattle.replica_store.specs.Replicas.{Replica, replica_of}
use Rattle.protocol.specs.Server.{ServerState}
use Rattle.protocol.specs.World.{WorldState, IsReached}
use Rattle.laws_base.specs.Versions.{IsLeaseOver}
use Rattle.laws_base.specs.Given.{version_given}
use Rattle.laws_versions.specs.HeldVersions.{WasCloned}
use Rattle.laws_versions.specs.ToldVersions.{SaysVersion}
use Rattle.laws_base.specs.Laws.{IsGrantBody}

-- the chunk and the version that a message has one server copy from another
abbrev pub version_copied : Body → Option (ℕ × ℕ)
version_copied (body.Clone order handle version source) = Some (handle.0, version.0)
version_copied (body.CopyAsk handle version) = Some (handle.0, version.0)
version_copied (body.Image handle version serial bytes) = Some (handle.0, version.0)
version_copied other = None

-- the chunk and the version that an order has a server copy under a new handle, for one of the owners
abbrev pub version_sourced : Body → Option (ℕ × ℕ)
version_sourced (body.CopyLocal order handle version copy copy_version) = Some (handle.0, version.0)
version_sourced other = None

-- A version of a chunk is over: no server numbers a mutation under it, and a master that is up issued it and doesn't attempt it.
pub record IsVersionOver (w : WorldState) (handle version : ℕ) : Type 0 where
  pub lease : IsLeaseOver w handle version
  pub issued : IsTrue w.master.up → (row : ChunkRow) → chunk_of w.master.logged.table handle ≡ Some row → version ≤ row.issued
  pub given_up : IsTrue w.master.up → (a : VersionAttempt) → table.get w.master.attempts handle ≡ Some a → a.version ≢ version

-- Where clocks are kept, each Clone, CopyAsk and Image that was sent names a version that is over, from the moment it is sent (section 4.3).
abbrev pub ClonesAreOfClosedVersions : Type 0
ClonesAreOfClosedVersions =
    (config : Config) (servers clients : ℕ) (w : WorldState) → IsReached config servers clients w → IsTrue w.observer.are_clocks_kept
    → (place : ℕ) (m : Message) → element_at w.sent place ≡ Some m → (handle version : ℕ) → version_copied m.body ≡ Some (handle, version) → IsVersionOver w handle version

-- Where clocks are kept, the version that a CopyLocal which was sent copies is over, from the moment it is sent (section 3.4).
abbrev pub CopiesAreOfClosedVersions : Type 0
CopiesAreOfClosedVersions =
    (config : Config) (servers clients : ℕ) (w : WorldState) → IsReached config servers clients w → IsTrue w.observer.are_clocks_kept
    → (place : ℕ) (m : Message) → element_at w.sent place ≡ Some m → (handle version : ℕ) → version_sourced m.body ≡ Some (handle, version) → IsVersionOver w handle version

-- No message gives a server a version, or has servers copy one, above what a master that is up issued of its chunk (section 3.1).
abbrev pub OrderedVersionsWereIssued : Type 0
OrderedVersionsWereIssued =
    (config : Config) (servers clients : ℕ) (w : WorldState) → IsReached config servers clients w → IsTrue w.master.up
    → (place : ℕ) (m : Message) → element_at w.sent place ≡ Some m → (handle version : ℕ) → (version_given m.body ≡ Some (handle, version)) ⊎ (version_copied m.body ≡ Some (handle, version))
    → (row : ChunkRow) → chunk_of w.master.logged.table handle ≡ Some row → version ≤ row.issued

-- No replica on a server's disk is of a version above what a master that is up issued of its chunk (section 3.1).
abbrev pub ReplicasAreOfIssuedVersions : Type 0
ReplicasAreOfIssuedVersions =
    (config : Config) (servers clients : ℕ) (w : WorldState) → IsReached config servers clients w → IsTrue w.master.up
    → (index : ℕ) (s : ServerState) → element_at w.servers index ≡ Some s → (handle : ℕ) (r : Replica) → replica_of s.disk handle ≡ Some r
    → (row : ChunkRow) → chunk_of w.master.logged.table handle ≡ Some row → r.version ≤ row.issued

-- Nor does a server say that it has one (sections 3.1 and 4.5).
abbrev pub SaidVersionsWereIssued : Type 0
SaidVersionsWereIssued =
    (config : Config) (servers clients : ℕ) (w : WorldState) → IsReached config servers clients w → IsTrue w.master.up
    → (place : ℕ) (m : Message) → element_at w.sent place ≡ Some m → (server : ℕ) → m.sender ≡ the_server server → (handle version : ℕ) → SaysVersion m.body handle version
    → (row : ChunkRow) → chunk_of w.master.logged.table handle ≡ Some row → version ≤ row.issued

-- No version that is attempted is ordered to be cloned, asked for or sent as an image (sections 3.1 and 4.3).
abbrev pub AttemptedVersionsAreNotCopied : Type 0
AttemptedVersionsAreNotCopied =
    (config : Config) (servers clients : ℕ) (w : WorldState) → IsReached config servers clients w → IsTrue w.master.up
    → (handle : ℕ) (a : VersionAttempt) → table.get w.master.attempts handle ≡ Some a
    → (place : ℕ) (m : Message) → element_at w.sent place ≡ Some m → version_copied m.body ≢ Some (handle, a.version)

-- A replica of a version that is attempted stands at a server of the attempt (section 3.1).
abbrev pub AttemptedVersionsStandAtTheirServers : Type 0
AttemptedVersionsStandAtTheirServers =
    (config : Config) (servers clients : ℕ) (w : WorldState) → IsReached config servers clients w → IsTrue w.master.up
    → (handle : ℕ) (a : VersionAttempt) → table.get w.master.attempts handle ≡ Some a
    → (index : ℕ) (s : ServerState) → element_at w.servers index ≡ Some s → (r : Replica) → replica_of s.disk handle ≡ Some r → r.version ≡ a.version
    → IsTrue (has_number a.servers (suc index))

-- Where clocks are kept, a replica of a version that was granted stands at a member of its Grant, or was cloned, and then the version is over (sections 3.1 and 4.3).
abbrev pub GrantedVersionsStandAtMembers : Type 0
GrantedVersionsStandAtMembers =
    (config : Config) (servers clients : ℕ) (w : WorldState) → IsReached config servers clients w → IsTrue w.observer.are_clocks_kept
    → (index : ℕ) (s : ServerState) → element_at w.servers index ≡ Some s → (handle : ℕ) (r : Replica) → replica_of s.disk handle ≡ Some r
    → (place : ℕ) (grant : Message) (order : OrderNo) (end_moment : Moment) (members : List ℕ)
    → element_at w.sent place ≡ Some grant → IsGrantBody order (handle_of handle) (version_of r.version) end_moment members grant.body
    → IsTrue (has_number members (suc index)) ⊎ (WasCloned w.sent (suc index) handle r.version × IsVersionOver w handle r.version)
