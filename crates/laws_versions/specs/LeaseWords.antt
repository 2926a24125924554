-- Laws of every lawful list of events on what is said of leases, that public functions of this crate state.
use Rattle.std.specs.Prelude.{◌≡◌, ◌⊎◌, ℕ, ◌+◌, ◌≤◌, List, Option, Some, None, IsTrue}
use Rattle.gfs_types.specs.declared.config.Config.{Config}
use Rattle.gfs_types.specs.declared.ids.Handle.{Handle}
use Rattle.gfs_types.specs.declared.ids.Version.{Version}
use Rattle.gfs_types.specs.declared.ids.Moment.{Moment}
use Rattle.gfs_types.specs.declared.ids.OrderNo.{OrderNo}
use Rattle.messages.specs.declared.message.Message.{Message}
use Rattle.messages.specs.declared.message.Body.{Body}
use Rattle.messages.specs.declared.message.Body.TheVariants as body
use Rattle.chunk_table.specs.ChunkTable.{ChunkRow, chunk_of}
use Rattle.protocol.specs.Tables.{element_at}
use Rattle.protocol.specs.Sending.{handle_of, version_of}
use Rattle.protocol.specs.Logged.{replayed}
use Rattle.protocol.specs.World.{WorldState, IsReached}
use Rattle.laws_base.specs.Laws.{IsGrantBody, IsSameOrLater, tells_end}
use Rattle.laws_base.specs.Versions.{IsLeaseOver}

-- the chunk and the version whose lease a message begins or lets last longer
abbrev pub lease_said : Body → Option (ℕ × ℕ)
lease_said (body.Grant order handle version end_moment chunk members) = Some (handle.0, version.0)
lease_said (body.Extend handle version end_moment) = Some (handle.0, version.0)
lease_said other = None

-- All that is said of the lease of a version, its Grant and each Extend, goes to one server (section 3.1).
abbrev pub LeasesAreSaidToOneServer : Type 0
LeasesAreSaidToOneServer =
    (config : Config) (servers clients : ℕ) (w : WorldState) → IsReached config servers clients w
    → (place other : ℕ) (m n : Message) → element_at w.sent place ≡ Some m → element_at w.sent other ≡ Some n
    → (handle version : ℕ) → lease_said m.body ≡ Some (handle, version) → lease_said n.body ≡ Some (handle, version) → m.receiver ≡ n.receiver

-- a server said that it has no lease of this version
abbrev pub WasRevoked : List Message → ℕ → ℕ → Type 0
WasRevoked sent handle version = (place : ℕ) × (m : Message) × (element_at sent place ≡ Some m) × (m.body ≡ body.Revoked (handle_of handle) (version_of version))

-- the end of a lease is past, or a server said that the lease is over
abbrev pub IsPastEnd : WorldState → ℕ → ℕ → ℕ → Type 0
IsPastEnd w handle version until = (until ≤ w.observer.greatest) ⊎ WasRevoked w.sent handle version

-- An end that was told of the lease of a version: within a lease's time, and past unless the version was granted last, in the log and at a master that is up, which counts no earlier end.
pub record IsEndKnown (w : WorldState) (handle version until : ℕ) : Type 0 where
  pub bound : until ≤ w.observer.greatest + w.config.lease_ms
  pub numbered : 1 ≤ version
  pub logged : (row : ChunkRow) → chunk_of (replayed w.master.disk).table handle ≡ Some row → (version ≤ row.granted) × (IsPastEnd w handle version until ⊎ (version ≡ row.granted))
  pub counted : IsTrue w.master.up → (row : ChunkRow) → chunk_of w.master.logged.table handle ≡ Some row
      → (version ≤ row.granted) × (IsPastEnd w handle version until ⊎ ((version ≡ row.granted) × (until ≤ row.lease_end)))

-- Where clocks are kept, each end of a lease that a Grant or an Extend told is known so (section 3.1).
abbrev pub ToldEndsAreTheMasters : Type 0
ToldEndsAreTheMasters =
    (config : Config) (servers clients : ℕ) (w : WorldState) → IsReached config servers clients w → IsTrue w.observer.are_clocks_kept
    → (place : ℕ) (m : Message) → element_at w.sent place ≡ Some m → (handle version until : ℕ) → IsTrue (tells_end handle version until m.body) → IsEndKnown w handle version until

-- A Revoke goes to the server to which its version was granted, and has no lower number than that Grant (section 3.1).
abbrev pub RevokesFollowTheirGrants : Type 0
RevokesFollowTheirGrants =
    (config : Config) (servers clients : ℕ) (w : WorldState) → IsReached config servers clients w
    → (place other : ℕ) (grant revoke : Message) → element_at w.sent place ≡ Some grant → element_at w.sent other ≡ Some revoke
    → (order later : OrderNo) (handle : Handle) (version : Version) (end_moment : Moment) (members : List ℕ) → IsGrantBody order handle version end_moment members grant.body → revoke.body ≡ body.Revoke later handle version
    → (grant.receiver ≡ revoke.receiver) × IsSameOrLater order.epoch order.count later.epoch later.count

-- Once a server said that it has no lease of a version, the lease is over (section 3.1).
abbrev pub RevokedLeasesAreOver : Type 0
RevokedLeasesAreOver =
    (config : Config) (servers clients : ℕ) (w : WorldState) → IsReached config servers clients w
    → (handle version : ℕ) → WasRevoked w.sent handle version → IsLeaseOver w handle version
