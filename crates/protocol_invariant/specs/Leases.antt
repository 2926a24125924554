-- Clocks and leases: no node is past the greatest moment, a lease that may count is the last granted version's, and the lease of a chunk that is shared, copied or under a new number is over for good.
use Rattle.std.specs.Prelude.{◌≡◌, ◌⊎◌, ℕ, ◌+◌, ◌≤◌, ◌<◌, List, None, IfSome, IsSomeAnd, IsTrue, IsFalse}
use Rattle.std.specs.List.{AllByRecursion}
use Rattle.std.specs.FinMap as table
use Rattle.gfs_types.specs.declared.ids.OrderNo.{OrderNo}
use Rattle.chunk_table.specs.ChunkTable.{ChunkRow, chunk_of}
use Rattle.protocol.specs.Master.{PendingSnapshot}
use Rattle.protocol.specs.MasterSnapshots.{snapshot_handles, snapshot_files}
use Rattle.primary_order.specs.SerialOrder.{SerialOrder}
use Rattle.protocol.specs.Tables.{has_number}
use Rattle.replica_store.specs.Replicas.{is_new_order}
use Rattle.protocol.specs.Server.{ServerState}
use Rattle.protocol.specs.World.{WorldState}
use Rattle.protocol.specs.Each.{EachEntry, EachServer, EachClient, AtServer}
use Rattle.protocol_invariant.specs.Sent.{Granted, grant_of, grants_of}
use Rattle.protocol_invariant.specs.Ghost.{Ghost, logged_of}

-- no node is past the greatest moment
pub record AreClocksIn (w : WorldState) : Type 0 where
  pub master : w.master.now ≤ w.observer.greatest
  pub servers : EachServer w (λ server s. s.now ≤ w.observer.greatest)
  pub clients : EachClient w (λ client c. c.now ≤ w.observer.greatest)

-- a server refuses an order by its number
abbrev pub IsStale : ServerState → OrderNo → Type 0
IsStale s order = IsFalse (is_new_order s.disk order.epoch order.count)

abbrev pub IsStaleAt : WorldState → ℕ → OrderNo → Type 0
IsStaleAt w server order = AtServer w server (λ s. IsStale s order)

-- the row of a chunk, where it has one: the master's, or while it is down its log's
abbrev pub IfRow : WorldState → ℕ → (ChunkRow → Type 0) → Type 0
IfRow w handle P = IfSome (chunk_of (logged_of w.master).table handle) P

-- A granted lease that is over for good: what its primary holds of it has ended, and its Grant would be refused, or has ended.
pub record IsEnded (w : WorldState) (handle version : ℕ) (grant : Granted) : Type 0 where
  pub held : AtServer w grant.primary (λ s. IfSome (table.get s.leases handle) (λ p. p.held.version ≡ version → p.held.until ≤ w.observer.greatest))
  pub comes : IsStaleAt w grant.primary grant.order ⊎ (grant.until ≤ w.observer.greatest)

-- No server has a lease of this version that may count, nor will: if there was one, it is over.
abbrev pub IsOver : WorldState → Ghost → ℕ → ℕ → Type 0
IsOver w g handle version = IfSome (grant_of g.sent handle version) (IsEnded w handle version)

-- the last granted version of a chunk, as the row has it; the row knows its lease, which at a master that is up ends no earlier
pub record IsLastGrant (w : WorldState) (handle version server until : ℕ) (members : List ℕ) (row : ChunkRow) : Type 0 where
  pub version_is : row.granted ≡ version
  pub primary_is : row.primary ≡ server
  pub members_are : row.members ≡ members
  pub owned : row.references ≤ 1
  pub not_ahead : row.issued ≡ row.granted
  pub ends : IsTrue w.master.up → until ≤ row.lease_end

-- A lease that a server holds: it was granted, is not granted again, and may count only as the last one.
pub record IsHeld (w : WorldState) (g : Ghost) (server : ℕ) (s : ServerState) (handle : ℕ) (p : SerialOrder) : Type 0 where
  pub granted : IsSomeAnd (grant_of g.sent handle p.held.version) (λ grant. (grant.primary ≡ server) × (grant.members ≡ p.held.members) × (grant.chunk ≡ p.chunk) × IsStale s grant.order)
  pub bound : p.held.until ≤ w.observer.greatest + w.config.lease_ms
  pub lasts : (p.held.until ≤ w.observer.greatest) ⊎ IfRow w handle (IsLastGrant w handle p.held.version server p.held.until p.held.members)

-- A Grant that was sent, against its chunk's row: the last one, or an earlier one, whose lease is over.
pub record IsGrantOf (w : WorldState) (row : ChunkRow) (handle version : ℕ) (grant : Granted) : Type 0 where
  pub within : version ≤ row.granted
  pub sized : grant.chunk ≡ row.shape.chunk
  pub last : version ≡ row.granted → (grant.primary ≡ row.primary) × (grant.members ≡ row.members)
  pub earlier : version < row.granted → IsEnded w handle version grant
  pub bound : grant.until ≤ w.observer.greatest + w.config.lease_ms
  -- while it may still be taken, a master that is up knows an end that is no earlier
  pub ends : (IsStaleAt w grant.primary grant.order ⊎ (grant.until ≤ w.observer.greatest)) ⊎ (IsTrue w.master.up → grant.until ≤ row.lease_end)

-- A chunk's row: grants are no later than it says, and where the chunk is shared, under a new number, or its lease has ended at the master, the last one is over.
pub record IsRow (w : WorldState) (g : Ghost) (handle : ℕ) (row : ChunkRow) : Type 0 where
  pub issued : row.granted ≤ row.issued
  pub numbered : handle < (logged_of w.master).next_handle
  pub grants : EachEntry (grants_of g.sent handle) (λ version grant. IsGrantOf w row handle version grant)
  pub shared : 1 < row.references → IsOver w g handle row.granted
  pub ahead : row.granted < row.issued → IsOver w g handle row.granted
  pub ended : IsTrue w.master.up → row.lease_end ≤ w.observer.greatest → IsOver w g handle row.granted

-- a snapshot that waits: no version attempt and no copy is under way for its chunks
pub record IsWaitedFor (w : WorldState) (s : PendingSnapshot) : Type 0 where
  pub not_attempted : AllByRecursion (λ handle. table.get w.master.attempts handle ≡ None) (snapshot_handles w.master s)
  pub not_copied : EachEntry w.master.logged.copies (λ copy c. IsFalse (has_number (snapshot_files w.master s) c.file))

pub record AreLeases (w : WorldState) (g : Ghost) : Type 0 where
  pub clocks : AreClocksIn w
  pub held : EachServer w (λ server s. EachEntry s.leases (λ handle p. IsHeld w g server s handle p))
  pub rows : EachEntry (logged_of w.master).table.chunks (λ handle row. IsRow w g handle row)
  -- the lease under which a number is issued has ended, and so has that of a chunk that is being copied
  pub attempted : EachEntry w.master.attempts (λ handle a. IfRow w handle (λ row. row.lease_end ≤ w.master.now))
  pub copied : EachEntry w.master.logged.copies (λ copy c. IfRow w c.source (λ row. (row.lease_end ≤ w.master.now) × IsOver w g c.source row.granted))
  pub waited : AllByRecursion (IsWaitedFor w) w.master.snapshots
