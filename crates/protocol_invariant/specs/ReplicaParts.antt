-- Replicas: one at a version has applied, in order, entries of rounds up to it, and all settled ones among these; a primary that may count has all of its round.
use Rattle.std.specs.Prelude.{◌≡◌, ◌⊎◌, ℕ, ◌-◌, ◌≤◌, ◌<◌, List, Option, Some, IsSomeAnd, IsSome, IsTrue, IsFalse, find, None, IfSome}
use Rattle.std.specs.List.{AllByRecursion}
use Rattle.std.specs.FinMap as table
use Rattle.gfs_types.specs.Image.{image}
use Rattle.gfs_types.specs.Mutations.{end_of}
use Rattle.gfs_types.specs.declared.ids.DataId.{DataId}
use Rattle.messages.specs.declared.message.Change.{Change}
use Rattle.messages.specs.declared.message.Message.{Message}
use Rattle.messages.specs.declared.message.Body.{Body}
use Rattle.messages.specs.declared.message.Body.TheVariants as body
use Rattle.relaxed_file.specs.Order.{mutations_of}
use Rattle.protocol.specs.Tables.{has_number}
use Rattle.protocol.specs.Sending.{server_number}
use Rattle.primary_order.specs.SerialOrder.{SerialOrder}
use Rattle.primary_order.specs.declared.waiting.Waiting.{Waiting}
use Rattle.replica_store.specs.Replicas.{replica_of}
use Rattle.protocol.specs.Server.{ServerState}
use Rattle.protocol.specs.ServerWrites.{change_of}
use Rattle.gfs_types.specs.declared.mutation.Mutation.{Mutation}
use Rattle.gfs_types.specs.declared.mutation.Mutation.TheVariants as mutation
use Rattle.primary_order.specs.PrimaryOrder.{place_of}
use Rattle.protocol.specs.Observer.{Placed, order_of, is_placed_as}
use Rattle.protocol.specs.StoredBytes.{stored_bytes}
use Rattle.protocol.specs.World.{WorldState}
use Rattle.protocol.specs.Each.{EachEntry, EachServer, EachReplica, AtReplica}
use Rattle.protocol_invariant.specs.Sent.{Granted, under, get_under, grant_of}
use Rattle.protocol_invariant.specs.Ghost.{Ghost, EntryName, is_named, named_in, entries_among, applied_at}
use Rattle.protocol_invariant.specs.Leases.{IsEnded, IsOver, IsStaleAt}

-- What a replica up to a version has applied of an order: none of a later round, and each settled one up to it.
abbrev pub IsApplied : ℕ → List EntryName → List Placed → Type 0
IsApplied last names order =
    AllByRecursion (λ p. (IsTrue (is_named names p) → p.entry.round ≤ last) × (IsTrue p.entry.settled → p.entry.round ≤ last → IsTrue (is_named names p))) order

-- the entry of an order that has this name
abbrev pub entry_named : List Placed → ℕ → ℕ → Option Placed
entry_named order version serial = find (is_placed_as version serial) order

-- Bytes, at a version with a last serial, against an order and what of it was applied.
pub record IsImageOf (order : List Placed) (version serial : ℕ) (bytes : List ℕ) (names : List EntryName) : Type 0 where
  pub applied : IsApplied version names order
  pub bytes_are : bytes ≡ image (mutations_of (entries_among (named_in order names)))
  -- each name is an entry's, and of the version's own it has applied serials up to the last one
  pub named : AllByRecursion (λ n. IsSomeAnd (entry_named order n.round n.serial) (λ p. n.round ≡ version → n.serial ≤ serial)) names
  -- the last serial is an entry's, or none was given under this version
  pub last : (serial ≡ 0) ⊎ IsSome (entry_named order version serial)

-- that server's replica, while it is at that version, has applied that serial; or its lease is over
abbrev pub HasApplied : WorldState → Ghost → ℕ → ℕ → ℕ → ℕ → Type 0
HasApplied w g server handle version serial =
    IsOver w g handle version
    ⊎ AtReplica w server handle (λ r. r.version ≡ version → IsSomeAnd (entry_named (named_in (order_of w.observer handle) (applied_at g server handle)) version serial) (λ p. Unit {0}))

-- A mutation that waits: it stands, unsettled, and the members that are not waited for have applied it.
pub record IsWaiting (w : WorldState) (g : Ghost) (handle : ℕ) (p : SerialOrder) (serial : ℕ) (a : Waiting) : Type 0 where
  pub entry : IsSomeAnd (entry_named (order_of w.observer handle) p.held.version serial) (λ q.
      IsFalse q.entry.settled × (q.entry.call.client ≡ a.client.0) × (q.seq ≡ a.seq) × (place_of q.entry.mutation ≡ a.place))
  pub within : serial ≤ p.serial
  pub acknowledged : AllByRecursion (λ server. IsTrue (has_number a.members server) ⊎ HasApplied w g server handle p.held.version serial) p.held.members

-- A primary whose lease may count: its replica has its last serial and all entries of its round, which is the last.
pub record IsPrimary (w : WorldState) (g : Ghost) (server : ℕ) (s : ServerState) (handle : ℕ) (p : SerialOrder) : Type 0 where
  pub replica : IsSomeAnd (replica_of s.disk handle) (λ r. (r.version ≡ p.held.version) × (r.serial ≡ p.serial))
  pub has_all : AllByRecursion (λ q. (q.entry.round ≤ p.held.version) × (q.entry.round ≡ p.held.version → IsTrue (is_named (applied_at g server handle) q) × (q.serial ≤ p.serial))) (order_of w.observer handle)
  pub waiting : EachEntry p.waiting (λ serial a. IsWaiting w g handle p serial a)

-- From the Grant of the last version on, while its lease may count: its members alone hold it, and nobody a later one, nor will.
abbrev pub AreHolders : WorldState → Ghost → ℕ → ℕ → Granted → Type 0
AreHolders w g handle version grant =
    IsEnded w handle version grant
    ⊎ (EachReplica w (λ server s held r. held ≡ handle → (r.version ≤ version) × (r.version ≡ version → IsTrue (has_number grant.members server)))
    × EachEntry (under g.sent.given handle) (λ given servers. given ≤ version)
    × EachEntry (under (under g.sent.given handle) version) (λ server order. IsTrue (has_number grant.members server) × IsStaleAt w server order))

-- what a server keeps as pushed is what the client pushed
abbrev pub IsPushed : Ghost → DataId × List ℕ → Type 0
IsPushed g e = get_under g.sent.pushes e.0.client.0 e.0.seq ≡ Some e.1

-- the bytes that a mutation carries; a pad carries none
abbrev pub carried_by : Mutation → Option (List ℕ)
carried_by (mutation.Write offset bytes) = Some bytes
carried_by (mutation.Append offset bytes) = Some bytes
carried_by (mutation.Pad offset end) = None

-- An entry ends within the largest chunk; what it puts there, but for a pad, is what was pushed for it.
abbrev pub IsEntry : WorldState → Ghost → Placed → Type 0
IsEntry w g p =
    (end_of p.entry.mutation ≤ w.config.chunk)
    × IfSome (carried_by p.entry.mutation) (λ bytes. get_under g.sent.pushes p.entry.call.client p.seq ≡ Some bytes)

pub record AreReplicas (w : WorldState) (g : Ghost) : Type 0 where
  pub replicas : EachReplica w (λ server s handle r. IsImageOf (order_of w.observer handle) r.version r.serial (stored_bytes w.observer (server - 1) handle s.disk r) (applied_at g server handle))
  pub primaries : EachServer w (λ server s. EachEntry s.leases (λ handle p. w.observer.greatest < p.held.until → IsPrimary w g server s handle p))
  pub holders : EachEntry g.sent.grants (λ handle grants. EachEntry grants (λ version grant. AreHolders w g handle version grant))
  pub pushed : EachServer w (λ server s. AllByRecursion (IsPushed g) s.pushed.entries)
  pub entries : EachEntry w.observer.orders (λ handle order. AllByRecursion (IsEntry w g) order)

-- A forwarded mutation is an entry's, and goes with the size of the chunk that its version was granted with.
abbrev pub IsForward : WorldState → Ghost → ℕ → ℕ → ℕ → DataId → ℕ → Change → Type 0
IsForward w g handle version serial id chunk c =
    IsSomeAnd (grant_of g.sent handle version) (λ grant. grant.chunk ≡ chunk) ×
    IsSomeAnd (entry_named (order_of w.observer handle) version serial) (λ p. (p.entry.call.client ≡ id.client.0) × (p.seq ≡ id.seq) × (change_of p.entry.mutation ≡ c))

-- what messages about replicas say
abbrev pub ReplicaSays : WorldState → Ghost → Message → Body → Type 0
ReplicaSays w g x (body.Push id bytes rest) = get_under g.sent.pushes id.client.0 id.seq ≡ Some bytes
ReplicaSays w g x (body.Forward handle version serial id chunk c) = IsForward w g handle.0 version.0 serial.0 id chunk c
ReplicaSays w g x (body.Acked handle version serial) = HasApplied w g (server_number x.sender) handle.0 version.0 serial.0
ReplicaSays w g x (body.Image handle version serial bytes) =
    IsSomeAnd (table.get g.images x.number) (IsImageOf (order_of w.observer handle.0) version.0 serial.0 bytes)
ReplicaSays w g x other = Unit {0}

abbrev pub ReplicaInFlight : WorldState → Ghost → Message → Type 0
ReplicaInFlight w g x = ReplicaSays w g x x.body
