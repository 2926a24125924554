-- Laws of every lawful list of events on replicas, that public functions of this crate state.
use Rattle.std.specs.Prelude.{◌≡◌, ◌⊎◌, ◌≤◌, ◌<◌, ◌+◌, ◌-◌, ℕ, List, length, replicate, Some, None}
use Rattle.std.specs.FinMap as table
use Rattle.gfs_types.specs.declared.config.Config.{Config}
use Rattle.gfs_types.specs.declared.ids.DataId.{DataId}
use Rattle.gfs_types.specs.declared.ids.Handle.{Handle}
use Rattle.gfs_types.specs.declared.ids.Version.{Version}
use Rattle.gfs_types.specs.declared.ids.Serial.{Serial}
use Rattle.gfs_types.specs.declared.mutation.Mutation.{Mutation}
use Rattle.gfs_types.specs.declared.mutation.Mutation.TheVariants.{Write, Append, Pad}
use Rattle.messages.specs.declared.event.NodeInput.{NodeInput}
use Rattle.data_push.specs.Buffers.{data_of}
use Rattle.replica_store.specs.Replicas.{Replica, ServerDisk, replica_of, written_replica}
use Rattle.primary_order.specs.SerialOrder.{SerialOrder}
use Rattle.protocol.specs.Tables.{element_at}
use Rattle.protocol.specs.Choice.{Choice}
use Rattle.protocol.specs.declared.seen.Seen.TheVariants.{Numbered}
use Rattle.protocol.specs.Server.{chunk_limit, ServerState}
use Rattle.protocol.specs.ServerStep.{found_disk, server_step}
use Rattle.protocol.specs.World.{WorldState, IsReached}

-- each replica has at most so many bytes, in a chunk that has all of its own
abbrev pub IsWithinChunk : ℕ → Replica → Type 0
IsWithinChunk size r = (r.count ≤ size) × (length r.bytes ≡ size)

abbrev pub AreWithin : ℕ → ServerDisk → Type 0
AreWithin size d = (d.chunk ≡ size) × ((handle : ℕ) (r : Replica) → replica_of d handle ≡ Some r → IsWithinChunk size r)

-- Each replica lies within the chunk, on the disk and on what a restart finds there, however the change under way is decided (sections 2.3 and 5.2).
abbrev pub ReplicasLieWithinTheChunk : Type 0
ReplicasLieWithinTheChunk =
    (config : Config) (servers clients : ℕ) (w : WorldState) → IsReached config servers clients w → (index : ℕ) (s : ServerState) → element_at w.servers index ≡ Some s
    → AreWithin config.chunk s.disk × ((choice : Choice) → AreWithin config.chunk (found_disk s choice))

-- there is a replica of just this version of the chunk
abbrev pub HasReplicaOf : ServerDisk → ℕ → ℕ → Type 0
HasReplicaOf d handle version = (r : Replica) × (replica_of d handle ≡ Some r) × (r.version ≡ version)

-- A server that holds a lease of a chunk has a replica of just that version (section 3.1).
abbrev pub LeasesHaveTheirReplica : Type 0
LeasesHaveTheirReplica =
    (config : Config) (servers clients : ℕ) (w : WorldState) → IsReached config servers clients w → (index : ℕ) (s : ServerState) → element_at w.servers index ≡ Some s
    → (handle : ℕ) (p : SerialOrder) → table.get s.leases handle ≡ Some p → HasReplicaOf s.disk handle p.held.version

-- Where these data are placed in a chunk of this size by a primary whose replica has so many bytes: a record just behind them where it fits, else a pad there; a write within the chunk.
abbrev pub IsPlacedBehind : (size count : ℕ) → List ℕ → Mutation → Type 0
IsPlacedBehind size count bytes (Write offset written) = (written ≡ bytes) × (offset + length written ≤ size)
IsPlacedBehind size count bytes (Append offset written) = (written ≡ bytes) × (offset ≡ count) × (offset + length written ≤ size)
IsPlacedBehind size count bytes (Pad offset end) = (offset ≡ count) × (offset < size) × (size < offset + length bytes) × (end ≡ size)

-- how a server numbers a mutation: under a lease that it holds, of data that it keeps, and by its own replica of that version
pub record IsPlacedByReplica (s : ServerState) (handle version serial : ℕ) (id : DataId) (m : Mutation) : Type 0 where
  pub lease : SerialOrder
  pub lease_is : table.get s.leases handle ≡ Some lease
  pub version_is : version ≡ lease.held.version
  pub serial_is : serial ≡ lease.serial + 1
  pub replica : Replica
  pub replica_is : replica_of s.disk handle ≡ Some replica
  pub replica_version : replica.version ≡ version
  pub bytes : List ℕ
  pub pushed : data_of s.pushed id ≡ Some bytes
  -- within the size that came with the lease, and within a slot
  pub placed : IsPlacedBehind (chunk_limit s lease.chunk) replica.count bytes m

-- Each mutation is numbered so: within the chunk, a record or a pad just behind what the primary's replica has (sections 3.1 and 3.3).
abbrev pub MutationsArePlacedByReplicas : Type 0
MutationsArePlacedByReplicas =
    (config : Config) (servers clients : ℕ) (w : WorldState) → IsReached config servers clients w → (index : ℕ) (s : ServerState) → element_at w.servers index ≡ Some s
    → (moment : ℕ) (i : NodeInput) (choice : Choice) (place : ℕ) (handle : Handle) (version : Version) (serial : Serial) (id : DataId) (m : Mutation)
    → element_at (server_step s moment i choice).seen place ≡ Some (Numbered handle version serial id m)
    → IsPlacedByReplica s handle.0 version.0 serial.0 id m

-- what a mutation makes of a replica
abbrev pub applied : (block serial : ℕ) → Mutation → Replica → Replica
applied block serial (Write offset bytes) r = written_replica block r serial offset bytes
applied block serial (Append offset bytes) r = written_replica block r serial offset bytes
applied block serial (Pad offset end) r = written_replica block r serial offset (replicate (end - offset) 0)

-- the replica became so between these states of a disk
abbrev pub IsApplied : ServerDisk → ServerDisk → (handle serial : ℕ) → Mutation → Type 0
IsApplied before after handle serial m = (r : Replica) × (replica_of before handle ≡ Some r) × (replica_of after handle ≡ Some (applied before.block serial m r))

-- A server that numbers a mutation applies it in the same step, or holds no lease of the chunk after it (section 3.1).
abbrev pub PrimariesApplyWhatTheyNumber : Type 0
PrimariesApplyWhatTheyNumber =
    (s : ServerState) (moment : ℕ) (i : NodeInput) (choice : Choice) (place : ℕ) (handle : Handle) (version : Version) (serial : Serial) (id : DataId) (m : Mutation)
    → element_at (server_step s moment i choice).seen place ≡ Some (Numbered handle version serial id m)
    → (table.get (server_step s moment i choice).state.leases handle.0 ≡ None) ⊎ IsApplied s.disk (server_step s moment i choice).state.disk handle.0 serial.0 m
