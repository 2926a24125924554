-- The law of every lawful list of events on why a chunk is told to be full, that a public function of this crate states.
use Rattle.std.specs.Prelude.{◌≡◌, ◌⊎◌, ℕ, List, Some, ◌≤◌}
use Rattle.std.specs.FinMap as table
use Rattle.gfs_types.specs.declared.config.Config.{Config}
use Rattle.gfs_types.specs.declared.ids.DataId.{DataId}
use Rattle.gfs_types.specs.declared.ids.Handle.{Handle}
use Rattle.gfs_types.specs.declared.ids.Version.{Version}
use Rattle.gfs_types.specs.declared.ids.Serial.{Serial}
use Rattle.gfs_types.specs.declared.ids.Moment.{Moment}
use Rattle.gfs_types.specs.declared.mutation.Mutation.TheVariants.{Pad}
use Rattle.gfs_types.specs.declared.refusal.Refusal.TheVariants.{ChunkFull}
use Rattle.messages.specs.declared.event.Event.{Event}
use Rattle.messages.specs.declared.event.NodeInput.{NodeInput}
use Rattle.messages.specs.declared.event.NodeInput.TheVariants as input
use Rattle.messages.specs.declared.message.Body.TheVariants as body
use Rattle.messages.specs.declared.message.Message.{Message}
use Rattle.messages.specs.declared.message.Target.{Target}
use Rattle.replica_store.specs.declared.row.Row.{Row}
use Rattle.replica_store.specs.Replicas.{row_at}
use Rattle.primary_order.specs.SerialOrder.{SerialOrder}
use Rattle.protocol.specs.Tables.{element_at}
use Rattle.protocol.specs.Sending.{data_id, the_client}
use Rattle.protocol.specs.Choice.{Choice}
use Rattle.protocol.specs.declared.seen.Seen.TheVariants.{Numbered}
use Rattle.protocol.specs.Server.{chunk_limit, ServerState}
use Rattle.protocol.specs.ServerStep.{server_goes, server_step}
use Rattle.protocol.specs.World.{WorldState, Happened, new_world, after_server, after_events}
use Rattle.laws_base.specs.Entries.{IsAmong}
use Rattle.laws_base.specs.ChunkOrders.{CameAbout}

-- the server's replica of the chunk has as many bytes as a chunk of this size may have
abbrev pub IsReplicaFull : ℕ → ServerState → Handle → Type 0
IsReplicaFull size s handle = (r : Row) × (row_at s.disk handle.0 ≡ Some r) × (size ≤ r.count)

-- the server numbers a pad of these data up to the end of a chunk of this size, where nothing hinders its step
abbrev pub IsPadded : ℕ → ServerState → ℕ → NodeInput → Handle → DataId → Type 0
IsPadded size s moment i handle id = (place : ℕ) × (version : Version) × (serial : Serial) × (offset : ℕ) × (element_at (server_goes s moment i).seen place ≡ Some (Numbered handle version serial id (Pad offset size)))

-- By what happened in this world a server took the Mutate of these data, under a lease that it held, and its own replica of that chunk was full, or it placed a pad of them there; the size is that of the lease, within a slot.
pub record IsFullNow (w : WorldState) (x : Happened) (id : DataId) : Type 0 where
  pub index : ℕ
  pub moment : ℕ
  pub server : ServerState
  pub taking : NodeInput
  pub choice : Choice
  pub is : element_at w.servers index ≡ Some server
  pub asked : Message
  pub handle : Handle
  pub version : Version
  pub aim : Target
  pub deadline : Moment
  pub sent_is : IsAmong w.sent asked
  pub taken : taking ≡ input.Deliver asked
  pub body_is : asked.body ≡ body.Mutate id handle version aim deadline
  pub step_is : x ≡ after_server w index moment (server_step server moment taking choice)
  pub lease : SerialOrder
  pub lease_is : table.get server.leases handle.0 ≡ Some lease
  pub lease_version : lease.held.version ≡ version.0
  pub full : IsReplicaFull (chunk_limit server lease.chunk) server handle ⊎ IsPadded (chunk_limit server lease.chunk) server moment taking handle id

-- Each ChunkFull that was told of a client's data came about so (section 3.3).
abbrev pub FullChunksAreToldAsFull : Type 0
FullChunksAreToldAsFull =
    (config : Config) (servers clients : ℕ) (steps : List (Event × Choice)) (place : ℕ) (m : Message) → element_at (after_events (new_world config servers clients) steps).sent place ≡ Some m
    → (client number : ℕ) → m.receiver ≡ the_client client → m.body ≡ body.Refused number ChunkFull
    → CameAbout (λ w x. IsFullNow w x (data_id client number)) (new_world config servers clients) steps
