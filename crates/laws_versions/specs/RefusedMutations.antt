-- The law of what a member says of a mutation that it doesn't apply, that a public function of this crate states.
use Rattle.std.specs.Prelude.{◌≡◌, ◌≢◌, ◌≤◌, ℕ, false, Some, None}
use Rattle.gfs_types.specs.declared.ids.DataId.{DataId}
use Rattle.gfs_types.specs.declared.ids.Handle.{Handle}
use Rattle.gfs_types.specs.declared.ids.Serial.{Serial}
use Rattle.gfs_types.specs.declared.ids.Version.{Version}
use Rattle.gfs_types.specs.declared.refusal.Refusal.{Refusal}
use Rattle.gfs_types.specs.declared.refusal.Refusal.TheVariants as refusal
use Rattle.messages.specs.declared.event.NodeInput.{NodeInput}
use Rattle.messages.specs.declared.event.NodeInput.TheVariants.{Deliver}
use Rattle.messages.specs.declared.message.Body.TheVariants as body
use Rattle.messages.specs.declared.message.Change.{Change}
use Rattle.messages.specs.declared.message.Message.{Message}
use Rattle.data_push.specs.Buffers.{data_of}
use Rattle.replica_store.specs.declared.row.Row.{Row}
use Rattle.replica_store.specs.Replicas.{replica_of, row_at, is_writable_at}
use Rattle.protocol.specs.Tables.{element_at}
use Rattle.protocol.specs.Choice.{Choice}
use Rattle.protocol.specs.Server.{ServerState}
use Rattle.protocol.specs.ServerStep.{server_step}

-- The cause of a refusal, by the member before and after its step: it has no replica, or one of another version, or of this version with this serial or a later one, or not the data; or some range of it can't be written, and then its replica goes.
abbrev pub IsRefusedFor : (before after : ServerState) → (handle version serial : ℕ) → DataId → Refusal → Type 0
IsRefusedFor before after handle version serial id refusal.NoChunk = replica_of before.disk handle ≡ None
IsRefusedFor before after handle version serial id refusal.Version = (r : Row) × (row_at before.disk handle ≡ Some r) × (r.version.0 ≢ version)
IsRefusedFor before after handle version serial id refusal.OldSerial = (r : Row) × (row_at before.disk handle ≡ Some r) × (r.version.0 ≡ version) × (serial ≤ r.serial.0)
IsRefusedFor before after handle version serial id refusal.NoData = data_of before.pushed id ≡ None
IsRefusedFor before after handle version serial id refusal.Corrupt = ((from to : ℕ) × (is_writable_at before.disk handle from to ≡ false)) × (replica_of after.disk handle ≡ None)
IsRefusedFor before after handle version serial id other = ⊥

-- the step takes a Forward of this mutation from this node, which it refuses for that cause
pub record IsRefusal (before after : ServerState) (i : NodeInput) (m : Message) (handle : Handle) (version : Version) (serial : Serial) (cause : Refusal) : Type 0 where
  pub forward : Message
  pub id : DataId
  pub chunk : ℕ
  pub named : Change
  pub input_is : i ≡ Deliver forward
  pub body_is : forward.body ≡ body.Forward handle version serial id chunk named
  pub sender_is : forward.sender ≡ m.receiver
  pub caused : IsRefusedFor before after handle.0 version.0 serial.0 id cause

-- A server that sends a Nacked takes a Forward of that version and serial in this step, which it refuses for a cause (section 3.1).
abbrev pub NackedMutationsWereForwarded : Type 0
NackedMutationsWereForwarded =
    (s : ServerState) (moment : ℕ) (i : NodeInput) (choice : Choice) (place : ℕ) (m : Message) → element_at (server_step s moment i choice).out.sent place ≡ Some m
    → (handle : Handle) (version : Version) (serial : Serial) (cause : Refusal) → m.body ≡ body.Nacked handle version serial cause
    → IsRefusal s (server_step s moment i choice).state i m handle version serial cause
