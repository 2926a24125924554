-- The law of every lawful list of events on what primaries number, that a public function of this crate states.
use Rattle.std.specs.Prelude.{◌≡◌, ℕ, ◌+◌, List, Some}
use Rattle.gfs_types.specs.declared.config.Config.{Config}
use Rattle.gfs_types.specs.declared.ids.DataId.{DataId}
use Rattle.gfs_types.specs.declared.ids.Handle.{Handle}
use Rattle.gfs_types.specs.declared.ids.Version.{Version}
use Rattle.gfs_types.specs.declared.ids.Serial.{Serial}
use Rattle.gfs_types.specs.declared.ids.Moment.{Moment}
use Rattle.gfs_types.specs.declared.mutation.Mutation.{Mutation}
use Rattle.gfs_types.specs.declared.mutation.Mutation.TheVariants as mutation
use Rattle.messages.specs.declared.event.NodeInput.{NodeInput}
use Rattle.messages.specs.declared.event.NodeInput.TheVariants as input
use Rattle.messages.specs.declared.message.Message.{Message}
use Rattle.messages.specs.declared.message.Body.TheVariants as body
use Rattle.messages.specs.declared.message.Target.{Target}
use Rattle.messages.specs.declared.message.Target.TheVariants as target
use Rattle.primary_order.specs.SerialOrder.{SerialOrder, IsNew, attempted}
use Rattle.protocol.specs.Tables.{element_at}
use Rattle.protocol.specs.Sending.{the_client}
use Rattle.protocol.specs.Choice.{Choice}
use Rattle.protocol.specs.declared.seen.Seen.TheVariants.{Numbered}
use Rattle.protocol.specs.Server.{ServerState, primary_of}
use Rattle.protocol.specs.ServerStep.{server_at, server_step}
use Rattle.protocol.specs.World.{WorldState, IsReached}

abbrev pub IsAmong : List Message → Message → Type 0
IsAmong ms m = (place : ℕ) × (element_at ms place ≡ Some m)

-- the client of the data sent them
pub record IsPushed (sent : List Message) (id : DataId) (bytes : List ℕ) : Type 0 where
  pub push : Message
  pub rest : List ℕ
  pub sent_is : IsAmong sent push
  pub sender_is : push.sender ≡ the_client id.client.0
  pub body_is : push.body ≡ body.Push id bytes rest

-- what may be placed of these data for a target: they, or for a record a pad
abbrev pub IsPlacedFor : Target → List ℕ → Mutation → Type 0
IsPlacedFor (target.Write at) bytes (mutation.Write offset written) = (offset ≡ at) × (written ≡ bytes)
IsPlacedFor target.Append bytes (mutation.Append offset written) = written ≡ bytes
IsPlacedFor target.Append bytes (mutation.Pad offset end) = Unit {0}
IsPlacedFor other bytes m = ⊥

-- This message asks a server to place the data of its own sender, which pushed them; and the server holds a lease of this version that counts, under which the number is new and the serial the next one.
pub record IsAskedFor (s : ServerState) (sent : List Message) (m : Message) (handle : Handle) (version : Version) (serial : Serial) (id : DataId) (placed : Mutation) : Type 0 where
  pub aim : Target
  pub deadline : Moment
  pub body_is : m.body ≡ body.Mutate id handle version aim deadline
  pub sender_is : m.sender ≡ the_client id.client.0
  pub bytes : List ℕ
  pub pushed : IsPushed sent id bytes
  pub fits : IsPlacedFor aim bytes placed
  pub lease : SerialOrder
  pub lease_is : primary_of s handle.0 version.0 ≡ Some lease
  pub next : serial.0 ≡ lease.serial + 1
  pub new : attempted lease id.client id.seq ≡ IsNew

-- A mutation is numbered only as a Mutate is taken that was sent by the client of the data (sections 3.1 and 3.3).
abbrev pub NumberedMutationsWereAskedFor : Type 0
NumberedMutationsWereAskedFor =
    (config : Config) (servers clients : ℕ) (w : WorldState) → IsReached config servers clients w
    → (index : ℕ) (s : ServerState) → element_at w.servers index ≡ Some s → (moment : ℕ) (i : NodeInput) (choice : Choice) → ((m : Message) → i ≡ input.Deliver m → IsAmong w.sent m)
    → (place : ℕ) (handle : Handle) (version : Version) (serial : Serial) (id : DataId) (placed : Mutation) → element_at (server_step s moment i choice).seen place ≡ Some (Numbered handle version serial id placed)
    → (m : Message) × (i ≡ input.Deliver m) × IsAskedFor (server_at s moment) w.sent m handle version serial id placed
