-- The law of every lawful list of events on serials, that a public function of this crate states.
use Rattle.std.specs.Prelude.{◌≡◌, ℕ, List, Some}
use Rattle.gfs_types.specs.declared.config.Config.{Config}
use Rattle.gfs_types.specs.declared.ids.DataId.{DataId}
use Rattle.gfs_types.specs.declared.ids.Handle.{Handle}
use Rattle.gfs_types.specs.declared.ids.Version.{Version}
use Rattle.gfs_types.specs.declared.ids.Serial.{Serial}
use Rattle.gfs_types.specs.declared.mutation.Mutation.{Mutation}
use Rattle.messages.specs.declared.event.Event.{Event}
use Rattle.messages.specs.declared.event.NodeInput.{NodeInput}
use Rattle.messages.specs.declared.event.NodeInput.TheVariants as input
use Rattle.messages.specs.declared.message.Message.{Message}
use Rattle.protocol.specs.Tables.{element_at}
use Rattle.protocol.specs.Choice.{Choice}
use Rattle.protocol.specs.declared.seen.Seen.TheVariants.{Numbered}
use Rattle.protocol.specs.Server.{ServerState}
use Rattle.protocol.specs.ServerStep.{server_step}
use Rattle.protocol.specs.World.{WorldState, after_server, happens, after_events, IsReached}

-- In a step, on a message that was sent or a tick, a server gives this serial to a mutation, under this version of a chunk.
pub record Gives (w : WorldState) (index moment : ℕ) (s : ServerState) (i : NodeInput) (choice : Choice) (handle : Handle) (version : Version) (serial : Serial) : Type 0 where
  pub is : element_at w.servers index ≡ Some s
  pub came : (m : Message) → i ≡ input.Deliver m → (place : ℕ) × (element_at w.sent place ≡ Some m)
  pub place : ℕ
  pub id : DataId
  pub placed : Mutation
  pub seen : element_at (server_step s moment i choice).seen place ≡ Some (Numbered handle version serial id placed)

-- After an event by which a server gave a serial, no step of a server gives it again under the same version of the chunk.
abbrev pub SerialsAreGivenOnce : Type 0
SerialsAreGivenOnce =
    (config : Config) (servers clients : ℕ) (w : WorldState) → IsReached config servers clients w → (e : Event) (choice : Choice) (handle : Handle) (version : Version) (serial : Serial)
    → (index moment : ℕ) (s : ServerState) (i : NodeInput) (taken : Choice) → Gives w index moment s i taken handle version serial → happens w e choice ≡ after_server w index moment (server_step s moment i taken)
    → (steps : List (Event × Choice)) (other later : ℕ) (t : ServerState) (j : NodeInput) (then_ : Choice) → Gives (after_events (happens w e choice).world steps) other later t j then_ handle version serial → ⊥
