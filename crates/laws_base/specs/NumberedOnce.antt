-- The law of every lawful list of events on how often a number is placed, that a public function of this crate states.
use Rattle.std.specs.Prelude.{◌≡◌, ℕ, List, Some}
use Rattle.gfs_types.specs.declared.config.Config.{Config}
use Rattle.gfs_types.specs.declared.ids.DataId.{DataId}
use Rattle.gfs_types.specs.declared.ids.Handle.{Handle}
use Rattle.gfs_types.specs.declared.ids.Version.{Version}
use Rattle.gfs_types.specs.declared.ids.Serial.{Serial}
use Rattle.gfs_types.specs.declared.mutation.Mutation.{Mutation}
use Rattle.messages.specs.declared.event.Event.{Event}
use Rattle.messages.specs.declared.event.NodeInput.{NodeInput}
use Rattle.messages.specs.declared.event.NodeInput.TheVariants as input
use Rattle.messages.specs.declared.message.Message.{Message}
use Rattle.protocol.specs.Tables.{element_at}
use Rattle.protocol.specs.Choice.{Choice}
use Rattle.protocol.specs.declared.seen.Seen.TheVariants.{Numbered}
use Rattle.protocol.specs.Server.{ServerState}
use Rattle.protocol.specs.ServerStep.{server_step}
use Rattle.protocol.specs.World.{WorldState, after_server, happens, after_events, IsReached}

abbrev pub IsAmong : List Message → Message → Type 0
IsAmong ms m = (place : ℕ) × (element_at ms place ≡ Some m)

-- In a step, on a message that was sent or a tick, a server numbers a mutation of these data under this version of a chunk.
pub record Numbers (w : WorldState) (index moment : ℕ) (s : ServerState) (i : NodeInput) (choice : Choice) (handle : Handle) (version : Version) (id : DataId) : Type 0 where
  pub is : element_at w.servers index ≡ Some s
  pub came : (m : Message) → i ≡ input.Deliver m → IsAmong w.sent m
  pub place : ℕ
  pub serial : Serial
  pub placed : Mutation
  pub seen : element_at (server_step s moment i choice).seen place ≡ Some (Numbered handle version serial id placed)

-- After an event by which a server numbered a mutation, no step of a server numbers one of the same data under the same version of the chunk.
abbrev pub NumbersArePlacedOnce : Type 0
NumbersArePlacedOnce =
    (config : Config) (servers clients : ℕ) (w : WorldState) → IsReached config servers clients w → (e : Event) (choice : Choice) (handle : Handle) (version : Version) (id : DataId)
    → (index moment : ℕ) (s : ServerState) (i : NodeInput) (taken : Choice) → Numbers w index moment s i taken handle version id → happens w e choice ≡ after_server w index moment (server_step s moment i taken)
    → (steps : List (Event × Choice)) (other later : ℕ) (t : ServerState) (j : NodeInput) (then_ : Choice) → Numbers (after_events (happens w e choice).world steps) other later t j then_ handle version id → ⊥
