-- The laws of every lawful list of events on attempts that are over, that public functions of this crate state.
use Rattle.std.specs.Prelude.{◌≡◌, ℕ, ◌+◌, ◌≤◌, ◌<◌, List, Some, IsTrue}
use Rattle.gfs_types.specs.declared.config.Config.{Config}
use Rattle.gfs_types.specs.declared.ids.DataId.{DataId}
use Rattle.gfs_types.specs.declared.ids.Handle.{Handle}
use Rattle.gfs_types.specs.declared.ids.Version.{Version}
use Rattle.gfs_types.specs.declared.ids.Serial.{Serial}
use Rattle.gfs_types.specs.declared.ids.Moment.{Moment}
use Rattle.gfs_types.specs.declared.mutation.Mutation.{Mutation}
use Rattle.messages.specs.declared.event.Event.{Event}
use Rattle.messages.specs.declared.event.NodeInput.{NodeInput}
use Rattle.messages.specs.declared.event.NodeInput.TheVariants as input
use Rattle.messages.specs.declared.message.Message.{Message}
use Rattle.messages.specs.declared.message.Body.TheVariants as body
use Rattle.messages.specs.declared.message.Target.{Target}
use Rattle.protocol.specs.Tables.{element_at}
use Rattle.protocol.specs.Sending.{the_client}
use Rattle.protocol.specs.Choice.{Choice}
use Rattle.protocol.specs.declared.seen.Seen.TheVariants.{Numbered}
use Rattle.protocol.specs.Observer.{Observer, observed_moment}
use Rattle.protocol.specs.Server.{ServerState}
use Rattle.protocol.specs.ServerStep.{server_at, server_step}
use Rattle.protocol.specs.World.{WorldState, after_events, IsReached}

abbrev pub IsAmong : List Message → Message → Type 0
IsAmong ms m = (place : ℕ) × (element_at ms place ≡ Some m)

-- A server's step, on a message that was sent or a tick, in which it numbers a mutation of these data.
pub record Numbers (w : WorldState) (index moment : ℕ) (s : ServerState) (i : NodeInput) (choice : Choice) (handle : Handle) (version : Version) (id : DataId) : Type 0 where
  pub is : element_at w.servers index ≡ Some s
  pub came : (m : Message) → i ≡ input.Deliver m → IsAmong w.sent m
  pub place : ℕ
  pub serial : Serial
  pub placed : Mutation
  pub seen : element_at (server_step s moment i choice).seen place ≡ Some (Numbered handle version serial id placed)

-- The message asks to place these data before this deadline, which the server's clock has not reached; nor, where clocks are kept, has the greatest moment reached it by more than the clock bound.
pub record IsInTime (s : ServerState) (moment skew : ℕ) (after : Observer) (m : Message) (handle : Handle) (version : Version) (id : DataId) : Type 0 where
  pub aim : Target
  pub deadline : Moment
  pub sender_is : m.sender ≡ the_client id.client.0
  pub body_is : m.body ≡ body.Mutate id handle version aim deadline
  pub early : (server_at s moment).now < deadline.0
  pub timely : IsTrue after.are_clocks_kept → after.greatest < deadline.0 + skew

-- A mutation is numbered only before the deadline of the Mutate that asks for it.
abbrev pub AttemptsArePlacedBeforeTheirDeadline : Type 0
AttemptsArePlacedBeforeTheirDeadline =
    (config : Config) (servers clients : ℕ) (w : WorldState) → IsReached config servers clients w
    → (index moment : ℕ) (s : ServerState) (i : NodeInput) (choice : Choice) (handle : Handle) (version : Version) (id : DataId) → Numbers w index moment s i choice handle version id
    → (m : Message) × (i ≡ input.Deliver m) × IsInTime s moment config.skew_ms (observed_moment config.skew_ms w.observer moment) m handle version id

-- a client asked to place these data, by an attempt whose deadline and the clock bound are past
pub record IsOver (w : WorldState) (skew : ℕ) (id : DataId) : Type 0 where
  pub asked : Message
  pub handle : Handle
  pub version : Version
  pub aim : Target
  pub deadline : Moment
  pub sent_is : IsAmong w.sent asked
  pub sender_is : asked.sender ≡ the_client id.client.0
  pub body_is : asked.body ≡ body.Mutate id handle version aim deadline
  pub past : deadline.0 + skew ≤ w.observer.greatest

-- Where clocks are kept, nothing is numbered any more for an attempt that is over.
abbrev pub OverAttemptsArePlacedNoMore : Type 0
OverAttemptsArePlacedNoMore =
    (config : Config) (servers clients : ℕ) (w : WorldState) → IsReached config servers clients w → (id : DataId) → IsOver w config.skew_ms id
    → (steps : List (Event × Choice)) (index moment : ℕ) → IsTrue (observed_moment config.skew_ms (after_events w steps).observer moment).are_clocks_kept
    → (s : ServerState) (i : NodeInput) (choice : Choice) (handle : Handle) (version : Version) → Numbers (after_events w steps) index moment s i choice handle version id → ⊥
