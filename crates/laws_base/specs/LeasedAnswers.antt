-- The law of every lawful list of events on the leases under which attempts are answered, that a public function of this crate states.
use Rattle.std.specs.Prelude.{◌≡◌, ◌⊎◌, ℕ, List, [], ◌∷◌, Some}
use Rattle.gfs_types.specs.declared.config.Config.{Config}
use Rattle.gfs_types.specs.declared.ids.DataId.{DataId}
use Rattle.gfs_types.specs.declared.ids.Handle.{Handle}
use Rattle.gfs_types.specs.declared.ids.Version.{Version}
use Rattle.gfs_types.specs.declared.ids.Moment.{Moment}
use Rattle.messages.specs.declared.event.Event.{Event}
use Rattle.messages.specs.declared.event.NodeInput.{NodeInput}
use Rattle.messages.specs.declared.message.Message.{Message}
use Rattle.messages.specs.declared.message.Body.TheVariants as body
use Rattle.messages.specs.declared.message.Target.{Target}
use Rattle.primary_order.specs.SerialOrder.{SerialOrder}
use Rattle.protocol.specs.Tables.{element_at}
use Rattle.protocol.specs.Sending.{the_server}
use Rattle.protocol.specs.Choice.{Choice}
use Rattle.protocol.specs.Server.{ServerState, primary_of}
use Rattle.protocol.specs.ServerStep.{server_at, server_step}
use Rattle.protocol.specs.World.{WorldState, Happened, new_world, after_server, happens, after_events}
use Rattle.laws_base.specs.Entries.{IsAmong, IsPushed}
use Rattle.laws_base.specs.AnsweredAttempts.{IsAnswerTo}

-- In this event a server takes a step, as the primary of the chunk under the version that a Mutate of these data names.
pub record IsTakenNow (w : WorldState) (x : Happened) (id : DataId) : Type 0 where
  pub index : ℕ
  pub moment : ℕ
  pub server : ServerState
  pub input : NodeInput
  pub choice : Choice
  pub step_is : x ≡ after_server w index moment (server_step server moment input choice)
  pub server_is : element_at w.servers index ≡ Some server
  pub asked : Message
  pub sent_is : IsAmong w.sent asked
  pub handle : Handle
  pub version : Version
  pub aim : Target
  pub deadline : Moment
  pub body_is : asked.body ≡ body.Mutate id handle version aim deadline
  pub lease : SerialOrder
  pub lease_is : primary_of (server_at server moment) handle.0 version.0 ≡ Some lease

-- in one of these steps
abbrev pub WasTaken : WorldState → List (Event × Choice) → DataId → Type 0
WasTaken w [] id = ⊥
WasTaken w (step ∷ rest) id = IsTakenNow w (happens w step.0 step.1) id ⊎ WasTaken (happens w step.0 step.1).world rest id

-- A Done of a client's data, or a refusal by which the attempt is over, is sent only where a server took a step under a lease of the version that the Mutate names, which counted (sections 3.1 and 3.3).
abbrev pub AnswersAreGivenUnderLeases : Type 0
AnswersAreGivenUnderLeases =
    (config : Config) (servers clients : ℕ) (steps : List (Event × Choice)) (place server : ℕ) (m : Message) → element_at (after_events (new_world config servers clients) steps).sent place ≡ Some m → m.sender ≡ the_server server
    → (id : DataId) (bytes : List ℕ) → IsPushed (after_events (new_world config servers clients) steps).sent id bytes → IsAnswerTo id m
    → WasTaken (new_world config servers clients) steps id
