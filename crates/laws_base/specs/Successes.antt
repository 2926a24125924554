-- The law of every lawful list of events on successes that servers tell, that a public function of this crate states.
use Rattle.std.specs.Prelude.{◌≡◌, ℕ, List, Option, Some}
use Rattle.gfs_types.specs.declared.config.Config.{Config}
use Rattle.gfs_types.specs.declared.ids.DataId.{DataId}
use Rattle.gfs_types.specs.declared.mutation.Mutation.{Mutation}
use Rattle.messages.specs.declared.event.Event.{Event}
use Rattle.messages.specs.declared.event.NodeInput.{NodeInput}
use Rattle.messages.specs.declared.event.NodeInput.TheVariants.{Deliver}
use Rattle.messages.specs.declared.message.Message.{Message}
use Rattle.messages.specs.declared.message.Body.TheVariants as body
use Rattle.primary_order.specs.PrimaryOrder.{place_of}
use Rattle.protocol.specs.Tables.{element_at}
use Rattle.protocol.specs.Sending.{handle_of, version_of, serial_of}
use Rattle.protocol.specs.Choice.{Choice}
use Rattle.protocol.specs.declared.seen.Seen.{Seen}
use Rattle.protocol.specs.declared.seen.Seen.TheVariants.{Numbered, BecameSettled}
use Rattle.protocol.specs.Server.{ServerState}
use Rattle.protocol.specs.ServerStep.{server_step}
use Rattle.protocol.specs.World.{WorldState, Happened, new_world, after_server, after_events}
use Rattle.laws_base.specs.ChunkOrders.{CameAbout}

-- By what happened in this world a server's step, on a message that was sent or a tick, showed this.
pub record IsShownNow (w : WorldState) (x : Happened) (shown : Seen) : Type 0 where
  pub index : ℕ
  pub moment : ℕ
  pub server : ServerState
  pub input : NodeInput
  pub choice : Choice
  pub place : ℕ
  pub is : element_at w.servers index ≡ Some server
  pub came : (m : Message) → input ≡ Deliver m → (at : ℕ) × (element_at w.sent at ≡ Some m)
  pub step_is : x ≡ after_server w index moment (server_step server moment input choice)
  pub seen : element_at (server_step server moment input choice).seen place ≡ Some shown

abbrev pub WasShown : WorldState → List (Event × Choice) → Seen → Type 0
WasShown start steps shown = CameAbout (λ w x. IsShownNow w x shown) start steps

-- These data were placed there under this chunk, version and serial.
pub record IsNumberedAs (K : Seen → Type 0) (handle version serial : ℕ) (id : DataId) (place : Option ℕ) : Type 0 where
  pub placed : Mutation
  pub place_is : place_of placed ≡ place
  pub numbered : K (Numbered (handle_of handle) (version_of version) (serial_of serial) id placed)

-- These data were placed there, and their mutation became settled.
pub record IsSettledAs (K : Seen → Type 0) (id : DataId) (place : Option ℕ) : Type 0 where
  pub handle : ℕ
  pub version : ℕ
  pub serial : ℕ
  pub numbered : IsNumberedAs K handle version serial id place
  pub settled : K (BecameSettled (handle_of handle) (version_of version) (serial_of serial))

-- Each success that was told is of a mutation that was placed there and became settled.
abbrev pub SuccessesWereSettled : Type 0
SuccessesWereSettled =
    (config : Config) (servers clients : ℕ) (steps : List (Event × Choice)) (place : ℕ) (m : Message) → element_at (after_events (new_world config servers clients) steps).sent place ≡ Some m
    → (id : DataId) (offset : ℕ) → m.body ≡ body.Done id offset → IsSettledAs (WasShown (new_world config servers clients) steps) id (Some offset)
