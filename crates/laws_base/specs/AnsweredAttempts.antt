-- The law of every lawful list of events on attempts that were answered, that a public function of this crate states.
use Rattle.std.specs.Prelude.{◌≡◌, ◌⊎◌, ℕ, List, Some}
use Rattle.gfs_types.specs.declared.config.Config.{Config}
use Rattle.gfs_types.specs.declared.ids.DataId.{DataId}
use Rattle.gfs_types.specs.declared.ids.Handle.{Handle}
use Rattle.gfs_types.specs.declared.ids.Version.{Version}
use Rattle.gfs_types.specs.declared.refusal.Refusal.{Refusal}
use Rattle.gfs_types.specs.declared.refusal.Refusal.TheVariants.{NoLease}
use Rattle.messages.specs.declared.event.Event.{Event}
use Rattle.messages.specs.declared.event.NodeInput.{NodeInput}
use Rattle.messages.specs.declared.message.Body.TheVariants as body
use Rattle.messages.specs.declared.message.Message.{Message}
use Rattle.protocol.specs.Tables.{element_at}
use Rattle.protocol.specs.Sending.{the_server, the_client}
use Rattle.protocol.specs.Choice.{Choice}
use Rattle.protocol.specs.Server.{ServerState}
use Rattle.protocol.specs.World.{WorldState, after_events, IsReached}
use Rattle.laws_base.specs.Deadlines.{Numbers}

-- a refusal by which an attempt is over: a server without a lease keeps nothing of it, and another one may place it
abbrev pub IsFinal : Refusal → Type 0
IsFinal NoLease = ⊥
IsFinal other = Unit {0}

-- a server's answer to the attempt of these data: a success, or a refusal by which it is over
abbrev pub IsAnswerTo : DataId → Message → Type 0
IsAnswerTo id m = ((offset : ℕ) × (m.body ≡ body.Done id offset)) ⊎ ((refusal : Refusal) × (m.receiver ≡ the_client id.client.0) × (m.body ≡ body.Refused id.seq refusal) × IsFinal refusal)

-- For an attempt that a server answered so nothing is numbered any more, from the moment the answer is sent (sections 3.1 and 3.3).
abbrev pub AnsweredAttemptsArePlacedNoMore : Type 0
AnsweredAttemptsArePlacedNoMore =
    (config : Config) (servers clients : ℕ) (w : WorldState) → IsReached config servers clients w
    → (place server : ℕ) (m : Message) → element_at w.sent place ≡ Some m → m.sender ≡ the_server server → (id : DataId) → IsAnswerTo id m
    → (steps : List (Event × Choice)) (index moment : ℕ) (s : ServerState) (i : NodeInput) (choice : Choice) (handle : Handle) (version : Version) → Numbers (after_events w steps) index moment s i choice handle version id → ⊥
