-- The law of every lawful list of events on how often a client asks for a part of a call, that a public function of this crate states.
use Rattle.std.specs.Prelude.{◌≡◌, ◌⊎◌, ℕ, suc, ◌≤◌, max, List, [], ◌∷◌, length, Option, Some, None}
use Rattle.gfs_types.specs.declared.config.Config.{Config}
use Rattle.gfs_types.specs.declared.ids.DataId.{DataId}
use Rattle.gfs_types.specs.declared.ids.Handle.{Handle}
use Rattle.gfs_types.specs.declared.ids.Version.{Version}
use Rattle.gfs_types.specs.declared.ids.Moment.{Moment}
use Rattle.gfs_types.specs.declared.call.Call.{Call}
use Rattle.gfs_types.specs.declared.call.Call.TheVariants as call
use Rattle.gfs_types.specs.declared.refusal.Refusal.TheVariants.{ChunkFull}
use Rattle.messages.specs.declared.event.Event.{Event}
use Rattle.messages.specs.declared.message.Message.{Message}
use Rattle.messages.specs.declared.message.Body.TheVariants as body
use Rattle.messages.specs.declared.message.Target.{Target}
use Rattle.client_state.specs.declared.call.CurrentCall.{CurrentCall}
use Rattle.protocol.specs.Tables.{element_at}
use Rattle.protocol.specs.Sending.{the_client}
use Rattle.protocol.specs.Choice.{Choice}
use Rattle.protocol.specs.Client.{ClientState}
use Rattle.protocol.specs.Observer.{calls_made}
use Rattle.protocol.specs.World.{WorldState, Happened, new_world, happens, after_events}

-- the part of a call that an attempt is for: of a write the one in this chunk of the file; an append has one
abbrev pub part_of : Call → ℕ → Option ℕ
part_of (call.Append fd bytes) index = None
part_of other index = Some index

-- In this event a client asks a primary to place the data of this number, for this part of its open call, which is its last one of so many.
pub record IsAskedNow (index : ℕ) (w : WorldState) (x : Happened) (made : ℕ) (part : Option ℕ) (number : ℕ) : Type 0 where
  pub client : ClientState
  pub current : CurrentCall
  pub asked : Message
  pub place : ℕ
  pub id : DataId
  pub handle : Handle
  pub version : Version
  pub aim : Target
  pub deadline : Moment
  pub is : element_at w.clients index ≡ Some client
  pub current_is : client.current ≡ Some current
  pub part_is : part_of current.asked current.index ≡ part
  pub made_is : calls_made w.observer.trace (suc index) ≡ made
  pub sent_is : element_at x.out.sent place ≡ Some asked
  pub sender_is : asked.sender ≡ the_client (suc index)
  pub body_is : asked.body ≡ body.Mutate id handle version aim deadline
  pub number_is : id.seq ≡ number

-- it did so in one of these steps
abbrev pub WasAsked : ℕ → WorldState → List (Event × Choice) → ℕ → Option ℕ → ℕ → Type 0
WasAsked index w [] made part number = ⊥
WasAsked index w (step ∷ rest) made part number = IsAskedNow index w (happens w step.0 step.1) made part number ⊎ WasAsked index (happens w step.0 step.1).world rest made part number

-- no ChunkFull was sent to the client under this number
abbrev pub IsNotFull : List Message → ℕ → ℕ → Type 0
IsNotFull sent index number = (place : ℕ) (m : Message) → element_at sent place ≡ Some m → m.receiver ≡ the_client (suc index) → m.body ≡ body.Refused number ChunkFull → ⊥

-- whether an attempt counts: of an append not, where its chunk was full
abbrev pub Counts : List Message → ℕ → Option ℕ → ℕ → Type 0
Counts sent index None number = IsNotFull sent index number
Counts sent index (Some part) number = Unit {0}

abbrev pub EachOf : (ℕ → Type 0) → List ℕ → Type 0
EachOf P [] = Unit {0}
EachOf P (n ∷ ns) = P n × EachOf P ns

-- no number stands twice
abbrev pub AreApart : List ℕ → Type 0
AreApart [] = Unit {0}
AreApart (n ∷ ns) = EachOf (λ m. n ≡ m → ⊥) ns × AreApart ns

-- Of the numbers under which a client asked for one part of a call, and that count, there are at most as many as it has attempts.
abbrev pub PartsHaveFewAttempts : Type 0
PartsHaveFewAttempts =
    (config : Config) (servers clients : ℕ) (steps : List (Event × Choice)) (index made : ℕ) (part : Option ℕ) (numbers : List ℕ) → AreApart numbers
    → EachOf (λ n. WasAsked index (new_world config servers clients) steps made part n × Counts (after_events (new_world config servers clients) steps).sent index part n) numbers
    → length numbers ≤ max 1 config.attempts
