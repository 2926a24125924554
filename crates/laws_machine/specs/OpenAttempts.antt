-- The law of every lawful list of events on attempts of clients, that a public function of this crate states.
use Rattle.std.specs.Prelude.{◌≡◌, ◌⊎◌, ℕ, suc, false, ◌+◌, ◌≤◌, ◌<◌, List, [], ◌∷◌, length, Option, Some, IsTrue}
use Rattle.gfs_types.specs.declared.config.Config.{Config}
use Rattle.gfs_types.specs.declared.ids.DataId.{DataId}
use Rattle.gfs_types.specs.declared.ids.Handle.{Handle}
use Rattle.gfs_types.specs.declared.ids.Version.{Version}
use Rattle.gfs_types.specs.declared.ids.Moment.{Moment}
use Rattle.gfs_types.specs.declared.ids.ServerId.{ServerId}
use Rattle.messages.specs.declared.event.Event.{Event}
use Rattle.messages.specs.declared.message.Message.{Message}
use Rattle.messages.specs.declared.message.Body.TheVariants as body
use Rattle.messages.specs.declared.message.Target.{Target}
use Rattle.relaxed_file.specs.NotRuns.{waits}
use Rattle.client_state.specs.declared.call.CurrentCall.{CurrentCall}
use Rattle.client_state.specs.declared.call.ToldChunk.{ToldChunk}
use Rattle.client_state.specs.declared.call.Stage.TheVariants.{SentData}
use Rattle.protocol.specs.Tables.{element_at}
use Rattle.protocol.specs.Sending.{data_id, the_server, the_client}
use Rattle.protocol.specs.Client.{ClientState}
use Rattle.protocol.specs.Choice.{Choice}
use Rattle.protocol.specs.Observer.{calls_made}
use Rattle.protocol.specs.World.{WorldState, Happened, new_world, happens, after_events}
use Rattle.laws_base.specs.Deadlines.{IsAmong}
use Rattle.laws_base.specs.FewAttempts.{WasAsked}
use Rattle.laws_base.specs.AnsweredAttempts.{IsAnswerTo}
use Rattle.laws_base.specs.Entries.{IsPushed}

-- In this event a client asks a primary to place the data of this number, by the location of a chunk of the file of its call.
pub record IsSentFor (index : ℕ) (w : WorldState) (x : Happened) (file : ℕ) (chunk : ToldChunk) (seq : ℕ) : Type 0 where
  pub client : ClientState
  pub current : CurrentCall
  pub primary : ServerId
  pub client_is : element_at w.clients index ≡ Some client
  pub current_is : client.current ≡ Some current
  pub stage_is : current.stage ≡ SentData chunk primary seq
  pub file_is : current.file.0 ≡ file
  pub is_up : IsTrue client.up
  pub place : ℕ
  pub asked : Message
  pub aim : Target
  pub deadline : Moment
  pub unsent : length w.sent ≤ place
  pub sent_is : element_at x.world.sent place ≡ Some asked
  pub sender_is : asked.sender ≡ the_client (suc index)
  pub body_is : asked.body ≡ body.Mutate (data_id (suc index) seq) chunk.handle chunk.round aim deadline

-- in one of these steps
abbrev pub WasSentFor : ℕ → WorldState → List (Event × Choice) → ℕ → ToldChunk → ℕ → Type 0
WasSentFor index w [] file chunk seq = ⊥
WasSentFor index w (step ∷ rest) file chunk seq = IsSentFor index w (happens w step.0 step.1) file chunk seq ⊎ WasSentFor index (happens w step.0 step.1).world rest file chunk seq

-- G: of the attempts that were sent for chunks of files; here two were sent for one place in a file.
pub record AreBeside (G : ℕ → ToldChunk → ℕ → Type 0) (first later : ℕ) : Type 0 where
  pub file : ℕ
  pub chunk : ToldChunk
  pub other : ToldChunk
  pub first_is : G file chunk first
  pub later_is : G file other later
  pub same_index : chunk.index ≡ other.index

-- the client of these data asked to place them in this chunk, under this version and before this deadline
pub record AsksBy (sent : List Message) (id : DataId) (handle : Handle) (version : Version) (deadline : Moment) : Type 0 where
  pub asked : Message
  pub aim : Target
  pub sent_is : IsAmong sent asked
  pub sender_is : asked.sender ≡ the_client id.client.0
  pub body_is : asked.body ≡ body.Mutate id handle version aim deadline

-- a server answered the attempt of these data, so that it is over
pub record WasAnswered (sent : List Message) (id : DataId) : Type 0 where
  pub server : ℕ
  pub answer : Message
  pub sent_is : IsAmong sent answer
  pub sender_is : answer.sender ≡ the_server server
  pub answers : IsAnswerTo id answer

-- a later attempt of the client for the same place in a file was answered, which asked under a version and with a deadline that are not lower
pub record WasPassed (G : ℕ → ToldChunk → ℕ → Type 0) (sent : List Message) (id : DataId) (version : Version) (deadline : Moment) : Type 0 where
  pub later : DataId
  pub handle : Handle
  pub higher : Version
  pub end : Moment
  pub asks : AsksBy sent later handle higher end
  pub answered : WasAnswered sent later
  pub pushed : (bytes : List ℕ) × IsPushed sent later bytes
  pub same_client : later.client ≡ id.client
  pub is_later : id.seq < later.seq
  pub beside : AreBeside G id.seq later.seq
  pub not_lower : version.0 ≤ higher.0
  pub not_earlier : deadline.0 ≤ end.0

abbrev pub IsOver : (ℕ → ToldChunk → ℕ → Type 0) → List Message → ℕ → ℕ → DataId → Version → Moment → Type 0
IsOver G sent skew greatest id version deadline = (deadline.0 + skew ≤ greatest) ⊎ (WasAnswered sent id ⊎ WasPassed G sent id version deadline)

-- A client's attempt, sent in the call that it made last, which is open: it asked under this number for a part of it.
pub record IsOfOpenCall (start : WorldState) (steps : List (Event × Choice)) (index seq : ℕ) : Type 0 where
  pub part : Option ℕ
  pub asked : WasAsked index start steps (calls_made (after_events start steps).observer.trace (suc index)) part seq
  pub is_open : IsTrue (waits (suc index) false (after_events start steps).observer.trace)

-- Each attempt of a client is over, by the clock, or as it or a later one was answered; or it is of the client's open call (sections 3.1 and 3.3).
abbrev pub AttemptsAreOverOrOpen : Type 0
AttemptsAreOverOrOpen =
    (config : Config) (servers clients : ℕ) (steps : List (Event × Choice)) (index : ℕ) (id : DataId) (handle : Handle) (version : Version) (deadline : Moment) → id.client.0 ≡ suc index
    → AsksBy (after_events (new_world config servers clients) steps).sent id handle version deadline
    → IsOver (WasSentFor index (new_world config servers clients) steps) (after_events (new_world config servers clients) steps).sent config.skew_ms (after_events (new_world config servers clients) steps).observer.greatest id version deadline
    ⊎ IsOfOpenCall (new_world config servers clients) steps index id.seq
