-- Laws of every lawful list of events on the locations that clients use, that public functions of this crate state.
use Rattle.std.specs.Prelude.{◌≡◌, ◌⊎◌, ℕ, suc, ◌+◌, ◌≤◌, ◌<◌, Bool, true, false, IsTrue, List, [], ◌∷◌, ◌++◌, Option, Some, None}
use Rattle.std.specs.FinMap as table
use Rattle.gfs_types.specs.declared.config.Config.{Config}
use Rattle.gfs_types.specs.declared.ids.Moment.{Moment}
use Rattle.messages.specs.declared.event.Event.{Event}
use Rattle.messages.specs.declared.event.Event.TheVariants as event
use Rattle.messages.specs.declared.message.Message.{Message}
use Rattle.messages.specs.declared.message.Body.{Body}
use Rattle.messages.specs.declared.message.Body.TheVariants as body
use Rattle.messages.specs.declared.message.Location.{Location}
use Rattle.client_state.specs.declared.call.CurrentCall.{CurrentCall}
use Rattle.client_state.specs.declared.call.ToldChunk.{ToldChunk}
use Rattle.client_state.specs.declared.call.Stage.{Stage}
use Rattle.client_state.specs.declared.call.Stage.TheVariants.{AskedWhere, SentData, SentMutate, SentRead}
use Rattle.protocol.specs.Tables.{element_at}
use Rattle.protocol.specs.Sending.{the_client}
use Rattle.protocol.specs.Choice.{Choice}
use Rattle.protocol.specs.Client.{ClientState}
use Rattle.protocol.specs.ClientAttempts.{chunk_of}
use Rattle.protocol.specs.ClientStep.{client_at}
use Rattle.protocol.specs.World.{WorldState, new_world, numbered_from_1, happens, after_events}

-- between these worlds a client gets a new descriptor, of this file
pub record OpensFile (w u : WorldState) (index file : ℕ) : Type 0 where
  pub before : ClientState
  pub after : ClientState
  pub was : element_at w.clients index ≡ Some before
  pub is : element_at u.clients index ≡ Some after
  pub new : before.fd_count < after.fd_count
  pub of_file : table.get after.descriptors after.fd_count ≡ Some file

-- in none of these steps the client opens the file
abbrev pub OpensNever : WorldState → List (Event × Choice) → ℕ → ℕ → Type 0
OpensNever w [] index file = Unit {0}
OpensNever w (step ∷ rest) index file =
    (OpensFile w (happens w step.0 step.1).world index file → ⊥) × OpensNever (happens w step.0 step.1).world rest index file

-- An event by which a client is told a location, in answer to its current ask for a chunk of a file, at a moment by its own clock.
pub record IsToldNow (w : WorldState) (e : Event) (index file : ℕ) (l : Location) (clock : ℕ) : Type 0 where
  pub number : ℕ
  pub now : Moment
  pub told : Message
  pub asked : ℕ
  pub client : ClientState
  pub call : CurrentCall
  pub event_is : e ≡ event.Deliver number now
  pub message_is : numbered_from_1 w.sent number ≡ Some told
  pub receiver_is : told.receiver ≡ the_client (suc index)
  pub body_is : told.body ≡ body.Told asked (Some l)
  pub client_is : element_at w.clients index ≡ Some client
  pub call_is : client.current ≡ Some call
  pub ask_is : call.stage ≡ AskedWhere asked
  pub file_is : call.file.0 ≡ file
  pub clock_is : (client_at client now.0).now ≡ clock

-- In one of these steps a client was told a location of a file's chunk, and it has not opened the file since.
pub record WasTold (start : WorldState) (steps : List (Event × Choice)) (index file : ℕ) (l : Location) (clock : ℕ) : Type 0 where
  pub before : List (Event × Choice)
  pub step : Event × Choice
  pub after : List (Event × Choice)
  pub steps_are : steps ≡ before ++ step ∷ after
  pub told : IsToldNow (after_events start before) step.0 index file l clock
  pub unopened : OpensNever (happens (after_events start before) step.0 step.1).world after index file

-- the chunk by whose location an attempt goes
abbrev pub chunk_used : Stage → Option ToldChunk
chunk_used (SentData chunk primary number) = Some chunk
chunk_used (SentMutate chunk number) = Some chunk
chunk_used (SentRead chunk left number) = Some chunk
chunk_used other = None

-- An attempt that ends at this moment began before the location was told, or less than the cache's time after.
abbrev pub BeganInTime : Config → ℕ → ℕ → Type 0
BeganInTime config deadline clock = (deadline ≤ clock + config.attempt_ms) ⊎ (deadline < clock + config.attempt_ms + config.cache_ms)

-- The location by which an attempt goes was told to the client, when the call says, less than the cache's time before the attempt began, by the client's own clock, and the client has not opened the file since.
abbrev pub AttemptsGoByToldLocations : Type 0
AttemptsGoByToldLocations =
    (config : Config) (servers clients : ℕ) (steps : List (Event × Choice))
    → (index : ℕ) (s : ClientState) (c : CurrentCall) (chunk : ToldChunk)
    → element_at (after_events (new_world config servers clients) steps).clients index ≡ Some s → s.current ≡ Some c → chunk_used c.stage ≡ Some chunk
    → (l : Location) × (chunk_of l ≡ chunk) × BeganInTime config c.deadline.0 c.told.0 × WasTold (new_world config servers clients) steps index c.file.0 l c.told.0

-- what a client sends by a location
abbrev pub goes_by_location : Body → Bool
goes_by_location (body.Push id bytes rest) = true
goes_by_location (body.Mutate id handle version target deadline) = true
goes_by_location (body.Read number handle version offset count) = true
goes_by_location (body.Len number handle version) = true
goes_by_location other = false

-- it names this chunk; a push names none
abbrev pub NamesChunk : ToldChunk → Body → Type 0
NamesChunk chunk (body.Mutate id handle version target deadline) = (handle ≡ chunk.handle) × (version ≡ chunk.round)
NamesChunk chunk (body.Read number handle version offset count) = handle ≡ chunk.handle
NamesChunk chunk (body.Len number handle version) = handle ≡ chunk.handle
NamesChunk chunk other = Unit {0}

-- A client sends this by a location that it was told less than the cache's time before, by its own clock, and it has not opened the file since.
pub record GoesInTime (start : WorldState) (steps : List (Event × Choice)) (index : ℕ) (s : ClientState) (b : Body) : Type 0 where
  pub call : CurrentCall
  pub location : Location
  pub call_is : s.current ≡ Some call
  pub chunk_is : chunk_used call.stage ≡ Some (chunk_of location)
  pub named : NamesChunk (chunk_of location) b
  pub in_time : s.now < call.told.0 + start.config.cache_ms
  pub told : WasTold start steps index call.file.0 location call.told.0

-- So goes each push, Mutate, reading and length that a client sends in a step. (A life of 0, which no cell has, would end at once.)
abbrev pub LocationsAreNotUsedTooLong : Type 0
LocationsAreNotUsedTooLong =
    (config : Config) (servers clients : ℕ) → 1 ≤ config.cache_ms → (steps : List (Event × Choice)) (step : Event × Choice)
    → (index : ℕ) (s : ClientState) → element_at (happens (after_events (new_world config servers clients) steps) step.0 step.1).world.clients index ≡ Some s
    → (place : ℕ) (m : Message) → element_at (happens (after_events (new_world config servers clients) steps) step.0 step.1).out.sent place ≡ Some m → m.sender ≡ the_client (suc index) → IsTrue (goes_by_location m.body)
    → GoesInTime (new_world config servers clients) (steps ++ step ∷ []) index s m.body
