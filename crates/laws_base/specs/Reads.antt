-- The law of every lawful list of events on what clients read, that a public function of this crate states.
use Rattle.std.specs.Prelude.{◌≡◌, ℕ, suc, ◌-◌, ◌≤◌, Bool, false, ◌==◌, if◌then◌else◌, List, ◌∷◌, ◌++◌, length, Some, IsTrue, IsFalse}
use Rattle.gfs_types.specs.declared.config.Config.{Config}
use Rattle.gfs_types.specs.declared.ids.FileId.{FileId}
use Rattle.gfs_types.specs.declared.ids.Node.TheVariants as node
use Rattle.gfs_types.specs.declared.ids.Moment.{Moment}
use Rattle.messages.specs.declared.event.Event.{Event}
use Rattle.messages.specs.declared.message.Message.{Message}
use Rattle.messages.specs.declared.message.Body.{Body}
use Rattle.messages.specs.declared.message.Body.TheVariants as body
use Rattle.messages.specs.declared.message.Holder.{Holder}
use Rattle.messages.specs.declared.message.Location.{Location}
use Rattle.messages.specs.declared.message.Wanted.{Wanted}
use Rattle.client_state.specs.declared.call.CurrentCall.{CurrentCall}
use Rattle.client_state.specs.declared.call.ToldChunk.{ToldChunk}
use Rattle.client_state.specs.declared.call.Stage.TheVariants.{SentRead}
use Rattle.replica_store.specs.declared.row.Row.{Row}
use Rattle.replica_store.specs.Replicas.{ServerDisk, row_at, read_at}
use Rattle.protocol.specs.Tables.{element_at}
use Rattle.protocol.specs.Sending.{the_server, the_client}
use Rattle.protocol.specs.Choice.{Choice}
use Rattle.protocol.specs.Client.{ClientState, file_chunk}
use Rattle.protocol.specs.ClientAttempts.{is_length, read_start, read_count, chunk_of}
use Rattle.protocol.specs.Server.{ServerState}
use Rattle.protocol.specs.World.{WorldState, new_world, happens, after_events}

-- a message stands in a list
abbrev pub IsAmong : List Message → Message → Type 0
IsAmong ms m = (place : ℕ) × (element_at ms place ≡ Some m)

-- A client asked for a chunk of a file, under this number.
pub record HasAsked (sent : List Message) (client file number : ℕ) : Type 0 where
  pub named : FileId
  pub wanted : Wanted
  pub deadline : Moment
  pub lost : Bool
  pub ask : Message
  pub sent_is : IsAmong sent ask
  pub sender_is : ask.sender ≡ the_client client
  pub body_is : ask.body ≡ body.Ask number named wanted deadline lost
  pub file_is : named.0 ≡ file

-- A client was told a location in answer to an ask of its own for a chunk of the file.
pub record IsTold (sent : List Message) (client file : ℕ) (l : Location) : Type 0 where
  pub number : ℕ
  pub asked : HasAsked sent client file number
  pub told : Message
  pub sent_is : IsAmong sent told
  pub receiver_is : told.receiver ≡ the_client client
  pub body_is : told.body ≡ body.Told number (Some l)

-- What asks a server to read a call's part, or to tell the chunk's length, under the version that was told for this server.
abbrev pub request_to : ℕ → ℕ → CurrentCall → ToldChunk → Holder → Body
request_to chunk_size number c chunk holder =
    if is_length c.asked then body.Len number chunk.handle holder.version
    else body.Read number chunk.handle holder.version (read_start chunk_size c.index c.asked) (read_count chunk_size c.index c.asked)

-- A client asked one server of a location that it was told, after those before it in the list.
pub record IsReading (sent : List Message) (client chunk_size : ℕ) (c : CurrentCall) (chunk : ToldChunk) (left : List Holder) (number : ℕ) : Type 0 where
  pub location : Location
  pub told : IsTold sent client c.file.0 location
  pub chunk_is : chunk_of location ≡ chunk
  pub earlier : List Holder
  pub holder : Holder
  pub holders_are : location.holders ≡ earlier ++ holder ∷ left
  pub request : Message
  pub sent_is : IsAmong sent request
  pub sender_is : request.sender ≡ the_client client
  pub receiver_is : request.receiver ≡ the_server holder.server.0
  pub body_is : request.body ≡ request_to chunk_size number c chunk holder

-- it answers a reading of this number
abbrev pub is_answer : ℕ → Body → Bool
is_answer number (body.Bytes n bytes) = n == number
is_answer number (body.LenIs n count) = n == number
is_answer number other = false

-- What an answer says is what a disk has: the bytes of the part that a Read wants, or the length.
abbrev pub IsTrueOf : ServerDisk → Row → ℕ → CurrentCall → ToldChunk → Body → Type 0
IsTrueOf disk row chunk_size c chunk (body.Bytes n bytes) =
    IsFalse (is_length c.asked) × (read_at disk chunk.handle.0 (read_start chunk_size c.index c.asked) (read_count chunk_size c.index c.asked) ≡ Some bytes)
IsTrueOf disk row chunk_size c chunk (body.LenIs n count) = IsTrue (is_length c.asked) × (row.count ≡ count)
IsTrueOf disk row chunk_size c chunk other = ⊥

-- In a step of the list this answer was sent; the client had sent the request and waited in the same call, and what the answer says was so at the server that was asked, under the told version.
pub record WasSo (start : WorldState) (steps : List (Event × Choice)) (index chunk_size : ℕ) (c : CurrentCall) (chunk : ToldChunk) (holder : Holder) (request : Message) (place : ℕ) (answer : Message) : Type 0 where
  pub before : List (Event × Choice)
  pub step : Event × Choice
  pub after : List (Event × Choice)
  pub steps_are : steps ≡ before ++ step ∷ after
  pub requested : IsAmong (after_events start before).sent request
  pub waited : (t : ClientState) × (element_at (after_events start before).clients index ≡ Some t) × (t.current ≡ Some c)
  pub unsent : length (after_events start before).sent ≤ place
  pub answered : element_at (happens (after_events start before) step.0 step.1).world.sent place ≡ Some answer
  pub server : ServerState
  pub server_is : element_at (after_events start before).servers (holder.server.0 - 1) ≡ Some server
  pub up : IsTrue server.up
  pub row : Row
  pub row_is : row_at server.disk chunk.handle.0 ≡ Some row
  pub version_is : row.version ≡ holder.version
  pub so : IsTrueOf server.disk row chunk_size c chunk answer.body

-- A client that waits for a reading was told by the master the location whose server it asked, under a version of at least the told round; and what is answered was so while the client waited (sections 2.7.1 and 4.5).
abbrev pub ReadsAreOfTheToldVersion : Type 0
ReadsAreOfTheToldVersion =
    (config : Config) (servers clients : ℕ) (steps : List (Event × Choice))
    → (index : ℕ) (s : ClientState) (c : CurrentCall) (chunk : ToldChunk) (left : List Holder) (number : ℕ)
    → element_at (after_events (new_world config servers clients) steps).clients index ≡ Some s → s.current ≡ Some c → c.stage ≡ SentRead chunk left number
    → (r : IsReading (after_events (new_world config servers clients) steps).sent (suc index) (file_chunk s c.file.0) c chunk left number)
    × (r.told.told.sender ≡ node.Master) × (chunk.round.0 ≤ r.holder.version.0)
    × ((place : ℕ) (m : Message) → element_at (after_events (new_world config servers clients) steps).sent place ≡ Some m → m.receiver ≡ the_client (suc index) → IsTrue (is_answer number m.body)
    → WasSo (new_world config servers clients) steps index (file_chunk s c.file.0) c chunk r.holder r.request place m)
