-- The laws of every lawful list of events on what clients ask of files' chunks and are told, that public functions of this crate state.
use Rattle.std.specs.Prelude.{◌≡◌, ℕ, suc, Bool, true, false, List, Option, Some, IsTrue}
use Rattle.gfs_types.specs.declared.config.Config.{Config}
use Rattle.gfs_types.specs.declared.call.Call.{Call}
use Rattle.gfs_types.specs.declared.call.Call.TheVariants as call
use Rattle.gfs_types.specs.declared.ids.FileId.{FileId}
use Rattle.gfs_types.specs.declared.ids.Moment.{Moment}
use Rattle.gfs_types.specs.declared.ids.Node.{Node}
use Rattle.messages.specs.declared.message.Body.TheVariants as body
use Rattle.messages.specs.declared.message.Message.{Message}
use Rattle.messages.specs.declared.message.Location.{Location}
use Rattle.messages.specs.declared.message.Wanted.{Wanted}
use Rattle.messages.specs.declared.message.Wanted.TheVariants as wanted
use Rattle.client_state.specs.declared.call.CurrentCall.{CurrentCall}
use Rattle.client_state.specs.declared.call.ToldChunk.{ToldChunk}
use Rattle.client_state.specs.declared.call.Stage.TheVariants.{AskedWhere}
use Rattle.protocol.specs.Tables.{element_at}
use Rattle.protocol.specs.Sending.{the_client}
use Rattle.protocol.specs.Client.{ClientState}
use Rattle.protocol.specs.ClientAttempts.{wanted_by}
use Rattle.protocol.specs.World.{WorldState, IsReached}
use Rattle.laws_base.specs.Entries.{IsAmong}
use Rattle.laws_base.specs.Locations.{chunk_used}
use Rattle.laws_versions.specs.ReplacedChunks.{IsToldAt}
use Rattle.laws_machine.specs.AnsweredWrites.{IsToldChunk}

-- The client of a call asked under this number for the part in hand, of the file of the call.
pub record IsAskFor (sent : List Message) (client : ℕ) (c : CurrentCall) (number : ℕ) : Type 0 where
  pub ask : Message
  pub deadline : Moment
  pub lost : Bool
  pub sent_is : IsAmong sent ask
  pub sender_is : ask.sender ≡ the_client client
  pub body_is : ask.body ≡ body.Ask number c.file (wanted_by c.index c.asked) deadline lost

-- What a client waits to be told it asked for, for the part of its open call that is in hand (section 2.4).
abbrev pub AsksAreForThePartInHand : Type 0
AsksAreForThePartInHand =
    (config : Config) (servers clients : ℕ) (w : WorldState) → IsReached config servers clients w → (index : ℕ) (s : ClientState) → element_at w.clients index ≡ Some s
    → (c : CurrentCall) (number : ℕ) → s.current ≡ Some c → c.stage ≡ AskedWhere number → IsAskFor w.sent (suc index) c number

-- for a read or a write it is the index that was asked for
abbrev pub IsIndexOf : Wanted → ℕ → Type 0
IsIndexOf (wanted.Read asked) index = index ≡ asked
IsIndexOf (wanted.Write asked) index = index ≡ asked
IsIndexOf other index = Unit {0}

-- This node asked for a chunk of a file under this number, and this index answers what it asked for.
pub record IsAskOf (sent : List Message) (asker : Node) (number index : ℕ) : Type 0 where
  pub ask : Message
  pub file : FileId
  pub what : Wanted
  pub deadline : Moment
  pub lost : Bool
  pub sent_is : IsAmong sent ask
  pub sender_is : ask.sender ≡ asker
  pub body_is : ask.body ≡ body.Ask number file what deadline lost
  pub index_is : IsIndexOf what index

-- Each location that was told answers an ask of its receiver under that number; one for a read or a write is of the index that was asked for (sections 2.4 and 3.1).
abbrev pub LocationsAnswerTheirAsk : Type 0
LocationsAnswerTheirAsk =
    (config : Config) (servers clients : ℕ) (w : WorldState) → IsReached config servers clients w
    → (place number : ℕ) (m : Message) (l : Location) → element_at w.sent place ≡ Some m → m.body ≡ body.Told number (Some l) → IsAskOf w.sent m.receiver number l.index

-- whether a call is for chunks of a file by their index
abbrev pub has_index : Call → Bool
has_index (call.Read fd offset count) = true
has_index (call.Write fd offset bytes) = true
has_index other = false

-- The chunk by whose location a client reads, or goes with a write, was told to it for the index of the part in hand, of the file of its call (sections 2.4 and 3.1).
abbrev pub PartsGoToTheirChunk : Type 0
PartsGoToTheirChunk =
    (config : Config) (servers clients : ℕ) (w : WorldState) → IsReached config servers clients w → (index : ℕ) (s : ClientState) → element_at w.clients index ≡ Some s
    → (c : CurrentCall) (chunk : ToldChunk) → s.current ≡ Some c → chunk_used c.stage ≡ Some chunk → IsTrue (has_index c.asked)
    → IsToldChunk w.sent (suc index) c.file.0 c.index chunk.handle.0 chunk.round.0

-- Where clocks are kept, all locations that were told of one chunk with a granted round are of one index, to whichever clients and of whichever files (section 3.4).
abbrev pub HandlesAreToldAtOneIndex : Type 0
HandlesAreToldAtOneIndex =
    (config : Config) (servers clients : ℕ) (w : WorldState) → IsReached config servers clients w → IsTrue w.observer.are_clocks_kept
    → (client other file also : ℕ) (l k : Location) (place later : ℕ) → IsToldAt w.sent client file l place → IsToldAt w.sent other also k later → l.handle.0 ≡ k.handle.0 → l.index ≡ k.index
