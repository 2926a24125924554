-- The success that a client waits for is one of its open call, at the machine (sections 2.7.1 and 3.1).
use Rattle.std.specs.Prelude.{◌≡◌, ℕ, suc, List, Some, IsTrue}
use Rattle.gfs_types.specs.declared.config.Config.{Config}
use Rattle.gfs_types.specs.declared.ids.DataId.{DataId}
use Rattle.messages.specs.declared.event.Event.{Event}
use Rattle.messages.specs.declared.message.Message.{Message}
use Rattle.messages.specs.declared.message.Body.TheVariants as body
use Rattle.relaxed_file.specs.Machine.{OpenCall, chunk_size}
use Rattle.relaxed_file.specs.Run.{IsReached}
use Rattle.client_state.specs.declared.call.CurrentCall.{CurrentCall}
use Rattle.client_state.specs.declared.call.ToldChunk.{ToldChunk}
use Rattle.client_state.specs.declared.call.Stage.TheVariants.{SentMutate}
use Rattle.protocol.specs.Tables.{element_at}
use Rattle.protocol.specs.Choice.{Choice}
use Rattle.protocol.specs.Client.{ClientState}
use Rattle.protocol.specs.Observer.{calls_made}
use Rattle.protocol.specs.World.{WorldState, new_world, after_events}
use Rattle.laws_machine.specs.ChunksAlike.{ChunkSides}
use Rattle.laws_machine.specs.ToldIndexes.{has_index}
use Rattle.laws_machine.specs.FileClients.{id_of, IsFileCall, IsWithinPlaces, IsPartSettled}
use Rattle.laws_machine.specs.HoldersApart.{StandsUpTo}

-- In this world a client waits for the data of this number to be placed in this chunk, and this Done of them was sent.
pub record WaitsForDone (w : WorldState) (index : ℕ) (x : CurrentCall) (chunk : ToldChunk) (number place : ℕ) : Type 0 where
  pub client : ClientState
  pub client_is : element_at w.clients index ≡ Some client
  pub current_is : client.current ≡ Some x
  pub stage_is : x.stage ≡ SentMutate chunk number
  pub sent_at : ℕ
  pub done : Message
  pub sent_is : element_at w.sent sent_at ≡ Some done
  pub id : DataId
  pub body_is : done.body ≡ body.Done id place
  pub own : id.client.0 ≡ suc index
  pub number_is : id.seq ≡ number

-- the machine beside it has the client's call, the last that was seen, and the chunk for which the told handle stands
pub record HasTheCall (w : WorldState) (k : ChunkSides) (index : ℕ) (x : CurrentCall) (o : OpenCall) (chunk : ToldChunk) : Type 0 where
  pub orders : k.orders ≡ w.observer.orders
  pub call : IsFileCall k.machine (suc index) x o
  pub last : o.number ≡ calls_made w.observer.trace (suc index)
  pub stands : StandsUpTo k x.file.0 chunk.index chunk.handle.0 chunk.round.0
  pub part : IsTrue (has_index x.asked) → chunk.index ≡ x.index

-- Where clocks are kept, and the place is within 64 bits: then the part is settled at the machine.
abbrev pub WaitedSuccessesAreSettled : Type 0
WaitedSuccessesAreSettled =
    (config : Config) (servers clients : ℕ) (steps : List (Event × Choice)) → IsTrue (after_events (new_world config servers clients) steps).observer.are_clocks_kept
    → (index : ℕ) (x : CurrentCall) (chunk : ToldChunk) (number place : ℕ) → WaitsForDone (after_events (new_world config servers clients) steps) index x chunk number place
    → (k : ChunkSides) (o : OpenCall) → HasTheCall (after_events (new_world config servers clients) steps) k index x o chunk → IsReached config k.machine → IsWithinPlaces (chunk_size k.machine x.file.0) chunk.index place
    → IsPartSettled k.machine (id_of (suc index) o) x.file.0 x.index chunk.index place x.asked
