-- The laws of every lawful list of events on the Mutates for which clients wait, that public functions of this crate state.
use Rattle.std.specs.Prelude.{◌≡◌, ℕ, suc, List, Option, Some, None}
use Rattle.gfs_types.specs.declared.config.Config.{Config}
use Rattle.gfs_types.specs.declared.ids.DataId.{DataId}
use Rattle.gfs_types.specs.declared.ids.Moment.{Moment}
use Rattle.messages.specs.declared.event.Event.{Event}
use Rattle.messages.specs.declared.message.Message.{Message}
use Rattle.messages.specs.declared.message.Body.{Body}
use Rattle.messages.specs.declared.message.Body.TheVariants as body
use Rattle.messages.specs.declared.message.Target.{Target}
use Rattle.client_state.specs.declared.call.CurrentCall.{CurrentCall}
use Rattle.client_state.specs.declared.call.ToldChunk.{ToldChunk}
use Rattle.client_state.specs.declared.call.Stage.{Stage}
use Rattle.client_state.specs.declared.call.Stage.TheVariants.{SentMutate}
use Rattle.protocol.specs.Tables.{element_at}
use Rattle.protocol.specs.Sending.{the_client}
use Rattle.protocol.specs.Choice.{Choice}
use Rattle.protocol.specs.Client.{ClientState}
use Rattle.protocol.specs.Observer.{Placed, order_of}
use Rattle.protocol.specs.World.{new_world, after_events}
use Rattle.laws_base.specs.ChunkOrders.{WasCopied, IsSource}

-- the chunk and the number of the data for which a stage waits to be placed
abbrev pub waits_at : Stage → Option (ToldChunk × ℕ)
waits_at (SentMutate chunk number) = Some (chunk, number)
waits_at other = None

abbrev pub waited : Option CurrentCall → Option (ToldChunk × ℕ)
waited None = None
waited (Some c) = waits_at c.stage

-- it asks to place the client's data of this number in this chunk, under this round
pub record IsMutateOf (client : ℕ) (chunk : ToldChunk) (number : ℕ) (b : Body) : Type 0 where
  pub id : DataId
  pub aim : Target
  pub deadline : Moment
  pub is : b ≡ body.Mutate id chunk.handle chunk.round aim deadline
  pub client_is : id.client.0 ≡ client
  pub seq_is : id.seq ≡ number

pub record HasAskedFor (sent : List Message) (client : ℕ) (chunk : ToldChunk) (number : ℕ) : Type 0 where
  pub asked : Message
  pub place : ℕ
  pub sent_is : element_at sent place ≡ Some asked
  pub sender_is : asked.sender ≡ the_client client
  pub body_is : IsMutateOf client chunk number asked.body

-- What a client waits for to be placed, it asked for, in the chunk and under the round that it noted.
abbrev pub WaitedMutatesWereSent : Type 0
WaitedMutatesWereSent =
    (config : Config) (servers clients : ℕ) (steps : List (Event × Choice)) (index : ℕ) (s : ClientState) → element_at (after_events (new_world config servers clients) steps).clients index ≡ Some s
    → (chunk : ToldChunk) (number : ℕ) → waited s.current ≡ Some (chunk, number) → HasAskedFor (after_events (new_world config servers clients) steps).sent (suc index) chunk number

-- An entry of the number for which a client waits is of the round that it noted, in the chunk that it noted or a copy of it.
abbrev pub EntriesAreOfTheNotedRound : Type 0
EntriesAreOfTheNotedRound =
    (config : Config) (servers clients : ℕ) (steps : List (Event × Choice)) (index : ℕ) (s : ClientState) → element_at (after_events (new_world config servers clients) steps).clients index ≡ Some s
    → (chunk : ToldChunk) (number : ℕ) → waited s.current ≡ Some (chunk, number)
    → (handle place : ℕ) (p : Placed) → element_at (order_of (after_events (new_world config servers clients) steps).observer handle) place ≡ Some p → p.entry.call.client ≡ suc index → p.seq ≡ number
    → (p.entry.round ≡ chunk.round.0) × IsSource (WasCopied (new_world config servers clients) steps) chunk.handle.0 handle
