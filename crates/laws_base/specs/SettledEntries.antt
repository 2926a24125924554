-- The laws of every lawful list of events on successes, mutations that wait, and entries of chunks' orders, that public functions of this crate state.
use Rattle.std.specs.Prelude.{◌≡◌, ℕ, suc, true, List, Some}
use Rattle.std.specs.FinMap as table
use Rattle.gfs_types.specs.declared.config.Config.{Config}
use Rattle.gfs_types.specs.declared.ids.DataId.{DataId}
use Rattle.gfs_types.specs.declared.ids.Handle.{Handle}
use Rattle.gfs_types.specs.declared.ids.Version.{Version}
use Rattle.gfs_types.specs.declared.ids.Moment.{Moment}
use Rattle.messages.specs.declared.event.Event.{Event}
use Rattle.messages.specs.declared.message.Body.TheVariants as body
use Rattle.messages.specs.declared.message.Message.{Message}
use Rattle.messages.specs.declared.message.Target.{Target}
use Rattle.client_state.specs.declared.call.ToldChunk.{ToldChunk}
use Rattle.primary_order.specs.SerialOrder.{SerialOrder}
use Rattle.primary_order.specs.declared.waiting.Waiting.{Waiting}
use Rattle.primary_order.specs.PrimaryOrder.{place_of}
use Rattle.protocol.specs.Tables.{element_at}
use Rattle.protocol.specs.Sending.{the_client}
use Rattle.protocol.specs.Choice.{Choice}
use Rattle.protocol.specs.Observer.{Placed, Observer, order_of}
use Rattle.protocol.specs.Client.{ClientState}
use Rattle.protocol.specs.Server.{ServerState}
use Rattle.protocol.specs.World.{WorldState, new_world, after_events, IsReached}
use Rattle.laws_base.specs.Entries.{IsAmong}
use Rattle.laws_base.specs.WaitedRounds.{waited}

-- In this chunk's order stands an entry of these data, which were placed there under this round, and it is settled.
pub record HasSettledEntry (o : Observer) (handle round : ℕ) (id : DataId) (offset : ℕ) : Type 0 where
  pub place : ℕ
  pub placed : Placed
  pub is : element_at (order_of o handle) place ≡ Some placed
  pub client_is : placed.entry.call.client ≡ id.client.0
  pub seq_is : placed.seq ≡ id.seq
  pub round_is : placed.entry.round ≡ round
  pub place_is : place_of placed.entry.mutation ≡ Some offset
  pub settled : placed.entry.settled ≡ true

-- Each success that was told has a settled entry (section 3.1).
abbrev pub SuccessesHaveEntries : Type 0
SuccessesHaveEntries =
    (config : Config) (servers clients : ℕ) (w : WorldState) → IsReached config servers clients w
    → (place : ℕ) (m : Message) → element_at w.sent place ≡ Some m → (id : DataId) (offset : ℕ) → m.body ≡ body.Done id offset
    → (handle : ℕ) × (round : ℕ) × HasSettledEntry w.observer handle round id offset

-- Each success has a settled entry in the chunk, and of the round, that the Mutate of its data names.
abbrev pub SuccessesAreAtTheirChunk : Type 0
SuccessesAreAtTheirChunk =
    (config : Config) (servers clients : ℕ) (w : WorldState) → IsReached config servers clients w
    → (place : ℕ) (m : Message) → element_at w.sent place ≡ Some m → (id : DataId) (offset : ℕ) → m.body ≡ body.Done id offset
    → (asked : Message) (handle : Handle) (version : Version) (aim : Target) (deadline : Moment) → IsAmong w.sent asked → asked.sender ≡ the_client id.client.0 → asked.body ≡ body.Mutate id handle version aim deadline
    → HasSettledEntry w.observer handle.0 version.0 id offset

-- Each success of the data for which a client waits has a settled entry in the chunk and of the round that it noted.
abbrev pub NotedSuccessesHaveEntries : Type 0
NotedSuccessesHaveEntries =
    (config : Config) (servers clients : ℕ) (steps : List (Event × Choice)) (index : ℕ) (s : ClientState) → element_at (after_events (new_world config servers clients) steps).clients index ≡ Some s
    → (chunk : ToldChunk) (number : ℕ) → waited s.current ≡ Some (chunk, number)
    → (place : ℕ) (m : Message) → element_at (after_events (new_world config servers clients) steps).sent place ≡ Some m → (id : DataId) (offset : ℕ) → m.body ≡ body.Done id offset → id.client.0 ≡ suc index → id.seq ≡ number
    → HasSettledEntry (after_events (new_world config servers clients) steps).observer chunk.handle.0 chunk.round.0 id offset

-- In this chunk's order stands an entry of this round and serial, of the attempt that waits, and at its place.
pub record HasWaitingEntry (o : Observer) (handle round serial : ℕ) (a : Waiting) : Type 0 where
  pub place : ℕ
  pub placed : Placed
  pub is : element_at (order_of o handle) place ≡ Some placed
  pub round_is : placed.entry.round ≡ round
  pub serial_is : placed.serial ≡ serial
  pub client_is : placed.entry.call.client ≡ a.client.0
  pub seq_is : placed.seq ≡ a.seq
  pub place_is : place_of placed.entry.mutation ≡ a.place

-- Each mutation that waits at a primary has an entry of the lease's round, under the serial under which it waits (section 3.1).
abbrev pub WaitingMutationsHaveEntries : Type 0
WaitingMutationsHaveEntries =
    (config : Config) (servers clients : ℕ) (w : WorldState) → IsReached config servers clients w → (index : ℕ) (s : ServerState) → element_at w.servers index ≡ Some s
    → (handle : ℕ) (p : SerialOrder) → table.get s.leases handle ≡ Some p → (serial : ℕ) (a : Waiting) → table.get p.waiting serial ≡ Some a → HasWaitingEntry w.observer handle p.held.version serial a
