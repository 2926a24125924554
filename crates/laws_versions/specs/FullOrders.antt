-- The law of every lawful list of events on chunks that are told to be full, that a public function of this crate states.
use Rattle.std.specs.Prelude.{◌≡◌, ◌≤◌, ℕ, min, List, Some, IsTrue}
use Rattle.gfs_types.specs.declared.config.Config.{Config}
use Rattle.gfs_types.specs.declared.ids.DataId.{DataId}
use Rattle.gfs_types.specs.declared.ids.Handle.{Handle}
use Rattle.gfs_types.specs.declared.ids.Version.{Version}
use Rattle.gfs_types.specs.declared.ids.Moment.{Moment}
use Rattle.gfs_types.specs.declared.refusal.Refusal.TheVariants.{ChunkFull}
use Rattle.gfs_types.specs.Mutations.{end_of}
use Rattle.messages.specs.declared.message.Body.TheVariants as body
use Rattle.messages.specs.declared.message.Message.{Message}
use Rattle.messages.specs.declared.message.Target.{Target}
use Rattle.protocol.specs.Tables.{element_at}
use Rattle.protocol.specs.Sending.{data_id, the_client}
use Rattle.protocol.specs.Observer.{Placed, order_of}
use Rattle.protocol.specs.World.{WorldState, IsReached}
use Rattle.laws_base.specs.Laws.{IsSizeGranted}
use Rattle.laws_base.specs.Entries.{IsAmong}
use Rattle.protocol_invariant.specs.AttemptParts.{is_full}

-- an entry of the order, of a round up to this version, ends at the end of a chunk of this size
abbrev pub HasFullEnd : (size : ℕ) → List Placed → (version : ℕ) → Type 0
HasFullEnd size order version = (place : ℕ) × (p : Placed) × (element_at order place ≡ Some p) × (p.entry.round ≤ version) × (end_of p.entry.mutation ≡ size)

-- The client of these data asked to place them in a chunk, under a version, and that chunk's order has an entry of a round up to it that ends at the chunk's end, by the size that a Grant of the version told, within a slot.
pub record IsOfFullOrder (w : WorldState) (id : DataId) : Type 0 where
  pub asked : Message
  pub handle : Handle
  pub version : Version
  pub aim : Target
  pub deadline : Moment
  pub sent_is : IsAmong w.sent asked
  pub sender_is : asked.sender ≡ the_client id.client.0
  pub body_is : asked.body ≡ body.Mutate id handle version aim deadline
  pub size : ℕ
  pub granted : IsSizeGranted w.sent handle.0 version.0 size
  pub full : IsTrue (is_full w handle.0 (min size w.config.chunk))
  pub ends : HasFullEnd (min size w.config.chunk) (order_of w.observer handle.0) version.0

-- Where clocks are kept, ChunkFull is told only of data whose chunk is full in this sense (section 3.3). A chunk has at least one byte.
abbrev pub FullChunksHaveAFullOrder : Type 0
FullChunksHaveAFullOrder =
    (config : Config) (servers clients : ℕ) (w : WorldState) → IsReached config servers clients w → IsTrue w.observer.are_clocks_kept → 1 ≤ config.chunk
    → (place client number : ℕ) (m : Message) → element_at w.sent place ≡ Some m → m.receiver ≡ the_client client → m.body ≡ body.Refused number ChunkFull
    → IsOfFullOrder w (data_id client number)
