-- Laws of every lawful list of events on chunks' orders, entry by entry, that public functions of this crate state.
use Rattle.std.specs.Prelude.{◌≡◌, ◌≤◌, ◌<◌, ◌+◌, ◌*◌, ℕ, min, true, List, ◌++◌, map, take, length, Some, IsTrue}
use Rattle.std.specs.FinMap as table
use Rattle.gfs_types.specs.declared.config.Config.{Config}
use Rattle.gfs_types.specs.declared.ids.DataId.{DataId}
use Rattle.gfs_types.specs.declared.ids.Handle.{Handle}
use Rattle.gfs_types.specs.declared.ids.OrderNo.{OrderNo}
use Rattle.gfs_types.specs.declared.ids.Serial.{Serial}
use Rattle.gfs_types.specs.declared.ids.Version.{Version}
use Rattle.gfs_types.specs.declared.mutation.Mutation.{Mutation}
use Rattle.gfs_types.specs.declared.mutation.Mutation.TheVariants.{Write, Append, Pad}
use Rattle.gfs_types.specs.Mutations.{start_of}
use Rattle.messages.specs.declared.event.NodeInput.{NodeInput}
use Rattle.messages.specs.declared.event.NodeInput.TheVariants.{Deliver}
use Rattle.messages.specs.declared.message.Message.{Message}
use Rattle.messages.specs.declared.message.Body.TheVariants as body
use Rattle.relaxed_file.specs.Order.{Entry}
use Rattle.relaxed_file.specs.Machine.{Chunk}
use Rattle.relaxed_file.specs.Chunks.{is_an_end, IsPastAll}
use Rattle.primary_order.specs.SerialOrder.{SerialOrder}
use Rattle.protocol.specs.Tables.{element_at}
use Rattle.protocol.specs.Choice.{Choice}
use Rattle.protocol.specs.declared.seen.Seen.TheVariants.{Numbered}
use Rattle.protocol.specs.Observer.{Placed, observed_moment, order_of, entries_of}
use Rattle.protocol.specs.Server.{chunk_limit, ServerState}
use Rattle.protocol.specs.ServerStep.{server_step}
use Rattle.protocol.specs.World.{WorldState, IsReached, is_kept}
use Rattle.laws_base.specs.Laws.{IsSizeGranted}
use Rattle.protocol_invariant.specs.Versions.{AreRising}
use Rattle.laws_base.specs.Entries.{IsPushed}
use Rattle.laws_versions.specs.SkippedRounds.{up_to}

-- a chunk of the machine with these entries, whose open round is this one
abbrev pub open_chunk : List Entry → (round : ℕ) → Chunk
open_chunk order round = record { order = order; round = round; is_open = true }

-- It begins below the chunk's end, at 0 or at an entry's end, at or past the end of each entry that is settled or of this round, and ends within the chunk: what the machine asks of a record or a pad.
abbrev pub IsPlaceBehind : (size : ℕ) → List Entry → (round : ℕ) → Mutation → Type 0
IsPlaceBehind size order round m = (start_of m < size) × IsTrue (is_an_end order (start_of m)) × IsPastAll size (open_chunk order round) m

-- In a chunk of this size the mutation may follow these entries in this round: a write lies within the chunk, wherever the caller wants it; a pad ends where the chunk does.
abbrev pub MayFollow : (size : ℕ) → List Entry → (round : ℕ) → Mutation → Type 0
MayFollow size order round (Write offset bytes) = offset + length bytes ≤ size
MayFollow size order round (Append offset bytes) = IsPlaceBehind size order round (Append offset bytes)
MayFollow size order round (Pad offset end) = IsPlaceBehind size order round (Pad offset end) × (end ≡ size)

-- It is made of these data: a record is at most a quarter of the chunk, and a pad comes only where that record doesn't fit.
abbrev pub IsMadeOf : (size : ℕ) → List ℕ → Mutation → Type 0
IsMadeOf size bytes (Write offset written) = written ≡ bytes
IsMadeOf size bytes (Append offset written) = (written ≡ bytes) × (4 * length bytes ≤ size)
IsMadeOf size bytes (Pad offset end) = (4 * length bytes ≤ size) × (size < offset + length bytes)

-- it is made of what its client pushed under its number
pub record HasData (size : ℕ) (sent : List Message) (p : Placed) : Type 0 where
  pub id : DataId
  pub client_is : p.entry.call.client ≡ id.client.0
  pub seq_is : p.seq ≡ id.seq
  pub bytes : List ℕ
  pub pushed : IsPushed sent id bytes
  pub made : IsMadeOf size bytes p.entry.mutation

-- Where clocks and disks are kept, a server numbers a mutation only where it may follow the chunk's order, in the round of its version, and of data that the client pushed; the chunk's size is that of the lease under which it is numbered, within a slot (sections 3.1 and 3.3).
abbrev pub NumberedMutationsMayFollow : Type 0
NumberedMutationsMayFollow =
    (config : Config) (servers clients : ℕ) (w : WorldState) → IsReached config servers clients w → IsTrue (is_kept w) → (index : ℕ) (s : ServerState) → element_at w.servers index ≡ Some s
    → (moment : ℕ) (i : NodeInput) (choice : Choice) → ((m : Message) → i ≡ Deliver m → (at : ℕ) × (element_at w.sent at ≡ Some m)) → IsTrue (observed_moment w.config.skew_ms w.observer moment).are_clocks_kept
    → (shown : ℕ) (handle : Handle) (version : Version) (serial : Serial) (id : DataId) (m : Mutation) → element_at (server_step s moment i choice).seen shown ≡ Some (Numbered handle version serial id m)
    → (lease : SerialOrder) × (table.get s.leases handle.0 ≡ Some lease) × (lease.held.version ≡ version.0)
    × MayFollow (chunk_limit s lease.chunk) (entries_of w.observer handle.0) version.0 m × ((bytes : List ℕ) × IsPushed w.sent id bytes × IsMadeOf (chunk_limit s lease.chunk) bytes m)

-- Rounds never fall in the order, and serials rise within a round; each entry may follow those before it, and is made of what its client pushed: in a chunk of a size that a Grant of its round told, of whichever chunk, and that is at most this one.
abbrev pub IsLawful : (most : ℕ) → List Message → List Placed → Type 0
IsLawful most sent order =
    AreRising order
    × ((place : ℕ) (p : Placed) → element_at order place ≡ Some p
    → (from size : ℕ) × IsSizeGranted sent from p.entry.round size
    × MayFollow (min size most) (map (λ q. q.entry) (take place order)) p.entry.round p.entry.mutation × HasData (min size most) sent p)

-- the first order, and maybe more behind it
abbrev pub GoesOn : (first all : List Placed) → Type 0
GoesOn first all = (more : List Placed) × (all ≡ first ++ more)

-- Where clocks and disks are kept, each chunk's order is lawful, and that of a copy begins with its source's up to the version that a CopyLocal copies, from the moment the order is sent (sections 3.1, 3.3 and 3.4).
abbrev pub OrdersAreLawful : Type 0
OrdersAreLawful =
    (config : Config) (servers clients : ℕ) (w : WorldState) → IsReached config servers clients w → IsTrue (is_kept w)
    → ((handle : ℕ) → IsLawful config.chunk w.sent (order_of w.observer handle))
    × ((place : ℕ) (m : Message) → element_at w.sent place ≡ Some m
    → (order : OrderNo) (handle : Handle) (version : Version) (copy : Handle) (copy_version : Version) → m.body ≡ body.CopyLocal order handle version copy copy_version
    → GoesOn (up_to version.0 (order_of w.observer handle.0)) (order_of w.observer copy.0))
