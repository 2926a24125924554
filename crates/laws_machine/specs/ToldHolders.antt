-- What a location stands for at the machine: up to a holder's version the handle's entries are those of the file's chunk, so what its server reads is of the chunk (sections 2.4, 2.7.1 and 3.4).
use Rattle.std.specs.Prelude.{◌≡◌, ◌⊎◌, ℕ, suc, ◌<◌, ◌≤◌, List, length, Some, IsTrue, IsFalse}
use Rattle.gfs_types.specs.declared.config.Config.{Config}
use Rattle.gfs_types.specs.declared.call.Call.{Call}
use Rattle.messages.specs.declared.message.Holder.{Holder}
use Rattle.messages.specs.declared.message.Location.{Location}
use Rattle.chunk_table.specs.ChunkTable.{ChunkRow, file_of, chunk_of}
use Rattle.relaxed_file.specs.Order.{Entry, mutations_of}
use Rattle.relaxed_file.specs.Reads.{read_slice}
use Rattle.gfs_types.specs.Image.{image_length}
use Rattle.messages.specs.declared.event.Event.{Event}
use Rattle.messages.specs.declared.message.Body.{Body}
use Rattle.messages.specs.declared.message.Body.TheVariants as body
use Rattle.client_state.specs.declared.call.CurrentCall.{CurrentCall}
use Rattle.client_state.specs.declared.call.ToldChunk.{ToldChunk}
use Rattle.laws_base.specs.Reads.{IsTold, IsTrueOf}
use Rattle.laws_base.specs.Versions.{IsLeaseOver}
use Rattle.relaxed_file.specs.Machine.{chunk_at, chunk_count}
use Rattle.replica_store.specs.declared.row.Row.{Row}
use Rattle.replica_store.specs.Replicas.{row_at}
use Rattle.protocol.specs.Tables.{element_at}
use Rattle.protocol.specs.ClientAttempts.{is_length}
use Rattle.protocol.specs.Server.{ServerState}
use Rattle.protocol.specs.Choice.{Choice}
use Rattle.protocol.specs.World.{WorldState, happens, IsReached, is_kept}
use Rattle.laws_machine.specs.ChunksAlike.{ChunkSides, AreChunksAlike}
use Rattle.laws_machine.specs.ChunkReadings.{IsReadAs}
use Rattle.laws_machine.specs.FileAnswers.{IsLastRound, IsSeenAt}
use Rattle.laws_versions.specs.ReplacedChunks.{IsToldAt}
use Rattle.laws_machine.specs.HoldersApart.{StandsUpTo, IsApart}
use Rattle.laws_machine.specs.Rounds.{IsLogOf}

-- each holder that was told may be read: what it has of its version stands for the chunk
abbrev pub IsToldHolder : ChunkSides → ℕ → Location → Holder → Type 0
IsToldHolder k file l h = (l.round.0 ≤ h.version.0) × StandsUpTo k file l.index l.handle.0 h.version.0

-- the handle stands for the chunk up to this version, and will, as rounds are apart
pub record IsStandingFor (w : WorldState) (k : ChunkSides) (file index handle version : ℕ) : Type 0 where
  pub stands : StandsUpTo k file index handle version
  pub apart : IsApart (IsLeaseOver w) k handle version (record { file = file; index = index })

-- So does what a location names, whose handle was used: up to its round, and up to each holder's version, which is no earlier.
pub record IsToldLocation (w : WorldState) (k : ChunkSides) (file : ℕ) (l : Location) : Type 0 where
  pub used : l.handle.0 < k.log.next_handle
  pub round : IsStandingFor w k file l.index l.handle.0 l.round.0
  pub holders : (n : ℕ) (x : Holder) → element_at l.holders n ≡ Some x → (l.round.0 ≤ x.version.0) × IsStandingFor w k file l.index l.handle.0 x.version.0

-- So it is of each location that a client was told for its ask for a chunk of a file, also of one that was never granted.
abbrev pub AreHoldersTold : WorldState → ChunkSides → Type 0
AreHoldersTold w k = (client file : ℕ) (l : Location) → IsTold w.sent client file l → IsToldLocation w k file l

-- Where clocks and disks are kept: what a server has under a version that is no earlier than the round that was told, and up to which its handle stands for the chunk, is seen of the chunk.
abbrev pub HoldersAreSeen : Type 0
HoldersAreSeen =
    (config : Config) (servers clients : ℕ) (w : WorldState) → IsReached config servers clients w → IsTrue (is_kept w) → (k : ChunkSides) → k.orders ≡ w.observer.orders
    → (server : ℕ) (s : ServerState) → element_at w.servers server ≡ Some s → (handle : ℕ) (row : Row) → row_at s.disk handle ≡ Some row
    → (file index round : ℕ) → round ≤ row.version.0 → StandsUpTo k file index handle row.version.0
    → (chosen : List Entry) × IsSeenAt k.machine file index round row.version.0 chosen × IsReadAs s handle row (chunk_at k.machine file index).order chosen

-- Where chunks are alike, a chunk of a file in the log is one that may be told, in the round that its row grants.
abbrev pub LoggedChunksAreLastRounds : Type 0
LoggedChunksAreLastRounds =
    (k : ChunkSides) → AreChunksAlike k → (file : ℕ) (handles : List ℕ) → file_of k.log.table file ≡ Some handles → IsFalse (k.machine.files file).is_collected
    → (l : Location) (handle : ℕ) (row : ChunkRow) → element_at handles l.index ≡ Some handle → chunk_of k.log.table handle ≡ Some row → l.round.0 ≡ row.granted
    → (asked : Call) → (IsTrue (is_length asked) → length handles ≡ suc l.index) → IsLastRound k.machine file asked l

-- what an answer to a client's reading shows: the bytes of the part in hand, or the length, of these entries
abbrev pub IsShownAs : ℕ → CurrentCall → List Entry → Body → Type 0
IsShownAs size x chosen (body.Bytes number bytes) = bytes ≡ read_slice size x.index x.asked chosen
IsShownAs size x chosen (body.LenIs number count) = count ≡ image_length (mutations_of chosen)
IsShownAs size x chosen other = Unit {0}

-- An answer that is so at the server shows what is seen of the chunk.
abbrev pub AnswersShowTheChunk : Type 0
AnswersShowTheChunk =
    (s : ServerState) (size : ℕ) (x : CurrentCall) (chunk : ToldChunk) (row : Row) (order chosen : List Entry) → IsReadAs s chunk.handle.0 row order chosen
    → (answer : Body) → IsTrueOf s.disk row size x chunk answer → IsShownAs size x chosen answer

-- a version up to which a location says that its handle stands for the chunk
abbrev pub IsToldVersion : Location → ℕ → Type 0
IsToldVersion l version = (version ≡ l.round.0) ⊎ ((n : ℕ) × (x : Holder) × (element_at l.holders n ≡ Some x) × (version ≡ x.version.0))

-- What holders that were told ask of an event of the master: the machine leaves the orders of the chunks that there were, no handle is used again, rounds are apart still, and what is told anew is so.
pub record HoldersMayGoOn (w then_ : WorldState) (k j : ChunkSides) : Type 0 where
  pub orders : (file index : ℕ) → index < chunk_count k.machine file → (index < chunk_count j.machine file) × ((chunk_at j.machine file index).order ≡ (chunk_at k.machine file index).order)
  pub next : k.log.next_handle ≤ j.log.next_handle
  pub apart : (client file : ℕ) (l : Location) → IsTold w.sent client file l
      → (version : ℕ) → IsToldVersion l version → IsApart (IsLeaseOver w) k l.handle.0 version (record { file = file; index = l.index }) → IsApart (IsLeaseOver then_) j l.handle.0 version (record { file = file; index = l.index })
  pub begun : (client file : ℕ) (l : Location) (t : IsTold then_.sent client file l) → length w.sent ≤ (t.sent_is).0 → IsToldLocation then_ j file l

-- Where clocks are kept, and chunks are alike before an event, what is told in it with a granted round stands there: its handle was used, and stands for the file's chunk up to each version.
abbrev pub ToldChunksStand : Type 0
ToldChunksStand =
    (config : Config) (servers clients : ℕ) (w : WorldState) → IsReached config servers clients w → (e : Event) (choice : Choice) → IsTrue (happens w e choice).world.observer.are_clocks_kept
    → (k : ChunkSides) → IsLogOf w.master k.log → AreChunksAlike k
    → (client file : ℕ) (l : Location) (place : ℕ) → IsToldAt (happens w e choice).world.sent client file l place → length w.sent ≤ place
    → (l.handle.0 < k.log.next_handle) × ((version : ℕ) → StandsUpTo k file l.index l.handle.0 version)
