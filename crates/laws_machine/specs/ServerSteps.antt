-- What a server's step shows of orders is what the machine places and settles (sections 3.1 and 3.3).
use Rattle.std.specs.Prelude.{◌≡◌, ℕ, ◌<◌, Bool, true, false, List, [], length, Option, Some, IsTrue, IsFalse}
use Rattle.std.specs.List.{list_all}
use Rattle.gfs_types.specs.declared.call.Call.{Call}
use Rattle.gfs_types.specs.declared.call.Call.TheVariants as call
use Rattle.gfs_types.specs.declared.config.Config.{Config}
use Rattle.gfs_types.specs.declared.ids.DataId.{DataId}
use Rattle.gfs_types.specs.declared.ids.Handle.{Handle}
use Rattle.gfs_types.specs.declared.ids.Version.{Version}
use Rattle.gfs_types.specs.declared.mutation.Mutation.{Mutation}
use Rattle.gfs_types.specs.declared.mutation.Mutation.TheVariants.{Write, Append, Pad}
use Rattle.messages.specs.declared.event.Event.{Event}
use Rattle.messages.specs.declared.event.NodeInput.{NodeInput}
use Rattle.relaxed_file.specs.Order.{CallId}
use Rattle.relaxed_file.specs.Parts.{has_part, part_start, part_bytes, is_range_too_long}
use Rattle.relaxed_file.specs.Machine.{Machine, OpenCall, IsOpen, chunk_size, chunk_at, chunk_count}
use Rattle.relaxed_file.specs.Chunks.{AreEarlierPartsSettled, tries_in, tries_below}
use Rattle.relaxed_file.specs.Run.{Action, Place, Settle, IsLawful, visible, after_all}
use Rattle.machine_names.specs.NameProjections.{AreNamesOf}
use Rattle.protocol.specs.Choice.{Choice}
use Rattle.protocol.specs.Tables.{Table}
use Rattle.protocol.specs.Observer.{Placed, observed_moment, calls_made}
use Rattle.protocol.specs.Server.{ServerState}
use Rattle.protocol.specs.World.{WorldState, happens, IsReached, is_kept}
use Rattle.laws_base.specs.Entries.{IsPushed}
use Rattle.laws_base.specs.Deadlines.{Numbers}
use Rattle.laws_base.specs.Versions.{IsLeaseOver}
use Rattle.protocol_invariant.specs.Actions.{Spot}
use Rattle.laws_machine.specs.ChunksAlike.{ChunkSides, IsRoundOpen, AreChunksAlike, NoneEnds, HasRounds, moved, Follows, StoodAt, chunk_in, entries_in}
use Rattle.laws_machine.specs.HoldersApart.{KeepsStanding}
use Rattle.laws_machine.specs.Rounds.{IsLogOf, IsMastersStep}
use Rattle.laws_machine.specs.Tries.{IsNumberedAt, IsRise, RiseBy}
use Rattle.laws_machine.specs.RoundSizes.{AreRoundsSized}
use Rattle.relaxed_file.specs.Run as run

-- a mutation takes its place in an order, or is settled there
abbrev pub is_of_entries : Action → Bool
is_of_entries (Place client file index mutation) = true
is_of_entries (Settle file index place) = true
is_of_entries other = false

-- Clients see nothing of such actions, which leave the names.
abbrev pub EntryActionsAreUnseen : Type 0
EntryActionsAreUnseen =
    (m n : Machine) (actions : List Action) → IsTrue (list_all is_of_entries actions) → IsLawful m actions → AreNamesOf m n → (visible actions ≡ []) × AreNamesOf (after_all m actions) n

-- what the client pushed for this part of its call
abbrev pub AreDataOf : (size index : ℕ) → Call → List ℕ → Type 0
AreDataOf size index (call.Write fd offset bytes) pushed = pushed ≡ part_bytes size offset bytes index
AreDataOf size index (call.Append fd bytes) pushed = pushed ≡ bytes
AreDataOf size index other pushed = ⊥

-- The call has a part that this mutation is to place: a write begins where its part does, and its earlier parts are settled; a write and a record have a try left.
abbrev pub HasPartLeft : Machine → CallId → (file index : ℕ) → Call → Mutation → Type 0
HasPartLeft m id file index (call.Write fd offset bytes) (Write at content) =
    IsFalse (is_range_too_long offset (length bytes)) × IsTrue (has_part (chunk_size m file) offset (length bytes) index) × (at ≡ part_start (chunk_size m file) offset index)
    × AreEarlierPartsSettled m id file offset (length bytes) index × (tries_in id (chunk_at m file index) < m.config.attempts)
HasPartLeft m id file index (call.Append fd bytes) (Append at content) = tries_below (m.files file).chunks id (chunk_count m file) < m.config.attempts
HasPartLeft m id file index (call.Append fd bytes) (Pad at end) = Unit {0}
HasPartLeft m id file index other mutation = ⊥

-- The client's open call at the machine is its last one, for the file of this place, and for it the data were pushed.
pub record IsForOpenCall (w : WorldState) (k : ChunkSides) (id : DataId) (s : Spot) (mutation : Mutation) : Type 0 where
  pub current : OpenCall
  pub is_open : IsOpen k.machine id.client.0 current
  pub number_is : current.number ≡ calls_made w.observer.trace id.client.0
  pub file_is : current.asked.file ≡ Some s.file
  pub pushed : (bytes : List ℕ) → IsPushed w.sent id bytes → AreDataOf (chunk_size k.machine s.file) s.index current.asked.call bytes
  pub part : HasPartLeft k.machine (record { client = id.client.0; number = current.number }) s.file s.index current.asked.call mutation

-- The clients' calls are so of each mutation that a server may number now, where its round is open.
abbrev pub AreForOpenCalls : WorldState → ChunkSides → Type 0
AreForOpenCalls w k =
    (index moment : ℕ) (s : ServerState) (i : NodeInput) (choice : Choice) (handle : Handle) (version : Version) (id : DataId) (n : Numbers w index moment s i choice handle version id)
    → IsTrue (observed_moment w.config.skew_ms w.observer moment).are_clocks_kept → (at : Spot) → IsRoundOpen k handle.0 version.0 at → IsForOpenCall w k id at n.placed

-- The order of a handle that no file has any more is that of the chunk where it stood.
abbrev pub AreGoneOrdersAlike : ChunkSides → Type 0
AreGoneOrdersAlike k = (handle : ℕ) (s : Spot) → StoodAt k handle s → entries_in k.orders handle ≡ (chunk_in k.machine s).order

-- The machine may place and settle what makes its orders these; then all is alike again, also of gone handles, each round stays open, what stands for a chunk does so still, and tries of calls rise only so.
pub record ComesToOrders (IsOver : ℕ → ℕ → Type 0) (k : ChunkSides) (orders : Table (List Placed)) (Rise : Spot → CallId → Type 0) : Type 0 where
  pub actions : List Action
  pub of_entries : IsTrue (list_all is_of_entries actions)
  pub follows : Follows NoneEnds k actions (moved k actions k.log k.gone orders)
  pub gone : AreGoneOrdersAlike k → AreGoneOrdersAlike (moved k actions k.log k.gone orders)
  pub standing : KeepsStanding IsOver k (moved k actions k.log k.gone orders)
  pub tries : RiseBy Rise k.machine (after_all k.machine actions)

-- At an event that is no step of the master the machine may come to the orders that are seen after it, also where a server stops: where clocks and disks are kept, the round of each lease that isn't over is open, and the clients' calls are alike.
abbrev pub OtherEventsAreTaken : Type 0
OtherEventsAreTaken =
    (config : Config) (servers clients : ℕ) (w : WorldState) → IsReached config servers clients w → IsTrue (is_kept w)
    → (e : Event) (choice : Choice) → IsTrue (happens w e choice).world.observer.are_clocks_kept → (IsMastersStep w e → ⊥)
    → (k : ChunkSides) → k.machine.config ≡ config → k.orders ≡ w.observer.orders → IsLogOf w.master k.log → AreChunksAlike k → HasRounds (IsLeaseOver w) k
    → run.IsReached config k.machine → AreRoundsSized w k → AreForOpenCalls w k
    → (g : Option (IsNumberedAt w (happens w e choice).world k)) × ComesToOrders (IsLeaseOver w) k (happens w e choice).world.observer.orders (IsRise w (happens w e choice).world k g)
