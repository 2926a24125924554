-- Laws of every lawful list of events on the bytes of replicas, that public functions of this crate state.
use Rattle.std.specs.Prelude.{◌≡◌, ◌⊎◌, ◌≤◌, ◌+◌, ◌-◌, ℕ, Bool, if◌then◌else◌, List, [], ◌∷◌, ◌++◌, map, length, take, drop, replicate, Some, IsTrue}
use Rattle.std.specs.List.{AllByRecursion}
use Rattle.gfs_types.specs.declared.config.Config.{Config}
use Rattle.gfs_types.specs.declared.ids.Handle.{Handle}
use Rattle.gfs_types.specs.declared.ids.Version.{Version}
use Rattle.gfs_types.specs.declared.ids.Serial.{Serial}
use Rattle.gfs_types.specs.declared.mutation.Mutation.{Mutation}
use Rattle.gfs_types.specs.declared.mutation.Mutation.TheVariants.{Write, Append, Pad}
use Rattle.gfs_types.specs.Mutations.{start_of, end_of}
use Rattle.gfs_types.specs.Image.{image}
use Rattle.messages.specs.declared.message.Message.{Message}
use Rattle.messages.specs.declared.message.Body.TheVariants as body
use Rattle.replica_store.specs.Replicas.{Replica, ServerDisk, replica_of}
use Rattle.protocol.specs.Tables.{element_at}
use Rattle.protocol.specs.Choice.{Choice}
use Rattle.protocol.specs.Observer.{Placed, order_of}
use Rattle.protocol.specs.StoredBytes.{stored_bytes}
use Rattle.protocol.specs.Server.{ServerState}
use Rattle.protocol.specs.ServerStep.{found_disk}
use Rattle.protocol.specs.World.{WorldState, IsReached, is_kept}
use Rattle.laws_base.specs.ChunkOrders.{unsettled}

-- the bytes that a mutation writes; a pad writes zeros up to its end
abbrev pub written_by : Mutation → List ℕ
written_by (Write offset bytes) = bytes
written_by (Append offset bytes) = bytes
written_by (Pad offset end) = replicate (end - offset) 0

-- bytes with others written into them; a hole before those is zeros
abbrev pub with_bytes : List ℕ → ℕ → List ℕ → List ℕ
with_bytes old offset new = take offset old ++ replicate (offset - length old) 0 ++ new ++ drop (offset + length new) old

-- The bytes of a chunk after mutations and one more that ends no earlier than it begins are those after the first ones, with what the last one writes from its place on (section 2.7.1).
abbrev pub ImagesAreWrittenTo : Type 0
ImagesAreWrittenTo = (ms : List Mutation) (m : Mutation) → start_of m ≤ end_of m → image (ms ++ m ∷ []) ≡ with_bytes (image ms) (start_of m) (written_by m)

-- the marked entries of an order, as they stand in it, whatever is settled
abbrev pub marked : List Bool → List Placed → List Placed
marked [] order = []
marked (mark ∷ marks) [] = []
marked (mark ∷ marks) (p ∷ order) = if mark then unsettled p ∷ marked marks order else marked marks order

abbrev pub mutations_in : List Placed → List Mutation
mutations_in ps = map (λ p. p.entry.mutation) ps

-- an entry of a round up to this version; and of the version's own round its serial is at most the last one
abbrev pub IsWithin : (version serial : ℕ) → Placed → Type 0
IsWithin version serial p = (p.entry.round ≤ version) × (p.entry.round ≡ version → p.serial ≤ serial)

-- one of them has this round and this serial
abbrev pub HasEntry : List Placed → (version serial : ℕ) → Type 0
HasEntry ps version serial = (place : ℕ) × (p : Placed) × (element_at ps place ≡ Some p) × (p.entry.round ≡ version) × (p.serial ≡ serial)

-- These bytes, at a version with a last serial, are the image of some entries of the order, in its order, none of a later round. Of the version's own round none has a later serial, and the last serial is that of one of them, or none was applied under this version.
pub record IsImageOf (order : List Placed) (version serial : ℕ) (bytes : List ℕ) : Type 0 where
  pub marks : List Bool
  pub bytes_are : bytes ≡ image (mutations_in (marked marks order))
  pub applied : AllByRecursion (IsWithin version serial) (marked marks order)
  pub last : (serial ≡ 0) ⊎ HasEntry (marked marks order) version serial

-- so are the bytes of each replica on the disk of the server at an index, as they were stored
abbrev pub AreImages : WorldState → ℕ → ServerDisk → Type 0
AreImages w index d = (handle : ℕ) (r : Replica) → replica_of d handle ≡ Some r → IsImageOf (order_of w.observer handle) r.version r.serial (stored_bytes w.observer index handle d r)

-- Where clocks and disks are kept, each replica is the image of some entries of its chunk's order up to its version: on the disk of a server, and on what a restart finds there, however the change under way is decided (sections 2.7.1 and 3.1).
abbrev pub ReplicasAreImages : Type 0
ReplicasAreImages =
    (config : Config) (servers clients : ℕ) (w : WorldState) → IsReached config servers clients w → IsTrue (is_kept w)
    → (index : ℕ) (s : ServerState) → element_at w.servers index ≡ Some s → AreImages w index s.disk × ((choice : Choice) → AreImages w index (found_disk s choice))

-- So are the bytes of each Image that was sent (section 4.3).
abbrev pub SentImagesAreImages : Type 0
SentImagesAreImages =
    (config : Config) (servers clients : ℕ) (w : WorldState) → IsReached config servers clients w → IsTrue (is_kept w)
    → (place : ℕ) (m : Message) → element_at w.sent place ≡ Some m → (handle : Handle) (version : Version) (serial : Serial) (bytes : List ℕ) → m.body ≡ body.Image handle version serial bytes
    → IsImageOf (order_of w.observer handle.0) version.0 serial.0 bytes
