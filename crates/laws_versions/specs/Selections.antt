-- Laws of every lawful list of events on what replicas have applied of their chunk's order, that public functions of this crate state.
use Rattle.std.specs.Prelude.{◌≡◌, ◌≤◌, ℕ, true, List, Some, IsTrue}
use Rattle.gfs_types.specs.declared.config.Config.{Config}
use Rattle.gfs_types.specs.declared.ids.Handle.{Handle}
use Rattle.gfs_types.specs.declared.ids.Version.{Version}
use Rattle.gfs_types.specs.declared.ids.Serial.{Serial}
use Rattle.gfs_types.specs.declared.ids.DataId.{DataId}
use Rattle.gfs_types.specs.declared.mutation.Mutation.{Mutation}
use Rattle.gfs_types.specs.Mutations.{end_of}
use Rattle.gfs_types.specs.Image.{image}
use Rattle.messages.specs.declared.event.NodeInput.{NodeInput}
use Rattle.messages.specs.declared.event.NodeInput.TheVariants.{Deliver}
use Rattle.messages.specs.declared.message.Message.{Message}
use Rattle.messages.specs.declared.message.Body.TheVariants as body
use Rattle.relaxed_file.specs.Order.{Entry, mutations_of, IsSelection}
use Rattle.replica_store.specs.Replicas.{Replica, ServerDisk, replica_of}
use Rattle.protocol.specs.Tables.{element_at}
use Rattle.protocol.specs.Choice.{Choice}
use Rattle.protocol.specs.Observer.{Placed, observed_moment, order_of, entries_of}
use Rattle.protocol.specs.declared.seen.Seen.TheVariants.{Numbered}
use Rattle.protocol.specs.StoredBytes.{stored_bytes}
use Rattle.protocol.specs.Server.{ServerState}
use Rattle.protocol.specs.ServerStep.{found_disk, server_step}
use Rattle.protocol.specs.World.{WorldState, IsReached, is_kept}
use Rattle.laws_versions.specs.HeldRounds.{ComesBehind}
use Rattle.laws_versions.specs.ReplicaImages.{marked, HasEntry, IsImageOf}

-- each settled entry of the order of a round up to this version is among these entries
abbrev pub HasSettled : List Placed → (version : ℕ) → List Placed → Type 0
HasSettled order version ps = (place : ℕ) (p : Placed) → element_at order place ≡ Some p → p.entry.settled ≡ true → p.entry.round ≤ version → HasEntry ps p.entry.round p.serial

-- each replica is the image of entries of its chunk's order up to its version, and each settled one up to it is among them
abbrev pub HaveSettled : WorldState → ℕ → ServerDisk → Type 0
HaveSettled w index d =
    (handle : ℕ) (r : Replica) → replica_of d handle ≡ Some r
    → (g : IsImageOf (order_of w.observer handle) r.version r.serial (stored_bytes w.observer index handle d r)) × HasSettled (order_of w.observer handle) r.version (marked g.marks (order_of w.observer handle))

-- Where clocks and disks are kept, so it is on the disk of each server, and on what a restart finds there, however the change under way is decided (sections 2.7.1 and 3.1).
abbrev pub ReplicasHaveSettledEntries : Type 0
ReplicasHaveSettledEntries =
    (config : Config) (servers clients : ℕ) (w : WorldState) → IsReached config servers clients w → IsTrue (is_kept w)
    → (index : ℕ) (s : ServerState) → element_at w.servers index ≡ Some s → HaveSettled w index s.disk × ((choice : Choice) → HaveSettled w index (found_disk s choice))

-- So it is of the bytes of each Image that was sent (section 4.3).
abbrev pub ImagesHaveSettledEntries : Type 0
ImagesHaveSettledEntries =
    (config : Config) (servers clients : ℕ) (w : WorldState) → IsReached config servers clients w → IsTrue (is_kept w)
    → (place : ℕ) (m : Message) → element_at w.sent place ≡ Some m → (handle : Handle) (version : Version) (serial : Serial) (bytes : List ℕ) → m.body ≡ body.Image handle version serial bytes
    → (g : IsImageOf (order_of w.observer handle.0) version.0 serial.0 bytes) × HasSettled (order_of w.observer handle.0) version.0 (marked g.marks (order_of w.observer handle.0))

-- each replica is the image of a selection of its chunk's order up to its version: entries of rounds up to it, in order, with no settled one left out
abbrev pub AreSelections : WorldState → ℕ → ServerDisk → Type 0
AreSelections w index d =
    (handle : ℕ) (r : Replica) → replica_of d handle ≡ Some r → (chosen : List Entry) × IsSelection r.version (entries_of w.observer handle) chosen × (stored_bytes w.observer index handle d r ≡ image (mutations_of chosen))

-- Where clocks and disks are kept, so it is on the disk of each server, and on what a restart finds there (sections 2.7.1 and 3.1).
abbrev pub ReplicasAreSelections : Type 0
ReplicasAreSelections =
    (config : Config) (servers clients : ℕ) (w : WorldState) → IsReached config servers clients w → IsTrue (is_kept w)
    → (index : ℕ) (s : ServerState) → element_at w.servers index ≡ Some s → AreSelections w index s.disk × ((choice : Choice) → AreSelections w index (found_disk s choice))

-- Where clocks and disks are kept, as a server numbers a record or a pad, it begins past each settled entry of the chunk (section 3.3).
abbrev pub RecordsComeBehindSettledEntries : Type 0
RecordsComeBehindSettledEntries =
    (config : Config) (servers clients : ℕ) (w : WorldState) → IsReached config servers clients w → IsTrue (is_kept w) → (index : ℕ) (s : ServerState) → element_at w.servers index ≡ Some s
    → (moment : ℕ) (i : NodeInput) (choice : Choice) → ((m : Message) → i ≡ Deliver m → (at : ℕ) × (element_at w.sent at ≡ Some m)) → IsTrue (observed_moment w.config.skew_ms w.observer moment).are_clocks_kept
    → (shown : ℕ) (handle : Handle) (version : Version) (serial : Serial) (id : DataId) (m : Mutation) → element_at (server_step s moment i choice).seen shown ≡ Some (Numbered handle version serial id m)
    → (place : ℕ) (e : Placed) → element_at (order_of w.observer handle.0) place ≡ Some e → e.entry.settled ≡ true → ComesBehind (end_of e.entry.mutation) m
