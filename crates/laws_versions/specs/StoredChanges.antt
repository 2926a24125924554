-- Laws of every lawful list of events on what servers read of their replicas, that public functions of this crate state.
use Rattle.std.specs.Prelude.{◌≡◌, ◌≤◌, ℕ, ◌+◌, List, length, take, drop, Some, IsTrue}
use Rattle.gfs_types.specs.declared.config.Config.{Config}
use Rattle.replica_store.specs.Replicas.{Replica, ServerDisk, replica_of, own_bytes, read_at, is_copyable_at, is_writable, stored_replica, written_replica, rotten_replica}
use Rattle.protocol.specs.Tables.{element_at}
use Rattle.protocol.specs.Server.{ServerState}
use Rattle.protocol.specs.Observer.{Observer}
use Rattle.protocol.specs.StoredBytes.{stored_bytes, observed_rot}
use Rattle.protocol.specs.World.{WorldState, IsReached}
use Rattle.laws_versions.specs.ReplicaImages.{with_bytes}

-- Where disks are kept, the whole of a replica is read as it was stored, and so it is copied on its disk: rot is found (section 5.2).
abbrev pub ReplicasAreReadAsStored : Type 0
ReplicasAreReadAsStored =
    (config : Config) (servers clients : ℕ) (w : WorldState) → IsReached config servers clients w → IsTrue w.observer.are_disks_kept
    → (index : ℕ) (s : ServerState) → element_at w.servers index ≡ Some s → (handle : ℕ) (r : Replica) → replica_of s.disk handle ≡ Some r
    → ((bytes : List ℕ) → read_at s.disk handle 0 r.count ≡ Some bytes → bytes ≡ stored_bytes w.observer index handle s.disk r)
    × (IsTrue (is_copyable_at s.disk handle) → own_bytes r ≡ stored_bytes w.observer index handle s.disk r)

-- So is each part: what is read of a range is what was stored there (section 5.2).
abbrev pub ReadsAreAsStored : Type 0
ReadsAreAsStored =
    (config : Config) (servers clients : ℕ) (w : WorldState) → IsReached config servers clients w → IsTrue w.observer.are_disks_kept
    → (index : ℕ) (s : ServerState) → element_at w.servers index ≡ Some s → (handle : ℕ) (r : Replica) → replica_of s.disk handle ≡ Some r
    → (offset count : ℕ) (bytes : List ℕ) → read_at s.disk handle offset count ≡ Some bytes → bytes ≡ take count (drop offset (stored_bytes w.observer index handle s.disk r))

-- What is put is what was stored, whatever was noted before (section 5.2).
abbrev pub PutsAreStored : Type 0
PutsAreStored =
    (o : Observer) (index handle : ℕ) (d : ServerDisk) (version serial : ℕ) (bytes : List ℕ) → length bytes ≤ d.chunk
    → stored_bytes o index handle d (stored_replica d.chunk d.block version serial bytes) ≡ bytes

-- Where disks are kept, a write that blocks allow leaves stored what was stored before, with its bytes in their place: also over bytes that rotted (section 5.2).
abbrev pub WritesAreStored : Type 0
WritesAreStored =
    (config : Config) (servers clients : ℕ) (w : WorldState) → IsReached config servers clients w → IsTrue w.observer.are_disks_kept
    → (index : ℕ) (s : ServerState) → element_at w.servers index ≡ Some s → (handle : ℕ) (r : Replica) → replica_of s.disk handle ≡ Some r
    → (serial offset : ℕ) (bytes : List ℕ) → offset + length bytes ≤ s.disk.chunk → IsTrue (is_writable s.disk.block r offset (offset + length bytes))
    → stored_bytes w.observer index handle s.disk (written_replica s.disk.block r serial offset bytes) ≡ with_bytes (stored_bytes w.observer index handle s.disk r) offset bytes

-- A byte that rots leaves what was stored, as far as disks are kept (section 5.2).
abbrev pub RotLeavesWhatWasStored : Type 0
RotLeavesWhatWasStored =
    (o : Observer) (index handle : ℕ) (d : ServerDisk) (r : Replica) (place byte : ℕ) → IsTrue (observed_rot o index handle d.block r (rotten_replica r place byte)).are_disks_kept
    → stored_bytes (observed_rot o index handle d.block r (rotten_replica r place byte)) index handle d (rotten_replica r place byte) ≡ stored_bytes o index handle d r
