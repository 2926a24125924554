-- The law of every lawful list of events on where replicas end, that a public function of this crate states.
use Rattle.std.specs.Prelude.{◌≡◌, ◌⊎◌, ℕ, ◌≤◌, List, Some, IsTrue}
use Rattle.gfs_types.specs.declared.config.Config.{Config}
use Rattle.gfs_types.specs.Mutations.{end_of}
use Rattle.replica_store.specs.Replicas.{Replica, ServerDisk, replica_of}
use Rattle.protocol.specs.Tables.{element_at}
use Rattle.protocol.specs.Choice.{Choice}
use Rattle.protocol.specs.Observer.{Placed, order_of}
use Rattle.protocol.specs.Server.{ServerState}
use Rattle.protocol.specs.ServerStep.{found_disk}
use Rattle.protocol.specs.World.{WorldState, IsReached}

-- so many bytes are none, or end where an entry of the order ends that is of a round up to this version
abbrev pub EndsAtEntry : List Placed → (version count : ℕ) → Type 0
EndsAtEntry order version count = (count ≡ 0) ⊎ ((place : ℕ) × (p : Placed) × (element_at order place ≡ Some p) × (p.entry.round ≤ version) × (end_of p.entry.mutation ≡ count))

-- so does each replica
abbrev pub AreEnded : WorldState → ServerDisk → Type 0
AreEnded w d = (handle : ℕ) (r : Replica) → replica_of d handle ≡ Some r → EndsAtEntry (order_of w.observer handle) r.version r.count

-- Where clocks are kept, each replica ends where an entry of its chunk's order ends, or has no bytes: on the disk of a server, and on what a restart finds there, however the change under way is decided; also where bytes rot unnoticed (sections 2.7.1 and 3.1).
abbrev pub ReplicasEndAtEntries : Type 0
ReplicasEndAtEntries =
    (config : Config) (servers clients : ℕ) (w : WorldState) → IsReached config servers clients w → IsTrue w.observer.are_clocks_kept
    → (index : ℕ) (s : ServerState) → element_at w.servers index ≡ Some s → AreEnded w s.disk × ((choice : Choice) → AreEnded w (found_disk s choice))
