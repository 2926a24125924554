-- Laws on how a server's step changes its replicas, that public functions of this crate state.
use Rattle.std.specs.Prelude.{◌≡◌, ◌⊎◌, ◌≤◌, ◌<◌, ℕ, List, [], ◌∷◌, Some, IsTrue}
use Rattle.gfs_types.specs.declared.config.Config.{Config}
use Rattle.messages.specs.declared.event.NodeInput.{NodeInput}
use Rattle.replica_store.specs.Replicas.{Replica, replica_of}
use Rattle.protocol.specs.Tables.{element_at}
use Rattle.protocol.specs.Choice.{Choice}
use Rattle.protocol.specs.declared.seen.Seen.{Seen}
use Rattle.protocol.specs.declared.seen.Seen.TheVariants.{Numbered, BecameSettled, CopyStarted}
use Rattle.protocol.specs.Server.{ServerState}
use Rattle.protocol.specs.ServerStep.{found_disk, server_step}
use Rattle.protocol.specs.World.{WorldState, IsReached}

-- a mutation of this chunk was given this serial
abbrev pub IsNumberedIn : List Seen → (handle serial : ℕ) → Type 0
IsNumberedIn [] handle serial = ⊥
IsNumberedIn (Numbered h version n id m ∷ rest) handle serial = ((h.0 ≡ handle) × (n.0 ≡ serial)) ⊎ IsNumberedIn rest handle serial
IsNumberedIn (BecameSettled h version n ∷ rest) handle serial = IsNumberedIn rest handle serial
IsNumberedIn (CopyStarted h copy ∷ rest) handle serial = IsNumberedIn rest handle serial

-- How a replica that stays is changed by a step that showed this: it has no fewer bytes, and is the same, or has its bytes under some version with serial 0, or is written to under a later serial, or under one that was given just now.
abbrev pub IsChangedBy : List Seen → ℕ → Replica → Replica → Type 0
IsChangedBy seen handle r now =
    (r.count ≤ now.count)
    × ((now ≡ r) ⊎ (((now.bytes ≡ r.bytes) × (now.count ≡ r.count) × (now.serial ≡ 0)) ⊎ ((now.version ≡ r.version) × ((r.serial < now.serial) ⊎ IsNumberedIn seen handle now.serial))))

-- So is each replica changed that a server has before a step and after it, also where the step stops (sections 3.1 and 5.2).
abbrev pub ReplicasChangeInSerialOrder : Type 0
ReplicasChangeInSerialOrder =
    (s : ServerState) (moment : ℕ) (i : NodeInput) (choice : Choice) (handle : ℕ) (r now : Replica)
    → replica_of s.disk handle ≡ Some r → replica_of (server_step s moment i choice).state.disk handle ≡ Some now
    → IsChangedBy (server_step s moment i choice).seen handle r now

-- So is each replica changed that a server has before a step and that a restart finds after it, however the change under way is decided, for every lawful list (section 5.2).
abbrev pub ReplicasAreFoundInSerialOrder : Type 0
ReplicasAreFoundInSerialOrder =
    (config : Config) (servers clients : ℕ) (w : WorldState) → IsReached config servers clients w → (index : ℕ) (s : ServerState) → element_at w.servers index ≡ Some s → IsTrue s.up
    → (moment : ℕ) (i : NodeInput) (choice found : Choice) (handle : ℕ) (r now : Replica)
    → replica_of s.disk handle ≡ Some r → replica_of (found_disk (server_step s moment i choice).state found) handle ≡ Some now
    → IsChangedBy (server_step s moment i choice).seen handle r now
