-- Laws of every lawful list of events on the one order that gives a server a version, that public functions of this crate state.
use Rattle.std.specs.Prelude.{◌≡◌, ◌⊎◌, ℕ, suc, ◌<◌, List, Some, IsTrue}
use Rattle.std.specs.FinMap as table
use Rattle.gfs_types.specs.declared.config.Config.{Config}
use Rattle.gfs_types.specs.declared.ids.Moment.{Moment}
use Rattle.gfs_types.specs.declared.ids.OrderNo.{OrderNo}
use Rattle.messages.specs.declared.message.Message.{Message}
use Rattle.protocol.specs.Tables.{element_at}
use Rattle.protocol.specs.Sending.{the_server, handle_of, version_of, order_number}
use Rattle.replica_store.specs.Replicas.{Replica, replica_of}
use Rattle.protocol.specs.Server.{ServerState}
use Rattle.protocol.specs.World.{WorldState, IsReached}
use Rattle.laws_base.specs.Laws.{IsGrantBody, tells_version}
use Rattle.laws_base.specs.Given.{version_given}
use Rattle.laws_versions.specs.HeldVersions.{version_cloned}
use Rattle.laws_versions.specs.AnsweredOrders.{IsRefusedBy}

-- One order at most gives a server a version of a chunk (section 3.1).
abbrev pub VersionsAreGivenOnce : Type 0
VersionsAreGivenOnce =
    (config : Config) (servers clients : ℕ) (w : WorldState) → IsReached config servers clients w
    → (place other : ℕ) (m n : Message) → element_at w.sent place ≡ Some m → element_at w.sent other ≡ Some n
    → (server handle version : ℕ) → m.receiver ≡ the_server server → n.receiver ≡ the_server server
    → version_given m.body ≡ Some (handle, version) → version_given n.body ≡ Some (handle, version) → place ≡ other

-- one order was numbered before another
abbrev pub IsEarlier : OrderNo → OrderNo → Type 0
IsEarlier a b = (a.epoch < b.epoch) ⊎ ((a.epoch ≡ b.epoch) × (a.count < b.count))

-- A Clone is sent after each order that gives a server the version, and has a later number (section 4.3).
abbrev pub ClonesFollowTheirVersions : Type 0
ClonesFollowTheirVersions =
    (config : Config) (servers clients : ℕ) (w : WorldState) → IsReached config servers clients w
    → (place other : ℕ) (given clone : Message) → element_at w.sent place ≡ Some given → element_at w.sent other ≡ Some clone
    → (handle version : ℕ) → version_given given.body ≡ Some (handle, version) → version_cloned clone.body ≡ Some (handle, version)
    → (first later : OrderNo) → order_number given.body ≡ Some first → order_number clone.body ≡ Some later → (place < other) × IsEarlier first later

-- Of the messages, each order that gives this server the version is one that it refuses.
abbrev pub RefusesItsOrder : List Message → ℕ → ServerState → ℕ → ℕ → Type 0
RefusesItsOrder sent index s handle version =
    (place : ℕ) (m : Message) → element_at sent place ≡ Some m → m.receiver ≡ the_server (suc index) → version_given m.body ≡ Some (handle, version)
    → (order : OrderNo) → order_number m.body ≡ Some order → IsRefusedBy s order

-- A server that has a replica, also one that is down, refuses each order that gives it that version (sections 3.1 and 4.5).
abbrev pub HeldVersionsRefuseTheirOrder : Type 0
HeldVersionsRefuseTheirOrder =
    (config : Config) (servers clients : ℕ) (w : WorldState) → IsReached config servers clients w
    → (index : ℕ) (s : ServerState) → element_at w.servers index ≡ Some s → (handle : ℕ) (r : Replica) → replica_of s.disk handle ≡ Some r → RefusesItsOrder w.sent index s handle r.version

-- So does a server that waits for a clone of that version (section 4.3).
abbrev pub PendingClonesRefuseTheirOrder : Type 0
PendingClonesRefuseTheirOrder =
    (config : Config) (servers clients : ℕ) (w : WorldState) → IsReached config servers clients w
    → (index : ℕ) (s : ServerState) → element_at w.servers index ≡ Some s → (handle version : ℕ) → table.get s.clones handle ≡ Some version → RefusesItsOrder w.sent index s handle version

-- So does a server that told the master, by a Recorded or a line of a Report, that it has that version (sections 3.1 and 4.5).
abbrev pub ToldVersionsRefuseTheirOrder : Type 0
ToldVersionsRefuseTheirOrder =
    (config : Config) (servers clients : ℕ) (w : WorldState) → IsReached config servers clients w
    → (place : ℕ) (word : Message) → element_at w.sent place ≡ Some word → (handle version : ℕ) → IsTrue (tells_version handle version word.body)
    → (index : ℕ) (s : ServerState) → word.sender ≡ the_server (suc index) → element_at w.servers index ≡ Some s → RefusesItsOrder w.sent index s handle version

-- Once a version was granted, each order that gives it is refused by the server to which it was sent (section 3.1).
abbrev pub GrantedOrdersAreRefused : Type 0
GrantedOrdersAreRefused =
    (config : Config) (servers clients : ℕ) (w : WorldState) → IsReached config servers clients w
    → (handle version place : ℕ) (grant : Message) (order : OrderNo) (end_moment : Moment) (members : List ℕ)
    → element_at w.sent place ≡ Some grant → IsGrantBody order (handle_of handle) (version_of version) end_moment members grant.body
    → (index : ℕ) (s : ServerState) → element_at w.servers index ≡ Some s → RefusesItsOrder w.sent index s handle version
