-- Laws of every lawful list of events on the entries between the versions of an order, and on the order of a copy, that public functions of this crate state.
use Rattle.std.specs.Prelude.{◌≡◌, ◌≢◌, ◌⊎◌, ℕ, suc, ◌≤◌, nat_le, true, List, filter, Some, IsTrue}
use Rattle.gfs_types.specs.declared.config.Config.{Config}
use Rattle.gfs_types.specs.declared.ids.Handle.{Handle}
use Rattle.gfs_types.specs.declared.ids.Version.{Version}
use Rattle.gfs_types.specs.declared.ids.OrderNo.{OrderNo}
use Rattle.messages.specs.declared.message.Body.{Body}
use Rattle.messages.specs.declared.message.Body.TheVariants as body
use Rattle.messages.specs.declared.message.Message.{Message}
use Rattle.replica_store.specs.Replicas.{is_new_order}
use Rattle.protocol.specs.Tables.{element_at}
use Rattle.protocol.specs.Sending.{the_server, order_number}
use Rattle.protocol.specs.Observer.{Placed, order_of}
use Rattle.protocol.specs.Server.{ServerState}
use Rattle.protocol.specs.World.{WorldState, IsReached}
use Rattle.laws_base.specs.Given.{version_given}

-- this round doesn't lie between the versions of the order: at most what it replaces or copies, or at least what it gives; a Create replaces nothing
abbrev pub IsNotSkipped : Body → ℕ → Type 0
IsNotSkipped (body.Create order handle version) round = version.0 ≤ round
IsNotSkipped (body.SetVersion order handle version base) round = (round ≤ base.0) ⊎ (version.0 ≤ round)
IsNotSkipped (body.CopyLocal order handle version copy copy_version) round = (round ≤ version.0) ⊎ (copy_version.0 ≤ round)
IsNotSkipped other round = Unit {0}

-- Where clocks are kept, no entry of the chunk of which an order gives a version lies between the order's versions (sections 3.1 and 3.4).
abbrev pub OrdersSkipNoEntry : Type 0
OrdersSkipNoEntry =
    (config : Config) (servers clients : ℕ) (w : WorldState) → IsReached config servers clients w → IsTrue w.observer.are_clocks_kept
    → (place : ℕ) (m : Message) → element_at w.sent place ≡ Some m → (handle version : ℕ) → version_given m.body ≡ Some (handle, version)
    → (other : ℕ) (p : Placed) → element_at (order_of w.observer handle) other ≡ Some p → IsNotSkipped m.body p.entry.round

-- While its server would take an order that gives a version, no entry of the chunk is of that version (section 3.1).
abbrev pub UntakenVersionsHaveNoEntry : Type 0
UntakenVersionsHaveNoEntry =
    (config : Config) (servers clients : ℕ) (w : WorldState) → IsReached config servers clients w
    → (place : ℕ) (m : Message) → element_at w.sent place ≡ Some m → (handle version : ℕ) → version_given m.body ≡ Some (handle, version) → (order : OrderNo) → order_number m.body ≡ Some order
    → (index : ℕ) (s : ServerState) → m.receiver ≡ the_server (suc index) → element_at w.servers index ≡ Some s → is_new_order s.disk order.epoch order.count ≡ true
    → (other : ℕ) (p : Placed) → element_at (order_of w.observer handle) other ≡ Some p → p.entry.round ≢ version

-- the entries of rounds up to this version
abbrev pub up_to : ℕ → List Placed → List Placed
up_to version ps = filter (λ p. nat_le p.entry.round version) ps

-- Where clocks are kept, the order of a copy is its source's up to the version that a CopyLocal copies, from the moment the order is sent (section 3.4).
abbrev pub CopiesHaveTheirSourcesOrder : Type 0
CopiesHaveTheirSourcesOrder =
    (config : Config) (servers clients : ℕ) (w : WorldState) → IsReached config servers clients w → IsTrue w.observer.are_clocks_kept
    → (place : ℕ) (m : Message) → element_at w.sent place ≡ Some m
    → (order : OrderNo) (handle : Handle) (version : Version) (copy : Handle) (copy_version : Version) → m.body ≡ body.CopyLocal order handle version copy copy_version
    → up_to version.0 (order_of w.observer copy.0) ≡ up_to version.0 (order_of w.observer handle.0)
