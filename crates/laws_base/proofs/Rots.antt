-- A byte that rots is a change of a server's disk, like one of a step that stores it and nothing else: what such a step's end keeps is kept.
use Rattle.std.proofs.Common.{◌≡◌, ℕ, zero, suc, ◌≤◌, Bool, true, false, true≢false, List, [], ◌∷◌, Some, refl, sym, ap, subst, ◌∙◌, arith}
use Rattle.std.specs.Ordering.{nat_cmp}
use Rattle.std.specs.FinMap as table
use Rattle.messages.specs.declared.message.Body.{Body}
use Rattle.protocol.specs.Tables.{Table}
use Rattle.protocol.specs.Sending.{handle_of}
use Rattle.protocol.specs.Choice.{Choice, Ending, Goes, Lost, Stops, decided_changes}
use Rattle.replica_store.specs.declared.change.StoreChange.{StoreChange}
use Rattle.replica_store.specs.declared.change.StoreChange.TheVariants.{Rot}
use Rattle.replica_store.specs.Replicas.{Replica, ServerDisk, replica_of, with_replica, replica_becomes, rotten_replica, disk_changed, disk_changed_by_all}
use Rattle.primary_order.specs.SerialOrder.{SerialOrder}
use Rattle.protocol.specs.Server.{ServerState, ServerDoing, stopped_server, server_begins, stores}
use Rattle.protocol.specs.ServerStep.{server_ends}
use Rattle.protocol.specs.World.{after_rot}
use Rattle.laws_base.proofs.Steps.{none_some}
use Rattle.laws_base.proofs.ServerMoves.{ServerCore, server_core, IsOfReplica, KeepsServer, AreHeldFrom, same_held}

abbrev pub rotting : ServerState → StoreChange → ServerDoing
rotting s x = stores (server_begins s) x

-- a step's choice of which nothing but its ending counts
abbrev pub ends_by : Ending → Choice
ends_by e = record { ending = e; order = []; refused = []; decided = [] }

rot_ends : (s : ServerState) (x : StoreChange) (choice : Choice) (e : Ending) → (server_ends s (rotting s x) choice e).state ≡ after_rot s x e
rot_ends s x choice Goes = refl
rot_ends s x choice Lost = refl
rot_ends s x choice (Stops made) = refl

-- what holds where such a step has ended
pub after_rot_by : (P : ServerState → Type 0) (s : ServerState) (x : StoreChange) (e : Ending) → P (server_ends s (rotting s x) (ends_by e) e).state → P (after_rot s x e)
after_rot_by P s x e h = subst P (rot_ends s x (ends_by e) e) h

-- what moves of servers keep is kept by such a step
pub rot_holds : (Came : Body → Type 0) (P : ServerCore → Type 0) → KeepsServer Came P → (s : ServerState) (x : StoreChange) → IsOfReplica x → P (server_core (server_begins s)) → P (server_core (rotting s x))
rot_holds Came P k s x is h = k.stores (server_core (server_begins s)) x is h

pub none_held : (before : Table SerialOrder) → AreHeldFrom before table.empty
none_held before handle p is = none_some p (sym (table.get-empty nat_cmp handle) ∙ is)

-- leases stay, or go with the rest
pub rot_held : (s : ServerState) (x : StoreChange) (e : Ending) → AreHeldFrom s.leases (after_rot s x e).leases
rot_held s x Goes = same_held s.leases
rot_held s x Lost = none_held s.leases
rot_held s x (Stops made) = none_held s.leases

pub rot_now : (s : ServerState) (x : StoreChange) (e : Ending) → (after_rot s x e).now ≤ s.now
rot_now s x Goes = omega arith
rot_now s x Lost = omega arith
rot_now s x (Stops made) = omega arith

pub rot_config : (s : ServerState) (x : StoreChange) (e : Ending) → (after_rot s x e).config ≡ s.config
rot_config s x Goes = refl
rot_config s x Lost = refl
rot_config s x (Stops made) = refl

pub rot_id : (s : ServerState) (x : StoreChange) (e : Ending) → (after_rot s x e).id ≡ s.id
rot_id s x Goes = refl
rot_id s x Lost = refl
rot_id s x (Stops made) = refl

pub rot_idle : (s : ServerState) (x : StoreChange) (e : Ending) → (s.up ≡ true → s.under_way ≡ []) → (after_rot s x e).up ≡ true → (after_rot s x e).under_way ≡ []
rot_idle s x Goes idle up = idle up
rot_idle s x Lost idle up = refl
rot_idle s x (Stops made) idle up = absurd (true≢false (sym up))

-- what a restart finds after a rot: the disk as it was, or with that byte

found_none : (D : ServerDisk → Type 0) (d : ServerDisk) (decided : List Bool) → D d → D (disk_changed_by_all d (decided_changes decided []))
found_none D d [] h = h
found_none D d (made ∷ rest) h = h

found_one : (D : ServerDisk → Type 0) (d : ServerDisk) (x : StoreChange) (decided : List Bool) → D d → D (disk_changed d x) → D (disk_changed_by_all d (decided_changes decided (x ∷ [])))
found_one D d x [] old new = old
found_one D d x (true ∷ rest) old new = found_none D (disk_changed d x) rest new
found_one D d x (false ∷ rest) old new = found_none D d rest old

pub rot_found : (D : ServerDisk → Type 0) (s : ServerState) (x : StoreChange) (e : Ending) → s.under_way ≡ [] → D s.disk → D (disk_changed s.disk x)
    → (decided : List Bool) → D (disk_changed_by_all (after_rot s x e).disk (decided_changes decided (after_rot s x e).under_way))
rot_found D s x Goes none old new decided =
    subst (λ (xs : List StoreChange). D (disk_changed_by_all (disk_changed s.disk x) (decided_changes decided xs))) (sym none) (found_none D (disk_changed s.disk x) decided new)
rot_found D s x Lost none old new decided = found_none D s.disk decided old
rot_found D s x (Stops zero) none old new decided = found_one D s.disk x decided old new
rot_found D s x (Stops (suc zero)) none old new decided = found_none D (disk_changed s.disk x) decided new
rot_found D s x (Stops (suc (suc made))) none old new decided = found_none D (disk_changed s.disk x) decided new

-- and what it has
pub rot_disk : (D : ServerDisk → Type 0) (s : ServerState) (x : StoreChange) (e : Ending) → D s.disk → D (disk_changed s.disk x) → D (after_rot s x e).disk
rot_disk D s x Goes old new = new
rot_disk D s x Lost old new = old
rot_disk D s x (Stops zero) old new = old
rot_disk D s x (Stops (suc zero)) old new = new
rot_disk D s x (Stops (suc (suc made))) old new = new

-- the change under way
pub rot_under_way : (A : List StoreChange → Type 0) (s : ServerState) (x : StoreChange) (e : Ending) → A s.under_way → A [] → A (x ∷ []) → A (after_rot s x e).under_way
rot_under_way A s x Goes old none one = old
rot_under_way A s x Lost old none one = none
rot_under_way A s x (Stops zero) old none one = one
rot_under_way A s x (Stops (suc zero)) old none one = none
rot_under_way A s x (Stops (suc (suc made))) old none one = none

-- a disk after a rot of a replica that is there
pub rotten_disk : (d : ServerDisk) (handle : ℕ) (r : Replica) (place byte : ℕ) → replica_of d handle ≡ Some r → disk_changed d (Rot (handle_of handle) place byte) ≡ with_replica d handle (rotten_replica r place byte)
rotten_disk d handle r place byte there = ap (replica_becomes (λ x. rotten_replica x place byte) d handle) there

-- what holds of a server with any such disk, and of one that is down, holds after a rot
pub rot_by : (P : ServerState → Type 0) (s : ServerState) (x : StoreChange) (e : Ending) → P (record s { disk = disk_changed s.disk x }) → ((d : ServerDisk) (xs : List StoreChange) → P (stopped_server s d xs)) → P (after_rot s x e)
rot_by P s x Goes goes down = goes
rot_by P s x Lost goes down = down s.disk []
rot_by P s x (Stops made) goes down = down (after_rot s x (Stops made)).disk (after_rot s x (Stops made)).under_way

-- its leases stay, or there is none
pub rot_leases : (P : Table SerialOrder → Type 0) (s : ServerState) (x : StoreChange) (e : Ending) → P s.leases → P table.empty → P (after_rot s x e).leases
rot_leases P s x e here none = rot_by (λ t. P t.leases) s x e here (λ d xs. none)
