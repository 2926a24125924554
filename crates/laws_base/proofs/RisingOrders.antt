-- The number of the last order that a server took never falls.
use Rattle.std.proofs.Common.{◌≡◌, ◌⊎◌, ℕ, zero, suc, ◌-◌, ◌≤◌, Bool, true, false, List, [], ◌∷◌, ◌++◌, length, map, take, drop, Option, Some, None, refl, sym, ap, subst, ◌∙◌, inl, inr, arith}
use Rattle.std.specs.Prelude.{nat_lt, nat_le, ◌==◌, ◌&&◌, ◌||◌, IsTrue}
use Rattle.std.proofs.lemmas.Bool.{eqb-true, ltb-true}
use Rattle.gfs_types.specs.declared.config.Config.{Config}
use Rattle.gfs_types.specs.declared.ids.Node.{Node}
use Rattle.gfs_types.specs.declared.ids.OrderNo.{OrderNo}
use Rattle.gfs_types.specs.declared.ids.Node.TheVariants as node
use Rattle.messages.specs.declared.message.Message.{Message}
use Rattle.gfs_types.specs.declared.call.Call.{Call}
use Rattle.messages.specs.declared.event.Event.{Event}
use Rattle.messages.specs.declared.event.Event.TheVariants as event
use Rattle.messages.specs.declared.event.NodeInput.{NodeInput}
use Rattle.messages.specs.declared.event.NodeInput.TheVariants as input
use Rattle.protocol.specs.Tables.{element_at, with_at, first_numbers, moment_limit}
use Rattle.protocol.specs.Sending.{handle_of}
use Rattle.protocol.specs.Choice.{Choice, Ending, Goes, Lost, Stops, decided_changes}
use Rattle.protocol.specs.Seen.{Taken, no_step}
use Rattle.replica_store.specs.declared.change.StoreChange.{StoreChange}
use Rattle.replica_store.specs.declared.change.StoreChange.TheVariants.{SetOrder, Put, Write, Zero, Raise, Copy, Remove, Rot}
use Rattle.replica_store.specs.Replicas.{Replica, ServerDisk, disk_changed, disk_changed_by_all, is_new_order, replica_of, replica_becomes, new_server_disk}
use Rattle.protocol.specs.Server.{ServerState, ServerDoing, started_server}
use Rattle.protocol.specs.ServerStep.{server_goes, server_ends, server_step, server_restarts, server_restart}
use Rattle.protocol.specs.ClientStep.{may_call}
use Rattle.protocol.specs.Client.{ClientState}
use Rattle.protocol.specs.World.{WorldState, Happened, new_world, nothing_happens, numbered_from_1, after_server, server_moves, client_moves, moves, delivered, server_restarts_at, restarts, call_moves, after_rot, rots_replica, rots_on, at_moment, happens, after_events, IsReached}
use Rattle.laws_base.specs.Laws.{IsSameOrLater, OrderNumbersNeverFall}
use Rattle.laws_base.proofs.Steps.{on_cond, none_some, same_some}
use Rattle.laws_base.proofs.Rots.{rotting, ends_by, after_rot_by, rot_holds}
use Rattle.laws_base.proofs.ServerMoves.{ServerCore, server_core, store_changed, IsOfReplica, all-push, KeepsServer, IsCameIn, server_goes_holds}

-- the order's number of one disk is that of another, or later
abbrev pub Later : ServerDisk → ServerDisk → Type 0
Later d e = IsSameOrLater d.epoch d.count e.epoch e.count

pub same_later : (d : ServerDisk) → Later d d
same_later d = inr (refl, omega arith)

pub then_later : (c d e : ServerDisk) → Later c d → Later d e → Later c e
then_later c d e f g =
    elim (f) [
      | inl a ↦ elim (g) [ inl b ↦ inl (omega arith) | inr b ↦ inl (let same = b.0 in omega arith) ]
      | inr a ↦ elim (g) [ inl b ↦ inl (let same = a.0 in omega arith) | inr b ↦ inr (a.0 ∙ b.0, let one = a.1 in let two = b.1 in omega arith) ]
    ]

-- a change that sets no order's number but a new one
abbrev pub IsRisen : ServerDisk → StoreChange → Type 0
IsRisen d (SetOrder order) = is_new_order d order.epoch order.count ≡ true
IsRisen d (Put handle version serial bytes) = Unit {0}
IsRisen d (Write handle serial offset bytes) = Unit {0}
IsRisen d (Zero handle serial offset count) = Unit {0}
IsRisen d (Raise handle version) = Unit {0}
IsRisen d (Copy handle copy version) = Unit {0}
IsRisen d (Remove handle) = Unit {0}
IsRisen d (Rot handle place byte) = Unit {0}

pub newer : (a b c : Bool) → a || (b && c) ≡ true → (a ≡ true) ⊎ ((b ≡ true) × (c ≡ true))
newer true b c h = inl refl
newer false true true h = inr (refl, refl)
newer false true false h = absurd (let both : false ≡ true = h in cc)
newer false false c h = absurd (let both : false ≡ true = h in cc)

-- a change of a replica leaves the order's number
becomes_later : (change : Replica → Replica) (d : ServerDisk) (handle : ℕ) (o : Option Replica) → Later d (replica_becomes change d handle o)
becomes_later change d handle None = same_later d
becomes_later change d handle (Some r) = same_later d

pub risen_later : (d : ServerDisk) (x : StoreChange) → IsRisen d x → Later d (disk_changed d x)
risen_later d (SetOrder order) h =
    elim (newer (nat_lt d.epoch order.epoch) (d.epoch == order.epoch) (nat_lt d.count order.count) h) [
      | inl a ↦ inl (ltb-true d.epoch order.epoch a)
      | inr b ↦ inr (eqb-true d.epoch order.epoch b.0, let l = ltb-true d.count order.count b.1 in omega arith)
    ]
risen_later d (Put handle version serial bytes) h = same_later d
risen_later d (Write handle serial offset bytes) h = becomes_later _ d handle.0 (replica_of d handle.0)
risen_later d (Zero handle serial offset count) h = becomes_later _ d handle.0 (replica_of d handle.0)
risen_later d (Raise handle version) h = becomes_later _ d handle.0 (replica_of d handle.0)
risen_later d (Copy handle copy version) h = becomes_later _ d copy.0 (replica_of d handle.0)
risen_later d (Remove handle) h = same_later d
risen_later d (Rot handle place byte) h = becomes_later _ d handle.0 (replica_of d handle.0)

-- each change, after those before it
abbrev pub AreRisen : ServerDisk → List StoreChange → Type 0
AreRisen d [] = Unit {0}
AreRisen d (x ∷ xs) = IsRisen d x × AreRisen (disk_changed d x) xs

risen_push : (d : ServerDisk) (xs : List StoreChange) (x : StoreChange) → AreRisen d xs → IsRisen (disk_changed_by_all d xs) x → AreRisen d (xs ++ x ∷ [])
risen_push d [] x h r = (r, tt)
risen_push d (y ∷ ys) x h r = (h.0, risen_push (disk_changed d y) ys x h.1 r)

some_later : (d : ServerDisk) (xs : List StoreChange) (made : ℕ) → AreRisen d xs → Later d (disk_changed_by_all d (take made xs))
some_later d xs zero h = same_later d
some_later d [] (suc made) h = same_later d
some_later d (x ∷ xs) (suc made) h =
    then_later d (disk_changed d x) (disk_changed_by_all (disk_changed d x) (take made xs)) (risen_later d x h.0) (some_later (disk_changed d x) xs made h.1)

next_risen : (d : ServerDisk) (xs : List StoreChange) (made : ℕ) → AreRisen d xs → AreRisen (disk_changed_by_all d (take made xs)) (take 1 (drop made xs))
next_risen d [] zero h = tt
next_risen d (x ∷ xs) zero h = (h.0, tt)
next_risen d [] (suc made) h = tt
next_risen d (x ∷ xs) (suc made) h = next_risen (disk_changed d x) xs made h.1

-- at most one change is under way, and none of a server that is up; it raises the number
pub record HasOneRisingChange (s : ServerState) : Type 0 where
  pub risen : AreRisen s.disk s.under_way
  pub few : length s.under_way ≤ 1
  pub idle : IsTrue s.up → s.under_way ≡ []

few_next : (xs : List StoreChange) (made : ℕ) → length (take 1 (drop made xs)) ≤ 1
few_next [] zero = omega arith
few_next (x ∷ xs) zero = omega arith
few_next [] (suc made) = omega arith
few_next (x ∷ xs) (suc made) = few_next xs made

decided_none : (decided : List Bool) → decided_changes {C = StoreChange} decided [] ≡ []
decided_none [] = refl
decided_none (b ∷ rest) = refl

-- what is found of one change under way
found_later : (d : ServerDisk) (xs : List StoreChange) (decided : List Bool) → AreRisen d xs → length xs ≤ 1 → Later d (disk_changed_by_all d (decided_changes decided xs))
found_later d xs [] h few = same_later d
found_later d [] (b ∷ rest) h few = same_later d
found_later d (x ∷ []) (true ∷ rest) h few =
    subst (λ (ys : List StoreChange). Later d (disk_changed_by_all (disk_changed d x) ys)) (sym (decided_none rest)) (risen_later d x h.0)
found_later d (x ∷ []) (false ∷ rest) h few = subst (λ (ys : List StoreChange). Later d (disk_changed_by_all d ys)) (sym (decided_none rest)) (same_later d)
found_later d (x ∷ y ∷ ys) (b ∷ rest) h few = absurd (omega arith)

-- what a server's step comes to
pub record Follows (s t : ServerState) : Type 0 where
  pub sound : HasOneRisingChange t
  pub later : Later s.disk t.disk

-- the changes of a step so far
abbrev From : ServerState → ServerCore → Type 0
From s c = AreRisen s.disk c.changes × (disk_changed_by_all s.disk c.changes ≡ c.disk) × (c.under_way ≡ s.under_way)

from_keeps : (s : ServerState) → KeepsServer (λ b. Unit {0}) (From s)
from_keeps s =
    record {
      says = λ c receiver b quiet h. h;
      stores = λ c x is h. (risen_push s.disk c.changes x h.0 (no_order (disk_changed_by_all s.disk c.changes) x is), all-push s.disk c.changes x ∙ ap (λ d. disk_changed d x) h.1, h.2);
      takes = λ c order new h. taken c order new h;
      holds = λ c leases from h. h;
      grants = λ c order handle version end_moment members came new h. taken c order new h;
      extends = λ c handle version end_moment p came at same h. h;
      revokes = λ c order handle version leases came new from none h. taken c order new h;
    }
  where
    taken : (c : ServerCore) (order : OrderNo) → is_new_order c.disk order.epoch order.count ≡ true → From s c → From s (store_changed c (SetOrder order))
    taken c order new h = (
      risen_push s.disk c.changes (SetOrder order) h.0 (subst (λ (d : ServerDisk). is_new_order d order.epoch order.count ≡ true) (sym h.1) new),
      all-push s.disk c.changes (SetOrder order) ∙ ap (λ d. disk_changed d (SetOrder order)) h.1,
      h.2,
    )

    no_order : (d : ServerDisk) (x : StoreChange) → IsOfReplica x → IsRisen d x
    no_order d (SetOrder order) is = absurd is
    no_order d (Put handle version serial bytes) is = tt
    no_order d (Write handle serial offset bytes) is = tt
    no_order d (Zero handle serial offset count) is = tt
    no_order d (Raise handle version) is = tt
    no_order d (Copy handle copy version) is = tt
    no_order d (Remove handle) is = tt
    no_order d (Rot handle place byte) is = tt

all_of : (d : ServerDisk) (xs : List StoreChange) → AreRisen d xs → Later d (disk_changed_by_all d xs)
all_of d [] h = same_later d
all_of d (x ∷ xs) h = then_later d (disk_changed d x) (disk_changed_by_all (disk_changed d x) xs) (risen_later d x h.0) (all_of (disk_changed d x) xs h.1)

pub none_under_way : (s : ServerState) → s.under_way ≡ [] → HasOneRisingChange s
none_under_way s none =
    record {
      risen = subst (λ (xs : List StoreChange). AreRisen s.disk xs) (sym none) tt;
      few = subst (λ (xs : List StoreChange). length xs ≤ 1) (sym none) (omega arith);
      idle = λ up. none;
    }

same_goes_on : (s : ServerState) → HasOneRisingChange s → Follows s s
same_goes_on s is = record { sound = is; later = same_later s.disk }

ends_as : (s : ServerState) (d : ServerDoing) (choice : Choice) (e : Ending) → s.under_way ≡ [] → From s (server_core d) → Follows s (server_ends s d choice e).state
ends_as s d choice Goes none h = record { sound = none_under_way (record d.server { disk = disk_changed_by_all d.server.disk d.changes }) (h.2 ∙ none); later = subst (λ (e : ServerDisk). Later s.disk e) h.1 (all_of s.disk d.changes h.0) }
ends_as s d choice Lost none h = record { sound = record { risen = tt; few = omega arith; idle = λ up. refl }; later = same_later s.disk }
ends_as s d choice (Stops made) none h =
    record {
      sound = record { risen = next_risen s.disk d.changes made h.0; few = few_next d.changes made; idle = λ up. absurd (let both : false ≡ true = up in cc) };
      later = some_later s.disk d.changes made h.0;
    }

pub all_came : (i : NodeInput) → IsCameIn (λ b. Unit {0}) i
all_came (input.Deliver m) = tt
all_came input.Tick = tt

pub step_goes_on : (s : ServerState) (moment : ℕ) (i : NodeInput) (choice : Choice) → HasOneRisingChange s → Follows s (server_step s moment i choice).state
step_goes_on s moment i choice is =
    on_cond (λ (t : Taken ServerState). Follows s t.state) s.up (server_ends s (server_goes s moment i) choice choice.ending) (no_step s)
    (λ up. ends_as s (server_goes s moment i) choice choice.ending (is.idle up) (server_goes_holds (λ b. Unit {0}) (From s) (from_keeps s) s moment i (all_came i) (tt, refl, refl)))
    (λ _. same_goes_on s is)

-- a byte rots on it
pub rot_goes_on : (s : ServerState) (x : StoreChange) (e : Ending) → IsOfReplica x → HasOneRisingChange s → IsTrue s.up → Follows s (after_rot s x e)
rot_goes_on s x e is sound up =
    after_rot_by (λ t. Follows s t) s x e (ends_as s (rotting s x) (ends_by e) e (sound.idle up) (rot_holds (λ b. Unit {0}) (From s) (from_keeps s) s x is (tt, refl, refl)))

pub restarts_as : (s : ServerState) (moment : ℕ) (choice : Choice) (e : Ending) → HasOneRisingChange s → Follows s (server_restarts s moment choice e).state
restarts_as s moment choice Lost is = record { sound = record { risen = is.risen; few = is.few; idle = λ up. absurd (let both : false ≡ true = up in cc) }; later = same_later s.disk }
restarts_as s moment choice (Stops made) is =
    record { sound = record { risen = tt; few = omega arith; idle = λ up. refl }; later = found_later s.disk s.under_way choice.decided is.risen is.few }
restarts_as s moment choice Goes is =
    record { sound = record { risen = tt; few = omega arith; idle = λ up. refl }; later = found_later s.disk s.under_way choice.decided is.risen is.few }

-- worlds

pub set_cases : {X : Type 0} (xs : List X) (at : ℕ) (y : X) (n : ℕ) (x : X) → element_at (with_at xs at y) n ≡ Some x → ((n ≡ at) × (x ≡ y)) ⊎ (element_at xs n ≡ Some x)
set_cases [] at y n x h = none_some x h
set_cases (z ∷ zs) zero y zero x h = inl (refl, sym (same_some y x h))
set_cases (z ∷ zs) zero y (suc n) x h = inr h
set_cases (z ∷ zs) (suc at) y zero x h = inr h
set_cases (z ∷ zs) (suc at) y (suc n) x h =
    elim (set_cases zs at y n x h) [
      | inl both ↦ inl (ap (λ (k : ℕ). suc k) both.0, both.1)
      | inr there ↦ inr there
    ]

pub element_numbered : {X : Type 0} (xs : List X) (n : ℕ) (x : X) → numbered_from_1 xs n ≡ Some x → element_at xs (n - 1) ≡ Some x
element_numbered xs zero x h = none_some x h
element_numbered xs (suc n) x h = subst (λ (k : ℕ). element_at xs k ≡ Some x) (omega arith) h

abbrev HaveOneRisingChange : WorldState → Type 0
HaveOneRisingChange w = (index : ℕ) (s : ServerState) → element_at w.servers index ≡ Some s → HasOneRisingChange s

-- each server of the later world goes on from the one at its place
abbrev AreGoingOn : WorldState → WorldState → Type 0
AreGoingOn w v = (index : ℕ) (t : ServerState) → element_at v.servers index ≡ Some t → (s : ServerState) × (element_at w.servers index ≡ Some s) × Follows s t

same_servers : (w : WorldState) → HaveOneRisingChange w → AreGoingOn w w
same_servers w h index t is = (t, is, same_goes_on t (h index t is))

one_server : (w : WorldState) (index moment : ℕ) (s : ServerState) (taken : Taken ServerState) → HaveOneRisingChange w → element_at w.servers index ≡ Some s → Follows s taken.state
    → AreGoingOn w (after_server w index moment taken).world
one_server w index moment s taken h at g other t is =
    elim (set_cases w.servers index taken.state other t is) [
      | inl both ↦ (s, ap (λ (k : ℕ). element_at w.servers k) both.0 ∙ at, subst (λ (u : ServerState). Follows s u) (sym both.1) g)
      | inr there ↦ same_servers w h other t there
    ]

server_moves_on : (w : WorldState) (n moment : ℕ) (i : NodeInput) (choice : Choice) (o : Option ServerState) → numbered_from_1 w.servers n ≡ o → HaveOneRisingChange w
    → AreGoingOn w (server_moves w (n - 1) moment i choice o).world
server_moves_on w n moment i choice None e h = same_servers w h
server_moves_on w n moment i choice (Some s) e h =
    let at : element_at w.servers (n - 1) ≡ Some s = element_numbered w.servers n s e in
    on_cond (λ (x : Happened). AreGoingOn w x.world) s.up (after_server w (n - 1) moment (server_step s moment i choice)) (nothing_happens w)
    (λ _. one_server w (n - 1) moment s (server_step s moment i choice) h at (step_goes_on s moment i choice (h (n - 1) s at)))
    (λ _. same_servers w h)

client_moves_on : (w : WorldState) (index moment : ℕ) (i : NodeInput) (choice : Choice) (o : Option ClientState) → HaveOneRisingChange w → AreGoingOn w (client_moves w index moment i choice o).world
client_moves_on w index moment i choice None h = same_servers w h
client_moves_on w index moment i choice (Some c) h = on_cond (λ (x : Happened). AreGoingOn w x.world) c.up _ (nothing_happens w) (λ _. same_servers w h) (λ _. same_servers w h)

moves_on : (w : WorldState) (n : Node) (moment : ℕ) (i : NodeInput) (choice : Choice) → HaveOneRisingChange w → AreGoingOn w (moves w n moment i choice).world
moves_on w node.Master moment i choice h = on_cond (λ (x : Happened). AreGoingOn w x.world) w.master.up _ (nothing_happens w) (λ _. same_servers w h) (λ _. same_servers w h)
moves_on w (node.Server s) moment i choice h = server_moves_on w s.0 moment i choice (numbered_from_1 w.servers s.0) refl h
moves_on w (node.Client c) moment i choice h = client_moves_on w (c.0 - 1) moment i choice (numbered_from_1 w.clients c.0) h

delivered_on : (w : WorldState) (moment : ℕ) (choice : Choice) (o : Option Message) → HaveOneRisingChange w → AreGoingOn w (delivered w moment choice o).world
delivered_on w moment choice None h = same_servers w h
delivered_on w moment choice (Some m) h = moves_on w m.receiver moment (input.Deliver m) choice h

restarts_at_on : (w : WorldState) (n moment : ℕ) (choice : Choice) (o : Option ServerState) → numbered_from_1 w.servers n ≡ o → HaveOneRisingChange w
    → AreGoingOn w (server_restarts_at w (n - 1) moment choice o).world
restarts_at_on w n moment choice None e h = same_servers w h
restarts_at_on w n moment choice (Some s) e h =
    let at : element_at w.servers (n - 1) ≡ Some s = element_numbered w.servers n s e in
    one_server w (n - 1) moment s (server_restart s moment choice) h at (restarts_as s moment choice choice.ending (h (n - 1) s at))

restarts_on : (w : WorldState) (n : Node) (moment : ℕ) (choice : Choice) → HaveOneRisingChange w → AreGoingOn w (restarts w n moment choice).world
restarts_on w node.Master moment choice h = same_servers w h
restarts_on w (node.Server s) moment choice h = restarts_at_on w s.0 moment choice (numbered_from_1 w.servers s.0) refl h
restarts_on w (node.Client c) moment choice h = same_servers w h

calls_on : (w : WorldState) (index moment : ℕ) (c : Call) (choice : Choice) (o : Option ClientState) → HaveOneRisingChange w → AreGoingOn w (call_moves w index moment c choice o).world
calls_on w index moment c choice None h = same_servers w h
calls_on w index moment c choice (Some s) h = on_cond (λ (x : Happened). AreGoingOn w x.world) (may_call s) _ (nothing_happens w) (λ _. same_servers w h) (λ _. same_servers w h)

rots_replica_on : (w : WorldState) (index : ℕ) (s : ServerState) (handle place byte : ℕ) (choice : Choice) (o : Option Replica) → HaveOneRisingChange w → element_at w.servers index ≡ Some s → IsTrue s.up
    → AreGoingOn w (rots_replica w index s handle place byte choice o).world
rots_replica_on w index s handle place byte choice None h at up = same_servers w h
rots_replica_on w index s handle place byte choice (Some r) h at up = λ other t is.
    let rot : StoreChange = Rot (handle_of handle) place byte in
    elim (set_cases w.servers index (after_rot s rot choice.ending) other t is) [
      | inl both ↦ (s, ap (λ (k : ℕ). element_at w.servers k) both.0 ∙ at, subst (λ (u : ServerState). Follows s u) (sym both.1) (rot_goes_on s rot choice.ending tt (h index s at) up))
      | inr there ↦ same_servers w h other t there
    ]

first_of_and : (a b : Bool) → a && b ≡ true → a ≡ true
first_of_and true b h = refl
first_of_and false b h = absurd (let both : false ≡ true = h in cc)

rots_on_on : (w : WorldState) (n handle place byte : ℕ) (choice : Choice) (o : Option ServerState) → numbered_from_1 w.servers n ≡ o → HaveOneRisingChange w
    → AreGoingOn w (rots_on w (n - 1) handle place byte choice o).world
rots_on_on w n handle place byte choice None e h = same_servers w h
rots_on_on w n handle place byte choice (Some s) e h =
    on_cond (λ (x : Happened). AreGoingOn w x.world) (s.up && nat_lt place w.config.chunk) (rots_replica w (n - 1) s handle place byte choice (replica_of s.disk handle)) (nothing_happens w)
    (λ t. rots_replica_on w (n - 1) s handle place byte choice (replica_of s.disk handle) h (element_numbered w.servers n s e) (first_of_and s.up (nat_lt place w.config.chunk) t))
    (λ _. same_servers w h)

at_moment_on : (w : WorldState) (moment : ℕ) (x : Happened) → HaveOneRisingChange w → AreGoingOn w x.world → AreGoingOn w (at_moment w moment x).world
at_moment_on w moment x h g = on_cond (λ (y : Happened). AreGoingOn w y.world) (nat_le moment moment_limit) x (nothing_happens w) (λ _. g) (λ _. same_servers w h)

happens_on : (w : WorldState) (e : Event) (choice : Choice) → HaveOneRisingChange w → AreGoingOn w (happens w e choice).world
happens_on w (event.Call client c now) choice h =
    at_moment_on w now.0 (call_moves w (client.0 - 1) now.0 c choice (numbered_from_1 w.clients client.0)) h (calls_on w (client.0 - 1) now.0 c choice (numbered_from_1 w.clients client.0) h)
happens_on w (event.Deliver number now) choice h =
    at_moment_on w now.0 (delivered w now.0 choice (numbered_from_1 w.sent number)) h (delivered_on w now.0 choice (numbered_from_1 w.sent number) h)
happens_on w (event.Tick n now) choice h = at_moment_on w now.0 (moves w n now.0 input.Tick choice) h (moves_on w n now.0 input.Tick choice h)
happens_on w (event.Restart n now) choice h = at_moment_on w now.0 (restarts w n now.0 choice) h (restarts_on w n now.0 choice h)
happens_on w (event.Rot server handle place byte) choice h = rots_on_on w server.0 handle.0 place byte choice (numbered_from_1 w.servers server.0) refl h
happens_on w (event.Fuse n count torn) choice h = same_servers w h

still_sound : (w v : WorldState) → AreGoingOn w v → HaveOneRisingChange v
still_sound w v g index t is = (g index t is).2.sound

events_on : (w : WorldState) (steps : List (Event × Choice)) → HaveOneRisingChange w → AreGoingOn w (after_events w steps)
events_on w [] h = same_servers w h
events_on w (step ∷ rest) h = λ index t is.
    let v : WorldState = (happens w step.0 step.1).world in
    let first : AreGoingOn w v = happens_on w step.0 step.1 h in
    let later = events_on v rest (still_sound w v first) index t is in
    let before = first index later.0 later.1 in
    (before.0, before.1, record { sound = later.2.sound; later = then_later before.0.disk later.0.disk t.disk before.2.later later.2.later })

element_map : {X Y : Type 0} (f : X → Y) (xs : List X) (n : ℕ) (y : Y) → element_at (map f xs) n ≡ Some y → (x : X) × (f x ≡ y)
element_map f [] n y h = none_some y h
element_map f (x ∷ xs) zero y h = (x, same_some (f x) y h)
element_map f (x ∷ xs) (suc n) y h = element_map f xs n y h

new_sound : (config : Config) (servers clients : ℕ) → HaveOneRisingChange (new_world config servers clients)
new_sound config servers clients index s is =
    let found = element_map (λ n. started_server config n (new_server_disk config.chunk config.block config.slots) 0) (first_numbers servers) index s is in
    subst (λ (t : ServerState). HasOneRisingChange t) found.1 (record { risen = tt; few = omega arith; idle = λ up. refl })

reached_sound : (config : Config) (servers clients : ℕ) (w : WorldState) → IsReached config servers clients w → HaveOneRisingChange w
reached_sound config servers clients w r =
    subst (λ (v : WorldState). HaveOneRisingChange v) r.1
    (still_sound (new_world config servers clients) (after_events (new_world config servers clients) r.0) (events_on (new_world config servers clients) r.0 (new_sound config servers clients)))

pub order_numbers_never_fall : OrderNumbersNeverFall
order_numbers_never_fall config servers clients w r steps index before after at later_at =
    let found = events_on w steps (reached_sound config servers clients w r) index after later_at in
    subst (λ (s : ServerState). Later s.disk after.disk) (same_some found.0 before (sym found.1 ∙ at)) found.2.later
