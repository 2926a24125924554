-- What each event leaves of a client.
use Rattle.std.proofs.Common.{◌≡◌, ℕ, zero, suc, ◌+◌, ◌-◌, Bool, true, false, cond, List, [], ◌∷◌, Option, Some, None, refl, sym, subst, ap, ◌∙◌, arith}
use Rattle.std.specs.Prelude.{◌==◌, ◌&&◌, nat_le, nat_lt, is_some, option_map}
use Rattle.std.proofs.lemmas.Bool.{true≢false, eqb-true, eqb-false}
use Rattle.gfs_types.specs.declared.answer.Answer.{Answer}
use Rattle.gfs_types.specs.declared.call.Call.{Call}
use Rattle.gfs_types.specs.declared.ids.ClientId.{ClientId}
use Rattle.gfs_types.specs.declared.ids.ServerId.{ServerId}
use Rattle.gfs_types.specs.declared.ids.Moment.{Moment}
use Rattle.gfs_types.specs.declared.ids.Node.{Node}
use Rattle.gfs_types.specs.declared.ids.Node.TheVariants as node
use Rattle.messages.specs.declared.event.Event.{Event}
use Rattle.messages.specs.declared.event.Event.TheVariants as event
use Rattle.messages.specs.declared.event.NodeInput.{NodeInput}
use Rattle.messages.specs.declared.event.NodeInput.TheVariants as input
use Rattle.messages.specs.declared.message.Message.{Message}
use Rattle.replica_store.specs.Replicas.{Replica, replica_of}
use Rattle.protocol.specs.Tables.{element_at, with_at, moment_limit}
use Rattle.protocol.specs.Choice.{Choice}
use Rattle.protocol.specs.Observer.{observed_moment, observed_call}
use Rattle.protocol.specs.Client.{ClientState}
use Rattle.protocol.specs.ClientStep.{may_call, client_call, client_step}
use Rattle.protocol.specs.MasterStep.{master_step, master_restart}
use Rattle.protocol.specs.Server.{ServerState}
use Rattle.protocol.specs.ServerStep.{server_step, server_restart}
use Rattle.protocol.specs.World.{WorldState, Happened, nothing_happens, numbered_from_1, after_master, after_server, after_client, master_moves, server_moves, client_moves, moves, delivered, server_restarts_at, restarts, call_moves, rots_replica, rots_on, at_moment, happens}
use Rattle.laws_base.specs.Answered.{one_if, is_open, is_up, may_take, is_taken, is_answer_of, node_of, Counts, CountsIfUp}
use Rattle.laws_base.specs.Answers.{CallsAreAnsweredOnce}
use Rattle.laws_base.proofs.Walk.{on_cond}
use Rattle.laws_base.proofs.LeftClients.{step_counts, call_counts}

-- lists

set_here : {X : Type 0} (xs : List X) (n : ℕ) (x y : X) → element_at xs n ≡ Some x → element_at (with_at xs n y) n ≡ Some y
set_here [] n x y h = absurd (let none : None ≡ Some x = h in cc)
set_here (z ∷ zs) zero x y h = refl
set_here (z ∷ zs) (suc n) x y h = set_here zs n x y h

set_elsewhere : {X : Type 0} (xs : List X) (k n : ℕ) (y : X) → (k ≡ n → ⊥) → element_at (with_at xs k y) n ≡ element_at xs n
set_elsewhere [] k n y other = refl
set_elsewhere (z ∷ zs) zero zero y other = absurd (other refl)
set_elsewhere (z ∷ zs) zero (suc n) y other = refl
set_elsewhere (z ∷ zs) (suc k) zero y other = refl
set_elsewhere (z ∷ zs) (suc k) (suc n) y other = set_elsewhere zs k n y (λ e. other (ap (λ (i : ℕ). suc i) e))

before_next : (n : ℕ) → suc n - 1 ≡ n
before_next n = omega arith

numbered_here : {X : Type 0} (xs : List X) (n : ℕ) (x y : X) → numbered_from_1 xs n ≡ Some x → numbered_from_1 (with_at xs (n - 1) y) n ≡ Some y
numbered_here xs zero x y h = absurd (let none : None ≡ Some x = h in cc)
numbered_here xs (suc n) x y h = ap (λ k. element_at (with_at xs k y) n) (before_next n) ∙ set_here xs n x y h

numbered_elsewhere : {X : Type 0} (xs : List X) (k n : ℕ) (x y : X) → numbered_from_1 xs k ≡ Some x → (k ≡ n → ⊥) → numbered_from_1 (with_at xs (k - 1) y) n ≡ numbered_from_1 xs n
numbered_elsewhere xs k zero x y h other = refl
numbered_elsewhere xs zero (suc n) x y h other = absurd (let none : None ≡ Some x = h in cc)
numbered_elsewhere xs (suc k) (suc n) x y h other =
    ap (λ j. element_at (with_at xs j y) n) (before_next k) ∙ set_elsewhere xs k n y (λ e. other (ap (λ (i : ℕ). suc i) e))

-- tests

and_false : (b : Bool) → b && false ≡ false
and_false true = refl
and_false false = refl

and_true : (b : Bool) → b && true ≡ b
and_true true = refl
and_true false = refl

pub no_answer : (client : ℕ) (n : Node) → is_answer_of client n None ≡ false
no_answer client node.Master = refl
no_answer client (node.Server server) = refl
no_answer client (node.Client c) = refl

of_client : (client : ℕ) (c : ClientId) (a : Option Answer) → is_answer_of client (node.Client c) a ≡ (c.0 == client) && is_some a
of_client client c None = sym (and_false (c.0 == client))
of_client client c (Some answer) = sym (and_true (c.0 == client))

-- clients

like : (before before2 after after2 : Option ClientState) (answered answered2 taken taken2 : Bool) → before ≡ before2 → after ≡ after2 → answered ≡ answered2 → taken ≡ taken2 → CountsIfUp before2 after2 answered2 taken2
    → CountsIfUp before after answered taken
like before before2 after after2 answered answered2 taken taken2 b a n t h =
    subst (λ o. CountsIfUp o after answered taken) (sym b) (subst (λ o. CountsIfUp before2 o answered taken) (sym a) (subst (λ x. CountsIfUp before2 after2 x taken) (sym n) (subst (λ x. CountsIfUp before2 after2 answered2 x) (sym t) h)))

same : (o : Option ClientState) → CountsIfUp o o false false
same o up = record { was_up = up; sums = refl }

pub still : (before after : Option ClientState) (answered taken : Bool) → after ≡ before → answered ≡ false → taken ≡ false → CountsIfUp before after answered taken
still before after answered taken a n t = like before before after before answered false taken false refl a n t (same before)

-- the client of a number takes a step
moved : (cs : List ClientState) (c : ClientId) (client : ℕ) (s t : ClientState) (a : Option Answer) (taken : Bool) → numbered_from_1 cs c.0 ≡ Some s → CountsIfUp (Some s) (Some t) (is_some a) taken
    → CountsIfUp (numbered_from_1 cs client) (numbered_from_1 (with_at cs (c.0 - 1) t) client) (is_answer_of client (node.Client c) a) ((c.0 == client) && taken)
moved cs c client s t a taken there h = split (c.0 == client) refl
  where
    split : (b : Bool) → (c.0 == client) ≡ b → CountsIfUp (numbered_from_1 cs client) (numbered_from_1 (with_at cs (c.0 - 1) t) client) (is_answer_of client (node.Client c) a) ((c.0 == client) && taken)
    split true e =
        let it : c.0 ≡ client = eqb-true c.0 client e in
        like _ (Some s) _ (Some t) _ (is_some a) _ taken (subst (λ k. numbered_from_1 cs k ≡ Some s) it there)
        (subst (λ k. numbered_from_1 (with_at cs (c.0 - 1) t) k ≡ Some t) it (numbered_here cs c.0 s t there)) (of_client client c a ∙ ap (λ b. b && is_some a) e) (ap (λ b. b && taken) e) h
    split false e =
        still _ _ _ _ (numbered_elsewhere cs c.0 client s t there (eqb-false c.0 client e)) (of_client client c a ∙ ap (λ b. b && is_some a) e) (ap (λ b. b && taken) e)

-- events

-- what an event came to, as the client of a number has it
abbrev After : WorldState → ℕ → Node → Bool → Happened → Type 0
After w client n taken h = CountsIfUp (numbered_from_1 w.clients client) (numbered_from_1 h.world.clients client) (is_answer_of client n h.out.answer) taken

nothing : (w : WorldState) (client : ℕ) (n : Node) (taken : Bool) → taken ≡ false → After w client n taken (nothing_happens w)
nothing w client n taken none = still _ _ _ _ refl (no_answer client n) none

client_moved : (w : WorldState) (client : ℕ) (c : ClientId) (moment : ℕ) (i : NodeInput) (choice : Choice) (o : Option ClientState) → numbered_from_1 w.clients c.0 ≡ o
    → After w client (node.Client c) false (client_moves w (c.0 - 1) moment i choice o)
client_moved w client c moment i choice None e = nothing w client (node.Client c) false refl
client_moved w client c moment i choice (Some s) e =
    on_cond (After w client (node.Client c) false) s.up (after_client w (c.0 - 1) moment (client_step s moment i choice)) (nothing_happens w)
    (λ _. like _ _ _ _ _ _ false ((c.0 == client) && false) refl refl refl (sym (and_false (c.0 == client)))
    (moved w.clients c client s (client_step s moment i choice).state (client_step s moment i choice).out.answer false e (step_counts s moment i choice)))
    (λ _. nothing w client (node.Client c) false refl)

server_moved : (w : WorldState) (client : ℕ) (server : ServerId) (moment : ℕ) (i : NodeInput) (choice : Choice) (o : Option ServerState) → After w client (node.Server server) false (server_moves w (server.0 - 1) moment i choice o)
server_moved w client server moment i choice None = same _
server_moved w client server moment i choice (Some s) =
    on_cond (After w client (node.Server server) false) s.up (after_server w (server.0 - 1) moment (server_step s moment i choice)) (nothing_happens w) (λ _. same _) (λ _. same _)

moves_counted : (w : WorldState) (client : ℕ) (n : Node) (moment : ℕ) (i : NodeInput) (choice : Choice) → After w client n false (moves w n moment i choice)
moves_counted w client node.Master moment i choice =
    on_cond (After w client node.Master false) w.master.up (after_master w moment (master_step w.master moment i choice)) (nothing_happens w) (λ _. same _) (λ _. same _)
moves_counted w client (node.Server server) moment i choice = server_moved w client server moment i choice (numbered_from_1 w.servers server.0)
moves_counted w client (node.Client c) moment i choice = client_moved w client c moment i choice (numbered_from_1 w.clients c.0) refl

server_restarted : (w : WorldState) (client : ℕ) (server : ServerId) (moment : ℕ) (choice : Choice) (o : Option ServerState) → After w client (node.Server server) false (server_restarts_at w (server.0 - 1) moment choice o)
server_restarted w client server moment choice None = same _
server_restarted w client server moment choice (Some s) = same _

restarts_counted : (w : WorldState) (client : ℕ) (n : Node) (moment : ℕ) (choice : Choice) → After w client n false (restarts w n moment choice)
restarts_counted w client node.Master moment choice = same _
restarts_counted w client (node.Server server) moment choice = server_restarted w client server moment choice (numbered_from_1 w.servers server.0)
restarts_counted w client (node.Client c) moment choice = same _

replica_rotted : (w : WorldState) (client : ℕ) (server : ServerId) (s : ServerState) (handle place byte : ℕ) (choice : Choice) (o : Option Replica) → After w client (node.Server server) false (rots_replica w (server.0 - 1) s handle place byte choice o)
replica_rotted w client server s handle place byte choice None = same _
replica_rotted w client server s handle place byte choice (Some r) = same _

rotted : (w : WorldState) (client : ℕ) (server : ServerId) (handle place byte : ℕ) (choice : Choice) (o : Option ServerState) → After w client (node.Server server) false (rots_on w (server.0 - 1) handle place byte choice o)
rotted w client server handle place byte choice None = same _
rotted w client server handle place byte choice (Some s) =
    on_cond (After w client (node.Server server) false) (s.up && nat_lt place w.config.chunk) (rots_replica w (server.0 - 1) s handle place byte choice (replica_of s.disk handle)) (nothing_happens w)
    (λ _. replica_rotted w client server s handle place byte choice (replica_of s.disk handle)) (λ _. same _)

-- a call, by the client that takes it
called : (w : WorldState) (client : ℕ) (c : ClientId) (asked : Call) (moment : ℕ) (choice : Choice) (o : Option ClientState) → numbered_from_1 w.clients c.0 ≡ o
    → After w client (node.Client c) ((c.0 == client) && may_take o) (call_moves w (c.0 - 1) moment asked choice o)
called w client c asked moment choice None e = nothing w client (node.Client c) _ (and_false (c.0 == client))
called w client c asked moment choice (Some s) e =
    let seen : WorldState = record w { observer = observed_call (observed_moment w.config.skew_ms w.observer moment) (suc (c.0 - 1)) asked } in
    on_cond (After w client (node.Client c) ((c.0 == client) && may_call s)) (may_call s) (after_client seen (c.0 - 1) moment (client_call s moment asked choice)) (nothing_happens w)
    (λ may. like _ _ _ _ _ _ _ _ refl refl refl (ap (λ b. (c.0 == client) && b) may)
    (moved w.clients c client s (client_call s moment asked choice).state (client_call s moment asked choice).out.answer true e (call_counts s moment asked choice may)))
    (λ barred. nothing w client (node.Client c) _ (ap (λ b. (c.0 == client) && b) barred ∙ and_false (c.0 == client)))

-- a call, at a moment that is in time or too late
timed : (w : WorldState) (client : ℕ) (c : ClientId) (asked : Call) (moment : ℕ) (choice : Choice) (b : Bool)
    → After w client (node.Client c) ((c.0 == client) && (b && may_take (numbered_from_1 w.clients c.0))) (cond b (call_moves w (c.0 - 1) moment asked choice (numbered_from_1 w.clients c.0)) (nothing_happens w))
timed w client c asked moment choice true = called w client c asked moment choice (numbered_from_1 w.clients c.0) refl
timed w client c asked moment choice false = nothing w client (node.Client c) _ (and_false (c.0 == client))

-- an event whose moment is too late comes to nothing
timely : (w : WorldState) (client : ℕ) (n : Node) (moment : ℕ) (h : Happened) → After w client n false h → After w client n false (at_moment w moment h)
timely w client n moment h k = on_cond (After w client n false) (nat_le moment moment_limit) h (nothing_happens w) (λ _. k) (λ _. nothing w client n false refl)

deliveries_counted : (w : WorldState) (client : ℕ) (n : Node) (moment : ℕ) (choice : Choice) (o : Option Message) → option_map (λ m. m.receiver) o ≡ Some n → After w client n false (delivered w moment choice o)
deliveries_counted w client n moment choice None e = absurd (let none : None ≡ Some n = e in cc)
deliveries_counted w client n moment choice (Some m) e =
    let to : m.receiver ≡ n = (let is : Some m.receiver ≡ Some n = e in cc) in
    subst (λ (x : Node). After w client x false (moves w m.receiver moment (input.Deliver m) choice)) to (moves_counted w client m.receiver moment (input.Deliver m) choice)

same_node : (a b : Node) → Some a ≡ Some b → a ≡ b
same_node a b e = cc

pub counted : CallsAreAnsweredOnce
counted w (event.Call c asked now) choice n client is =
    subst (λ (x : Node). After w client x (is_taken w.clients client (event.Call c asked now)) (happens w (event.Call c asked now) choice)) (same_node (node.Client c) n is) (timed w client c asked now.0 choice (nat_le now.0 moment_limit))
counted w (event.Deliver number now) choice n client is =
    timely w client n now.0 (delivered w now.0 choice (numbered_from_1 w.sent number)) (deliveries_counted w client n now.0 choice (numbered_from_1 w.sent number) is)
counted w (event.Tick m now) choice n client is =
    subst (λ (x : Node). After w client x false (happens w (event.Tick m now) choice)) (same_node m n is) (timely w client m now.0 (moves w m now.0 input.Tick choice) (moves_counted w client m now.0 input.Tick choice))
counted w (event.Restart m now) choice n client is =
    subst (λ (x : Node). After w client x false (happens w (event.Restart m now) choice)) (same_node m n is) (timely w client m now.0 (restarts w m now.0 choice) (restarts_counted w client m now.0 choice))
counted w (event.Rot server handle place byte) choice n client is =
    subst (λ (x : Node). After w client x false (happens w (event.Rot server handle place byte) choice)) (same_node (node.Server server) n is) (rotted w client server handle.0 place byte choice (numbered_from_1 w.servers server.0))
counted w (event.Fuse m count torn) choice n client is = nothing w client n false refl
