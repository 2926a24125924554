-- What holds after each event by cases: the master, a server or a client takes a step, the master or a server starts again, a client is called, or a byte rots.
use Rattle.std.proofs.Common.{◌≡◌, ℕ, zero, suc, ◌-◌, Bool, List, [], ◌∷◌, Option, Some, None, refl, subst, arith}
use Rattle.std.specs.Prelude.{nat_lt, nat_le, ◌&&◌, IsTrue}
use Rattle.std.proofs.lemmas.Bool.{and_parts}
use Rattle.gfs_types.specs.declared.config.Config.{Config}
use Rattle.gfs_types.specs.declared.ids.Node.{Node}
use Rattle.gfs_types.specs.declared.ids.Node.TheVariants as node
use Rattle.gfs_types.specs.declared.call.Call.{Call}
use Rattle.messages.specs.declared.message.Message.{Message}
use Rattle.messages.specs.declared.event.Event.{Event}
use Rattle.messages.specs.declared.event.Event.TheVariants as event
use Rattle.messages.specs.declared.event.NodeInput.{NodeInput}
use Rattle.messages.specs.declared.event.NodeInput.TheVariants as input
use Rattle.protocol.specs.Tables.{moment_limit, element_at, with_at}
use Rattle.protocol.specs.Sending.{the_server, the_client, handle_of}
use Rattle.protocol.specs.Choice.{Choice, Ending}
use Rattle.replica_store.specs.declared.change.StoreChange.{StoreChange}
use Rattle.replica_store.specs.declared.change.StoreChange.TheVariants.{Rot}
use Rattle.replica_store.specs.Replicas.{Replica, replica_of, rotten_replica}
use Rattle.protocol.specs.Observer.{IntactChunk, Observer, observed_moment, observed_call}
use Rattle.protocol.specs.StoredBytes.{observed_rot}
use Rattle.protocol.specs.Server.{ServerState}
use Rattle.protocol.specs.ServerStep.{server_step, server_restart}
use Rattle.protocol.specs.MasterStep.{master_step, master_restart}
use Rattle.protocol.specs.Client.{ClientState}
use Rattle.protocol.specs.ClientStep.{may_call, client_step, client_call}
use Rattle.protocol.specs.World.{WorldState, Happened, new_world, nothing_happens, numbered_from_1, after_master, after_server, after_client, master_moves, server_moves, client_moves, moves, delivered, server_restarts_at, restarts, call_moves, after_rot, puts_down, rots_replica, rots_on, at_moment, happens, after_events, IsReached}
use Rattle.laws_base.proofs.Steps.{on_cond, none_some}
use Rattle.laws_base.proofs.RisingOrders.{element_numbered}

-- the event gives a node this input at this moment
abbrev pub IsGiven : WorldState → Event → Node → ℕ → NodeInput → Type 0
IsGiven w (event.Deliver number now) n moment (input.Deliver m) = (numbered_from_1 w.sent number ≡ Some m) × (m.receiver ≡ n) × (now.0 ≡ moment)
IsGiven w (event.Tick to now) n moment input.Tick = (to ≡ n) × (now.0 ≡ moment)
IsGiven w e n moment i = ⊥

-- the world in which a client's call was seen
abbrev pub with_call : WorldState → ℕ → ℕ → Call → WorldState
with_call w index moment c = record w { observer = observed_call (observed_moment w.config.skew_ms w.observer moment) (suc index) c }

-- a byte of a replica becomes another
abbrev pub rot_of : (handle place byte : ℕ) → StoreChange
rot_of handle place byte = Rot (handle_of handle) place byte

-- what an observer knows of disks: what was stored as bytes rotted, and whether disks are kept
abbrev pub OfDisks : Type 0
OfDisks = List IntactChunk × Bool

-- the world after that, with what is known of disks
abbrev pub with_rot : WorldState → ℕ → ServerState → StoreChange → Ending → OfDisks → Happened
with_rot w index s rot ending known =
    record {
      out = record { sent = []; answer = None; down = puts_down ending };
      world = record w { servers = with_at w.servers index (after_rot s rot ending); observer = record w.observer { intact = known.0; are_disks_kept = known.1 } };
    }

-- what is known of disks once this byte of a replica rots
abbrev pub known_after : WorldState → (index handle : ℕ) → ServerState → Replica → (place byte : ℕ) → OfDisks
known_after w index handle s r place byte =
    let seen : Observer = observed_rot w.observer index handle s.disk.block r (rotten_replica r place byte) in
    (seen.intact, seen.are_disks_kept)

-- what holds after each kind of event, with what rot says of kept disks: they are kept while each block that changed has another digest
pub record HoldsExactly (w : WorldState) (Q : Event → Happened → Type 0) : Type 0 where
  pub nothing : (e : Event) → Q e (nothing_happens w)
  pub masters : (e : Event) (moment : ℕ) (i : NodeInput) (choice : Choice) → IsGiven w e node.Master moment i → IsTrue w.master.up → Q e (after_master w moment (master_step w.master moment i choice))
  pub opens : (e : Event) (moment : ℕ) (choice : Choice) → Q e (after_master w moment (master_restart w.master moment choice))
  pub serves : (e : Event) (index moment : ℕ) (s : ServerState) (i : NodeInput) (choice : Choice) → element_at w.servers index ≡ Some s → IsGiven w e (the_server (suc index)) moment i → IsTrue s.up
      → Q e (after_server w index moment (server_step s moment i choice))
  pub restarts : (e : Event) (index moment : ℕ) (s : ServerState) (choice : Choice) → element_at w.servers index ≡ Some s → Q e (after_server w index moment (server_restart s moment choice))
  pub steps : (e : Event) (index moment : ℕ) (s : ClientState) (i : NodeInput) (choice : Choice) → element_at w.clients index ≡ Some s → IsGiven w e (the_client (suc index)) moment i → IsTrue s.up
      → Q e (after_client w index moment (client_step s moment i choice))
  pub calls : (e : Event) (index moment : ℕ) (s : ClientState) (c : Call) (choice : Choice) → element_at w.clients index ≡ Some s → IsTrue (may_call s)
      → Q e (after_client (with_call w index moment c) index moment (client_call s moment c choice))
  pub rots : (e : Event) (index handle : ℕ) (s : ServerState) (r : Replica) (place byte : ℕ) (ending : Ending) → element_at w.servers index ≡ Some s → replica_of s.disk handle ≡ Some r → IsTrue s.up
      → Q e (with_rot w index s (rot_of handle place byte) ending (known_after w index handle s r place byte))

-- what holds after each kind of event, whatever rot says of kept disks
pub record HoldsAfter (w : WorldState) (Q : Event → Happened → Type 0) : Type 0 where
  pub nothing : (e : Event) → Q e (nothing_happens w)
  pub masters : (e : Event) (moment : ℕ) (i : NodeInput) (choice : Choice) → IsGiven w e node.Master moment i → IsTrue w.master.up → Q e (after_master w moment (master_step w.master moment i choice))
  pub opens : (e : Event) (moment : ℕ) (choice : Choice) → Q e (after_master w moment (master_restart w.master moment choice))
  pub serves : (e : Event) (index moment : ℕ) (s : ServerState) (i : NodeInput) (choice : Choice) → element_at w.servers index ≡ Some s → IsGiven w e (the_server (suc index)) moment i → IsTrue s.up
      → Q e (after_server w index moment (server_step s moment i choice))
  pub restarts : (e : Event) (index moment : ℕ) (s : ServerState) (choice : Choice) → element_at w.servers index ≡ Some s → Q e (after_server w index moment (server_restart s moment choice))
  pub steps : (e : Event) (index moment : ℕ) (s : ClientState) (i : NodeInput) (choice : Choice) → element_at w.clients index ≡ Some s → IsGiven w e (the_client (suc index)) moment i → IsTrue s.up
      → Q e (after_client w index moment (client_step s moment i choice))
  pub calls : (e : Event) (index moment : ℕ) (s : ClientState) (c : Call) (choice : Choice) → element_at w.clients index ≡ Some s → IsTrue (may_call s)
      → Q e (after_client (with_call w index moment c) index moment (client_call s moment c choice))
  pub rots : (e : Event) (index handle : ℕ) (s : ServerState) (r : Replica) (place byte : ℕ) (ending : Ending) (known : OfDisks) → element_at w.servers index ≡ Some s → replica_of s.disk handle ≡ Some r → IsTrue s.up
      → Q e (with_rot w index s (rot_of handle place byte) ending known)

holds_exactly_too : (w : WorldState) (Q : Event → Happened → Type 0) → HoldsAfter w Q → HoldsExactly w Q
holds_exactly_too w Q k =
    record {
      nothing = k.nothing;
      masters = k.masters;
      opens = k.opens;
      serves = k.serves;
      restarts = k.restarts;
      steps = k.steps;
      calls = k.calls;
      rots = λ e index handle s r place byte ending at there up. k.rots e index handle s r place byte ending (known_after w index handle s r place byte) at there up;
    }

module _ (w : WorldState) (Q : Event → Happened → Type 0) (k : HoldsExactly w Q) where
  after_master_moves : (e : Event) (moment : ℕ) (i : NodeInput) (choice : Choice) → IsGiven w e node.Master moment i → Q e (master_moves w moment i choice)
  after_master_moves e moment i choice is =
      on_cond (Q e) w.master.up (after_master w moment (master_step w.master moment i choice)) (nothing_happens w) (λ up. k.masters e moment i choice is up) (λ _. k.nothing e)

  after_server_moves : (e : Event) (n moment : ℕ) (i : NodeInput) (choice : Choice) (o : Option ServerState) → numbered_from_1 w.servers n ≡ o → IsGiven w e (the_server n) moment i → Q e (server_moves w (n - 1) moment i choice o)
  after_server_moves e n moment i choice None at is = k.nothing e
  after_server_moves e zero moment i choice (Some s) at is = none_some s at
  after_server_moves e (suc n) moment i choice (Some s) at is =
      on_cond (Q e) s.up (after_server w (suc n - 1) moment (server_step s moment i choice)) (nothing_happens w)
      (λ up. subst (λ (index : ℕ). Q e (after_server w index moment (server_step s moment i choice))) (omega arith) (k.serves e n moment s i choice at is up)) (λ _. k.nothing e)

  after_client_moves : (e : Event) (n moment : ℕ) (i : NodeInput) (choice : Choice) (o : Option ClientState) → numbered_from_1 w.clients n ≡ o → IsGiven w e (the_client n) moment i → Q e (client_moves w (n - 1) moment i choice o)
  after_client_moves e n moment i choice None at is = k.nothing e
  after_client_moves e zero moment i choice (Some s) at is = none_some s at
  after_client_moves e (suc n) moment i choice (Some s) at is =
      on_cond (Q e) s.up (after_client w (suc n - 1) moment (client_step s moment i choice)) (nothing_happens w)
      (λ up. subst (λ (index : ℕ). Q e (after_client w index moment (client_step s moment i choice))) (omega arith) (k.steps e n moment s i choice at is up)) (λ _. k.nothing e)

  after_moves : (e : Event) (n : Node) (moment : ℕ) (i : NodeInput) (choice : Choice) → IsGiven w e n moment i → Q e (moves w n moment i choice)
  after_moves e node.Master moment i choice is = after_master_moves e moment i choice is
  after_moves e (node.Server s) moment i choice is = after_server_moves e s.0 moment i choice (numbered_from_1 w.servers s.0) refl is
  after_moves e (node.Client c) moment i choice is = after_client_moves e c.0 moment i choice (numbered_from_1 w.clients c.0) refl is

  after_delivery : (e : Event) (moment : ℕ) (choice : Choice) (o : Option Message) → ((m : Message) → o ≡ Some m → IsGiven w e m.receiver moment (input.Deliver m)) → Q e (delivered w moment choice o)
  after_delivery e moment choice None is = k.nothing e
  after_delivery e moment choice (Some m) is = after_moves e m.receiver moment (input.Deliver m) choice (is m refl)

  after_server_restarts : (e : Event) (n moment : ℕ) (choice : Choice) (o : Option ServerState) → numbered_from_1 w.servers n ≡ o → Q e (server_restarts_at w (n - 1) moment choice o)
  after_server_restarts e n moment choice None at = k.nothing e
  after_server_restarts e n moment choice (Some s) at = k.restarts e (n - 1) moment s choice (element_numbered w.servers n s at)

  after_restarts : (e : Event) (n : Node) (moment : ℕ) (choice : Choice) → Q e (restarts w n moment choice)
  after_restarts e node.Master moment choice = k.opens e moment choice
  after_restarts e (node.Server s) moment choice = after_server_restarts e s.0 moment choice (numbered_from_1 w.servers s.0) refl
  after_restarts e (node.Client c) moment choice = k.nothing e

  after_calls : (e : Event) (n moment : ℕ) (c : Call) (choice : Choice) (o : Option ClientState) → numbered_from_1 w.clients n ≡ o → Q e (call_moves w (n - 1) moment c choice o)
  after_calls e n moment c choice None at = k.nothing e
  after_calls e n moment c choice (Some s) at =
      on_cond (Q e) (may_call s) (after_client (with_call w (n - 1) moment c) (n - 1) moment (client_call s moment c choice)) (nothing_happens w)
      (λ may. k.calls e (n - 1) moment s c choice (element_numbered w.clients n s at) may) (λ _. k.nothing e)

  after_rots_replica : (e : Event) (index : ℕ) (s : ServerState) (handle place byte : ℕ) (choice : Choice) (o : Option Replica) → element_at w.servers index ≡ Some s → replica_of s.disk handle ≡ o → IsTrue s.up
      → Q e (rots_replica w index s handle place byte choice o)
  after_rots_replica e index s handle place byte choice None at there up = k.nothing e
  after_rots_replica e index s handle place byte choice (Some r) at there up = k.rots e index handle s r place byte choice.ending at there up

  after_rots : (e : Event) (n handle place byte : ℕ) (choice : Choice) (o : Option ServerState) → numbered_from_1 w.servers n ≡ o → Q e (rots_on w (n - 1) handle place byte choice o)
  after_rots e n handle place byte choice None at = k.nothing e
  after_rots e n handle place byte choice (Some s) at =
      on_cond (Q e) (s.up && nat_lt place w.config.chunk) (rots_replica w (n - 1) s handle place byte choice (replica_of s.disk handle)) (nothing_happens w)
      (λ both. after_rots_replica e (n - 1) s handle place byte choice (replica_of s.disk handle) (element_numbered w.servers n s at) refl (and_parts s.up (nat_lt place w.config.chunk) both).0) (λ _. k.nothing e)

  after_at_moment : (e : Event) (moment : ℕ) (x : Happened) → Q e x → Q e (at_moment w moment x)
  after_at_moment e moment x h = on_cond (Q e) (nat_le moment moment_limit) x (nothing_happens w) (λ _. h) (λ _. k.nothing e)

  pub holds_exactly : (e : Event) (choice : Choice) → Q e (happens w e choice)
  holds_exactly (event.Call client c now) choice =
      after_at_moment (event.Call client c now) now.0 (call_moves w (client.0 - 1) now.0 c choice (numbered_from_1 w.clients client.0))
      (after_calls (event.Call client c now) client.0 now.0 c choice (numbered_from_1 w.clients client.0) refl)
  holds_exactly (event.Deliver number now) choice =
      after_at_moment (event.Deliver number now) now.0 (delivered w now.0 choice (numbered_from_1 w.sent number))
      (after_delivery (event.Deliver number now) now.0 choice (numbered_from_1 w.sent number) (λ m is. (is, refl, refl)))
  holds_exactly (event.Tick n now) choice = after_at_moment (event.Tick n now) now.0 (moves w n now.0 input.Tick choice) (after_moves (event.Tick n now) n now.0 input.Tick choice (refl, refl))
  holds_exactly (event.Restart n now) choice = after_at_moment (event.Restart n now) now.0 (restarts w n now.0 choice) (after_restarts (event.Restart n now) n now.0 choice)
  holds_exactly (event.Rot server handle place byte) choice = after_rots (event.Rot server handle place byte) server.0 handle.0 place byte choice (numbered_from_1 w.servers server.0) refl
  holds_exactly (event.Fuse n count torn) choice = k.nothing (event.Fuse n count torn)

pub holds_after : (w : WorldState) (Q : Event → Happened → Type 0) → HoldsAfter w Q → (e : Event) (choice : Choice) → Q e (happens w e choice)
holds_after w Q k e choice = holds_exactly w Q (holds_exactly_too w Q k) e choice

-- what each event keeps holds after a list of them
module _ (Q : WorldState → Type 0) (k : (w : WorldState) → Q w → HoldsAfter w (λ e h. Q h.world)) where
  pub holds_on : (w : WorldState) (steps : List (Event × Choice)) → Q w → Q (after_events w steps)
  holds_on w [] h = h
  holds_on w (step ∷ rest) h = holds_on (happens w step.0 step.1).world rest (holds_after w (λ e x. Q x.world) (k w h) step.0 step.1)

  pub world_reached : ((config : Config) (servers clients : ℕ) → Q (new_world config servers clients)) → (config : Config) (servers clients : ℕ) (w : WorldState) → IsReached config servers clients w → Q w
  world_reached new config servers clients w r = subst (λ (v : WorldState). Q v) r.1 (holds_on (new_world config servers clients) r.0 (new config servers clients))
