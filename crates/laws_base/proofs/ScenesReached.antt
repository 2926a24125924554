-- What is kept by each moment that passes and each step of a node, of the master, the servers, the messages and the clock together, holds in each world that is reached.
use Rattle.std.proofs.Common.{◌≡◌, ℕ, zero, suc, ◌+◌, ◌-◌, ◌≤◌, Bool, List, [], ◌∷◌, ◌++◌, length, Option, Some, None, refl, subst, arith}
use Rattle.std.specs.Prelude.{nat_lt, nat_le, ◌&&◌, max, IsTrue}
use Rattle.std.proofs.lemmas.Bool.{and_parts, leb-true}
use Rattle.std.proofs.Math.Nat.{le-max_right, max-le}
use Rattle.gfs_types.specs.declared.config.Config.{Config}
use Rattle.gfs_types.specs.declared.ids.Node.{Node}
use Rattle.gfs_types.specs.declared.ids.Node.TheVariants as node
use Rattle.gfs_types.specs.declared.call.Call.{Call}
use Rattle.gfs_types.specs.declared.answer.Answer.{Answer}
use Rattle.messages.specs.declared.message.Message.{Message}
use Rattle.messages.specs.declared.event.Event.{Event}
use Rattle.messages.specs.declared.event.Event.TheVariants as event
use Rattle.messages.specs.declared.event.NodeInput.{NodeInput}
use Rattle.messages.specs.declared.event.NodeInput.TheVariants as input
use Rattle.protocol.specs.Tables.{moment_limit, element_at, with_at}
use Rattle.protocol.specs.Sending.{the_server, handle_of}
use Rattle.protocol.specs.Choice.{Choice, Ending}
use Rattle.protocol.specs.Seen.{Taken}
use Rattle.replica_store.specs.declared.change.StoreChange.{StoreChange}
use Rattle.replica_store.specs.declared.change.StoreChange.TheVariants.{Rot}
use Rattle.replica_store.specs.Replicas.{Replica, replica_of}
use Rattle.protocol.specs.Observer.{Observer, observed_moment, observed_call, observed_answer}
use Rattle.protocol.specs.Server.{ServerState}
use Rattle.protocol.specs.ServerStep.{server_step, server_restart}
use Rattle.protocol.specs.Master.{MasterState}
use Rattle.protocol.specs.MasterStep.{master_step, master_restart}
use Rattle.protocol.specs.Client.{ClientState}
use Rattle.protocol.specs.ClientStep.{may_call, client_step, client_call}
use Rattle.protocol.specs.World.{WorldState, Happened, new_world, nothing_happens, numbered_from_1, stamped, with_sent, after_master, after_server, after_client, master_moves, server_moves, client_moves, moves, delivered, server_restarts_at, restarts, call_moves, after_rot, rots_replica, rots_on, at_moment, happens, after_events, IsReached}
use Rattle.laws_base.proofs.Steps.{on_cond, none_some}
use Rattle.laws_base.proofs.Words.{AreQuiet}
use Rattle.laws_base.proofs.ServerMoves.{IsOfReplica}
use Rattle.laws_base.proofs.ClientMoves.{quiet_orders, client_quiet, call_quiet}
use Rattle.laws_base.proofs.SentReached.{IsInputSent, IsKeptBySent, server_quiet, server_restarts_quiet}
use Rattle.laws_base.proofs.RisingOrders.{element_numbered}

-- the part of a world that laws on leases speak of
pub record Scene : Type 0 where
  pub config : Config
  pub sent : List Message
  pub master : MasterState
  pub servers : List ServerState
  pub greatest : ℕ
  pub are_clocks_kept : Bool

abbrev pub scene_of : WorldState → Scene
scene_of w = record { config = w.config; sent = w.sent; master = w.master; servers = w.servers; greatest = w.observer.greatest; are_clocks_kept = w.observer.are_clocks_kept }

-- a moment passes
abbrev pub passed : Scene → ℕ → Scene
passed x moment = record x { greatest = max x.greatest moment; are_clocks_kept = x.are_clocks_kept && nat_le x.greatest (moment + x.config.skew_ms) }

-- a moment that was just given to a node
pub record IsNow (x : Scene) (moment : ℕ) : Type 0 where
  pub reached : moment ≤ x.greatest
  pub kept : IsTrue x.are_clocks_kept → x.greatest ≤ moment + x.config.skew_ms

pub now_passed : (x : Scene) (moment : ℕ) → IsNow (passed x moment) moment
now_passed x moment =
    record {
      reached = le-max_right x.greatest moment;
      kept = λ both. max-le (leb-true x.greatest (moment + x.config.skew_ms) (and_parts x.are_clocks_kept (nat_le x.greatest (moment + x.config.skew_ms)) both).1) (omega arith);
    }

abbrev pub more_sent : Scene → ℕ → List Message → Scene
more_sent x k ms = record x { sent = x.sent ++ stamped k ms }

-- what is delivered to a node was sent to it
abbrev pub IsSentTo : List Message → Node → NodeInput → Type 0
IsSentTo sent n (input.Deliver m) = (place : ℕ) × (element_at sent place ≡ Some m) × (m.receiver ≡ n)
IsSentTo sent n input.Tick = Unit {0}

abbrev pub after_server_step : Scene → ℕ → ℕ → Taken ServerState → Scene
after_server_step x k index t = record (more_sent x k t.out.sent) { servers = with_at x.servers index t.state }

abbrev pub after_master_step : Scene → ℕ → Taken MasterState → Scene
after_master_step x k t = record (more_sent x k t.out.sent) { master = t.state }

-- What is kept by each moment that passes and each step of a node, from some world on.
pub record IsKeptOn (Q : Scene → Type 0) : Type 0 where
  pub passes : (x : Scene) (moment : ℕ) → Q x → Q (passed x moment)
  -- clients say nothing of leases
  pub says : (x : Scene) (k : ℕ) (ms : List Message) → AreQuiet ms → Q x → Q (more_sent x k ms)
  pub masters : (x : Scene) (k moment : ℕ) (i : NodeInput) (choice : Choice) → IsNow x moment → IsSentTo x.sent node.Master i → IsTrue x.master.up → Q x → Q (after_master_step x k (master_step x.master moment i choice))
  pub opens : (x : Scene) (k moment : ℕ) (choice : Choice) → IsNow x moment → Q x → Q (after_master_step x k (master_restart x.master moment choice))
  pub serves : (x : Scene) (k index moment : ℕ) (s : ServerState) (i : NodeInput) (choice : Choice) → IsNow x moment → element_at x.servers index ≡ Some s → IsSentTo x.sent (the_server (suc index)) i → IsTrue s.up → Q x
      → Q (after_server_step x k index (server_step s moment i choice))
  pub restarts : (x : Scene) (k index moment : ℕ) (s : ServerState) (choice : Choice) → IsNow x moment → element_at x.servers index ≡ Some s → Q x → Q (after_server_step x k index (server_restart s moment choice))
  pub rots : (x : Scene) (index : ℕ) (c : StoreChange) (s : ServerState) (e : Ending) → IsOfReplica c → element_at x.servers index ≡ Some s → IsTrue s.up → Q x → Q (record x { servers = with_at x.servers index (after_rot s c e) })

-- What is kept so, and holds of a new world.
pub record IsKeptByScenes (Q : Scene → Type 0) : Type 0 where
  pub new : (config : Config) (servers clients : ℕ) → Q (scene_of (new_world config servers clients))
  pub passes : (x : Scene) (moment : ℕ) → Q x → Q (passed x moment)
  -- clients say nothing of leases
  pub says : (x : Scene) (k : ℕ) (ms : List Message) → AreQuiet ms → Q x → Q (more_sent x k ms)
  pub masters : (x : Scene) (k moment : ℕ) (i : NodeInput) (choice : Choice) → IsNow x moment → IsSentTo x.sent node.Master i → IsTrue x.master.up → Q x → Q (after_master_step x k (master_step x.master moment i choice))
  pub opens : (x : Scene) (k moment : ℕ) (choice : Choice) → IsNow x moment → Q x → Q (after_master_step x k (master_restart x.master moment choice))
  pub serves : (x : Scene) (k index moment : ℕ) (s : ServerState) (i : NodeInput) (choice : Choice) → IsNow x moment → element_at x.servers index ≡ Some s → IsSentTo x.sent (the_server (suc index)) i → IsTrue s.up → Q x
      → Q (after_server_step x k index (server_step s moment i choice))
  pub restarts : (x : Scene) (k index moment : ℕ) (s : ServerState) (choice : Choice) → IsNow x moment → element_at x.servers index ≡ Some s → Q x → Q (after_server_step x k index (server_restart s moment choice))
  pub rots : (x : Scene) (index : ℕ) (c : StoreChange) (s : ServerState) (e : Ending) → IsOfReplica c → element_at x.servers index ≡ Some s → IsTrue s.up → Q x → Q (record x { servers = with_at x.servers index (after_rot s c e) })

-- what is kept from a new world on is kept from any world on
pub kept_on : (Q : Scene → Type 0) → IsKeptByScenes Q → IsKeptOn Q
kept_on Q k = record { passes = k.passes; says = k.says; masters = k.masters; opens = k.opens; serves = k.serves; restarts = k.restarts; rots = k.rots }

module _ (Q : Scene → Type 0) (k : IsKeptOn Q) where
  abbrev Here : Happened → Type 0
  Here h = Q (scene_of h.world)

  -- an answer that is seen changes no clock
  answered : (w : WorldState) (o : Observer) (n : ℕ) (ms : List Message) (clients : List ClientState) (a : Option Answer) → Q (scene_of (with_sent (record w { clients = clients; observer = o }) ms))
      → Q (scene_of (with_sent (record w { clients = clients; observer = observed_answer o n a }) ms))
  answered w o n ms clients None h = h
  answered w o n ms clients (Some reply) h = h

  after_client_here : (w : WorldState) (index moment : ℕ) (t : Taken ClientState) → AreQuiet t.out.sent → Q (scene_of w) → Here (after_client w index moment t)
  after_client_here w index moment t quiet h =
      answered w (observed_moment w.config.skew_ms w.observer moment) (suc index) t.out.sent (with_at w.clients index t.state) t.out.answer
      (k.says (passed (scene_of w) moment) (suc (length w.sent)) t.out.sent quiet (k.passes (scene_of w) moment h))

  master_moves_here : (w : WorldState) (moment : ℕ) (i : NodeInput) (choice : Choice) → IsSentTo w.sent node.Master i → Q (scene_of w) → Here (master_moves w moment i choice)
  master_moves_here w moment i choice is h =
      on_cond Here w.master.up (after_master w moment (master_step w.master moment i choice)) (nothing_happens w)
      (λ up. k.masters (passed (scene_of w) moment) (suc (length w.sent)) moment i choice (now_passed (scene_of w) moment) is up (k.passes (scene_of w) moment h)) (λ _. h)

  server_moves_here : (w : WorldState) (n moment : ℕ) (i : NodeInput) (choice : Choice) (o : Option ServerState) → numbered_from_1 w.servers n ≡ o → IsSentTo w.sent (the_server n) i → Q (scene_of w)
      → Here (server_moves w (n - 1) moment i choice o)
  server_moves_here w n moment i choice None at is h = h
  server_moves_here w zero moment i choice (Some s) at is h = none_some s at
  server_moves_here w (suc n) moment i choice (Some s) at is h =
      on_cond Here s.up (after_server w (suc n - 1) moment (server_step s moment i choice)) (nothing_happens w)
      (λ up. subst (λ (index : ℕ). Here (after_server w index moment (server_step s moment i choice))) (omega arith)
      (k.serves (passed (scene_of w) moment) (suc (length w.sent)) n moment s i choice (now_passed (scene_of w) moment) at is up (k.passes (scene_of w) moment h)))
      (λ _. h)

  client_moves_here : (w : WorldState) (index moment : ℕ) (i : NodeInput) (choice : Choice) (o : Option ClientState) → Q (scene_of w) → Here (client_moves w index moment i choice o)
  client_moves_here w index moment i choice None h = h
  client_moves_here w index moment i choice (Some c) h =
      on_cond Here c.up (after_client w index moment (client_step c moment i choice)) (nothing_happens w) (λ _. after_client_here w index moment (client_step c moment i choice) (client_quiet c moment i choice) h) (λ _. h)

  moves_here : (w : WorldState) (n : Node) (moment : ℕ) (i : NodeInput) (choice : Choice) → IsSentTo w.sent n i → Q (scene_of w) → Here (moves w n moment i choice)
  moves_here w node.Master moment i choice is h = master_moves_here w moment i choice is h
  moves_here w (node.Server s) moment i choice is h = server_moves_here w s.0 moment i choice (numbered_from_1 w.servers s.0) refl is h
  moves_here w (node.Client c) moment i choice is h = client_moves_here w (c.0 - 1) moment i choice (numbered_from_1 w.clients c.0) h

  delivered_here : (w : WorldState) (number moment : ℕ) (choice : Choice) (o : Option Message) → numbered_from_1 w.sent number ≡ o → Q (scene_of w) → Here (delivered w moment choice o)
  delivered_here w number moment choice None is h = h
  delivered_here w number moment choice (Some m) is h = moves_here w m.receiver moment (input.Deliver m) choice (number - 1, element_numbered w.sent number m is, refl) h

  server_restarts_here : (w : WorldState) (n moment : ℕ) (choice : Choice) (o : Option ServerState) → numbered_from_1 w.servers n ≡ o → Q (scene_of w) → Here (server_restarts_at w (n - 1) moment choice o)
  server_restarts_here w n moment choice None at h = h
  server_restarts_here w n moment choice (Some s) at h =
      k.restarts (passed (scene_of w) moment) (suc (length w.sent)) (n - 1) moment s choice (now_passed (scene_of w) moment) (element_numbered w.servers n s at) (k.passes (scene_of w) moment h)

  restarts_here : (w : WorldState) (n : Node) (moment : ℕ) (choice : Choice) → Q (scene_of w) → Here (restarts w n moment choice)
  restarts_here w node.Master moment choice h = k.opens (passed (scene_of w) moment) (suc (length w.sent)) moment choice (now_passed (scene_of w) moment) (k.passes (scene_of w) moment h)
  restarts_here w (node.Server s) moment choice h = server_restarts_here w s.0 moment choice (numbered_from_1 w.servers s.0) refl h
  restarts_here w (node.Client c) moment choice h = h

  calls_here : (w : WorldState) (index moment : ℕ) (c : Call) (choice : Choice) (o : Option ClientState) → Q (scene_of w) → Here (call_moves w index moment c choice o)
  calls_here w index moment c choice None h = h
  calls_here w index moment c choice (Some s) h =
      let seen : WorldState = record w { observer = observed_call (observed_moment w.config.skew_ms w.observer moment) (suc index) c } in
      on_cond Here (may_call s) (after_client seen index moment (client_call s moment c choice)) (nothing_happens w)
      (λ _. after_client_here seen index moment (client_call s moment c choice) (call_quiet s moment c choice) (k.passes (scene_of w) moment h)) (λ _. h)

  rots_replica_here : (w : WorldState) (index : ℕ) (s : ServerState) (handle place byte : ℕ) (choice : Choice) (o : Option Replica) → element_at w.servers index ≡ Some s → IsTrue s.up → Q (scene_of w)
      → Here (rots_replica w index s handle place byte choice o)
  rots_replica_here w index s handle place byte choice None at up h = h
  rots_replica_here w index s handle place byte choice (Some r) at up h = k.rots (scene_of w) index (Rot (handle_of handle) place byte) s choice.ending tt at up h

  rots_here : (w : WorldState) (n handle place byte : ℕ) (choice : Choice) (o : Option ServerState) → numbered_from_1 w.servers n ≡ o → Q (scene_of w) → Here (rots_on w (n - 1) handle place byte choice o)
  rots_here w n handle place byte choice None at h = h
  rots_here w n handle place byte choice (Some s) at h =
      on_cond Here (s.up && nat_lt place w.config.chunk) (rots_replica w (n - 1) s handle place byte choice (replica_of s.disk handle)) (nothing_happens w)
      (λ both. rots_replica_here w (n - 1) s handle place byte choice (replica_of s.disk handle) (element_numbered w.servers n s at) (and_parts s.up (nat_lt place w.config.chunk) both).0 h) (λ _. h)

  at_moment_here : (w : WorldState) (moment : ℕ) (x : Happened) → Q (scene_of w) → Here x → Here (at_moment w moment x)
  at_moment_here w moment x h g = on_cond Here (nat_le moment moment_limit) x (nothing_happens w) (λ _. g) (λ _. h)

  happens_here : (w : WorldState) (e : Event) (choice : Choice) → Q (scene_of w) → Here (happens w e choice)
  happens_here w (event.Call client c now) choice h =
      at_moment_here w now.0 (call_moves w (client.0 - 1) now.0 c choice (numbered_from_1 w.clients client.0)) h (calls_here w (client.0 - 1) now.0 c choice (numbered_from_1 w.clients client.0) h)
  happens_here w (event.Deliver number now) choice h =
      at_moment_here w now.0 (delivered w now.0 choice (numbered_from_1 w.sent number)) h (delivered_here w number now.0 choice (numbered_from_1 w.sent number) refl h)
  happens_here w (event.Tick n now) choice h = at_moment_here w now.0 (moves w n now.0 input.Tick choice) h (moves_here w n now.0 input.Tick choice tt h)
  happens_here w (event.Restart n now) choice h = at_moment_here w now.0 (restarts w n now.0 choice) h (restarts_here w n now.0 choice h)
  happens_here w (event.Rot server handle place byte) choice h = rots_here w server.0 handle.0 place byte choice (numbered_from_1 w.servers server.0) refl h
  happens_here w (event.Fuse n count torn) choice h = h

  pub goes_on : (w : WorldState) (steps : List (Event × Choice)) → Q (scene_of w) → Q (scene_of (after_events w steps))
  goes_on w [] h = h
  goes_on w (step ∷ rest) h = goes_on (happens w step.0 step.1).world rest (happens_here w step.0 step.1 h)

pub scene_reached : (Q : Scene → Type 0) → IsKeptByScenes Q → (config : Config) (servers clients : ℕ) (w : WorldState) → IsReached config servers clients w → Q (scene_of w)
scene_reached Q k config servers clients w r = subst (λ (v : WorldState). Q (scene_of v)) r.1 (goes_on Q (kept_on Q k) (new_world config servers clients) r.0 (k.new config servers clients))

-- what holds of the messages and the master holds of scenes

input_sent : (sent : List Message) (n : Node) (i : NodeInput) → IsSentTo sent n i → IsInputSent sent i
input_sent sent n (input.Deliver m) is = (is.0, is.1)
input_sent sent n input.Tick is = tt

pub lifted : (R : List Message → MasterState → Type 0) → IsKeptBySent R → IsKeptByScenes (λ x. R x.sent x.master)
lifted R b =
    record {
      new = λ config servers clients. b.new config servers;
      passes = λ x moment h. h;
      says = λ x k ms quiet h. b.quiet x.sent ms k x.master (quiet_orders ms quiet) h;
      masters = λ x k moment i choice now is up h. b.steps x.sent k x.master moment i choice (input_sent x.sent node.Master i is) h;
      opens = λ x k moment choice now h. b.restarts x.sent k x.master moment choice h;
      serves = λ x k index moment s i choice now at is up h. b.quiet x.sent (server_step s moment i choice).out.sent k x.master (server_quiet s moment i choice) h;
      restarts = λ x k index moment s choice now at h. b.quiet x.sent (server_restart s moment choice).out.sent k x.master (server_restarts_quiet s moment choice choice.ending) h;
      rots = λ x index c s e is at up h. h;
    }
