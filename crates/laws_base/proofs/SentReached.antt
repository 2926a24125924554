-- What each step of the master keeps, with the messages that were sent, and what messages that are no orders leave as it is, holds in each world that is reached.
use Rattle.std.proofs.Common.{◌≡◌, ℕ, suc, ◌+◌, ◌-◌, Bool, true, List, [], ◌∷◌, ◌++◌, length, Option, Some, None, refl, ap, subst, ◌∙◌, arith}
use Rattle.std.specs.Prelude.{◌==◌, nat_lt, nat_le, ◌&&◌, count_by}
use Rattle.std.proofs.lemmas.Bool.{and_from}
use Rattle.gfs_types.specs.declared.ids.OrderNo.{OrderNo}
use Rattle.messages.specs.declared.message.Body.{Body}
use Rattle.gfs_types.specs.declared.config.Config.{Config}
use Rattle.gfs_types.specs.declared.ids.Node.{Node}
use Rattle.gfs_types.specs.declared.ids.Node.TheVariants as node
use Rattle.gfs_types.specs.declared.call.Call.{Call}
use Rattle.messages.specs.declared.message.Message.{Message}
use Rattle.messages.specs.declared.event.Event.{Event}
use Rattle.messages.specs.declared.event.Event.TheVariants as event
use Rattle.messages.specs.declared.event.NodeInput.{NodeInput}
use Rattle.messages.specs.declared.event.NodeInput.TheVariants as input
use Rattle.protocol.specs.Tables.{moment_limit, element_at}
use Rattle.protocol.specs.Choice.{Choice, Ending, Goes, Lost, Stops, in_order}
use Rattle.protocol.specs.Seen.{Taken, no_step}
use Rattle.protocol.specs.Master.{MasterState}
use Rattle.protocol.specs.MasterStep.{master_step, master_restart, new_master}
use Rattle.replica_store.specs.Replicas.{Replica, replica_of}
use Rattle.protocol.specs.Server.{ServerState, ServerDoing}
use Rattle.protocol.specs.ServerStep.{server_goes, server_ends, server_step, server_restarts, server_restart}
use Rattle.protocol.specs.Client.{ClientState}
use Rattle.protocol.specs.ClientStep.{may_call, client_step, client_call}
use Rattle.protocol.specs.World.{WorldState, Happened, new_world, nothing_happens, numbered_from_1, stamped, after_master, after_server, after_client, master_moves, server_moves, client_moves, moves, delivered, server_restarts_at, restarts, call_moves, rots_replica, rots_on, at_moment, happens, after_events, IsReached}
use Rattle.laws_base.specs.Laws.{is_number}
use Rattle.laws_base.proofs.Steps.{on_cond, tally, count-cons, count-append, count-in_order}
use Rattle.laws_base.proofs.Entries.{AllOf, same_number}
use Rattle.laws_base.proofs.ServerMoves.{KeepsServer, IsCameIn, server_goes_holds}
use Rattle.laws_base.proofs.ClientMoves.{HasNoOrder, one_more, quiet_orders, client_quiet, call_quiet}
use Rattle.laws_base.proofs.Words.{no_order}
use Rattle.protocol.specs.Sending.{the_server, order_number}
use Rattle.messages.specs.declared.message.Body.TheVariants as body
use Rattle.laws_base.proofs.RisingOrders.{element_numbered}

pub no_orders : HasNoOrder []
no_orders e n = refl

-- each of such messages is no order
pub without_order : (ms : List Message) → HasNoOrder ms → AllOf (λ m. order_number m.body ≡ None) ms
without_order [] h = tt
without_order (m ∷ ms) h = (uncounted (order_number m.body) refl, without_order ms rest)
  where
    rest : HasNoOrder ms
    rest e n = let whole = count-cons (λ (x : Message). is_number e n (order_number x.body)) m ms in let none = h e n in omega (arith, whole, none)

    counts : (o : OrderNo) → is_number o.epoch o.count (Some o) ≡ true
    counts o = and_from (o.epoch == o.epoch) (o.count == o.count) (same_number o.epoch) (same_number o.count)

    uncounted : (o : Option OrderNo) → order_number m.body ≡ o → order_number m.body ≡ None
    uncounted None is = is
    uncounted (Some order) is =
        let whole = count-cons (λ (x : Message). is_number order.epoch order.count (order_number x.body)) m ms in
        let none = h order.epoch order.count in
        let one : tally (is_number order.epoch order.count (order_number m.body)) ≡ 1 = ap (λ (o : Option OrderNo). tally (is_number order.epoch order.count o)) is ∙ ap tally (counts order) in
        absurd (omega (arith, whole, none, one))

-- numbers change no count of bodies
count-stamped : (f : Body → Bool) (k : ℕ) (ms : List Message) → count_by (λ (m : Message). f m.body) (stamped k ms) ≡ count_by (λ (m : Message). f m.body) ms
count-stamped f k [] = refl
count-stamped f k (m ∷ ms) =
    let one = count-cons (λ (x : Message). f x.body) (record m { number = k }) (stamped (suc k) ms) in
    let two = count-cons (λ (x : Message). f x.body) m ms in
    let rest = count-stamped f (suc k) ms in
    omega (arith, one, two, rest)

-- what a step sends, in the chosen order and with its numbers
pub count-sent : (f : Body → Bool) (k : ℕ) (sent : List Message) (order : List ℕ) (ms : List Message)
    → count_by (λ (m : Message). f m.body) (sent ++ stamped k (in_order order ms)) ≡ count_by (λ (m : Message). f m.body) sent + count_by (λ (m : Message). f m.body) ms
count-sent f k sent order ms =
    let one = count-append (λ (x : Message). f x.body) sent (stamped k (in_order order ms)) in
    let two = count-stamped f k (in_order order ms) in
    let three = count-in_order (λ (x : Message). f x.body) order ms in
    omega (arith, one, two, three)

-- servers and clients send no order

quiet_keeps : KeepsServer (λ b. Unit {0}) (λ c. HasNoOrder c.sent)
quiet_keeps =
    record {
      says = λ c receiver b quiet h e n. one_more c.sent (the_server c.id) receiver b (no_order b quiet) e n ∙ h e n;
      stores = λ c x is h. h;
      takes = λ c order new h. h;
      holds = λ c leases from h. h;
      grants = λ c order handle version end_moment members came new h. h;
      extends = λ c handle version end_moment p came at same h. h;
      revokes = λ c order handle version leases came new from none h e n. one_more c.sent (the_server c.id) node.Master (body.Revoked handle version) refl e n ∙ h e n;
    }

in_order_quiet : (order : List ℕ) (ms : List Message) → HasNoOrder ms → HasNoOrder (in_order order ms)
in_order_quiet order ms h e n = count-in_order (λ (x : Message). is_number e n (order_number x.body)) order ms ∙ h e n

all_came : (i : NodeInput) → IsCameIn (λ b. Unit {0}) i
all_came (input.Deliver m) = tt
all_came input.Tick = tt

server_ends_quiet : (s : ServerState) (d : ServerDoing) (choice : Choice) (e : Ending) → HasNoOrder d.sent → HasNoOrder (server_ends s d choice e).out.sent
server_ends_quiet s d choice Goes h = in_order_quiet choice.order d.sent h
server_ends_quiet s d choice Lost h = no_orders
server_ends_quiet s d choice (Stops made) h = no_orders

pub server_quiet : (s : ServerState) (moment : ℕ) (i : NodeInput) (choice : Choice) → HasNoOrder (server_step s moment i choice).out.sent
server_quiet s moment i choice =
    on_cond (λ (t : Taken ServerState). HasNoOrder t.out.sent) s.up (server_ends s (server_goes s moment i) choice choice.ending) (no_step s)
    (λ _. server_ends_quiet s (server_goes s moment i) choice choice.ending (server_goes_holds (λ b. Unit {0}) (λ c. HasNoOrder c.sent) quiet_keeps s moment i (all_came i) no_orders)) (λ _. no_orders)

pub server_restarts_quiet : (s : ServerState) (moment : ℕ) (choice : Choice) (e : Ending) → HasNoOrder (server_restarts s moment choice e).out.sent
server_restarts_quiet s moment choice Goes = no_orders
server_restarts_quiet s moment choice Lost = no_orders
server_restarts_quiet s moment choice (Stops made) = no_orders

-- worlds

abbrev pub IsInputSent : List Message → NodeInput → Type 0
IsInputSent sent (input.Deliver m) = (place : ℕ) × (element_at sent place ≡ Some m)
IsInputSent sent input.Tick = Unit {0}

pub record IsKeptBySent (Q : List Message → MasterState → Type 0) : Type 0 where
  pub new : (config : Config) (servers : ℕ) → Q [] (new_master config servers)
  -- servers and clients send no order
  pub quiet : (sent ms : List Message) (k : ℕ) (m : MasterState) → HasNoOrder ms → Q sent m → Q (sent ++ stamped k ms) m
  pub steps : (sent : List Message) (k : ℕ) (m : MasterState) (moment : ℕ) (i : NodeInput) (choice : Choice) → IsInputSent sent i → Q sent m
      → Q (sent ++ stamped k (master_step m moment i choice).out.sent) (master_step m moment i choice).state
  pub restarts : (sent : List Message) (k : ℕ) (m : MasterState) (moment : ℕ) (choice : Choice) → Q sent m
      → Q (sent ++ stamped k (master_restart m moment choice).out.sent) (master_restart m moment choice).state

module _ (Q : List Message → MasterState → Type 0) (k : IsKeptBySent Q) where
  abbrev IsSo : WorldState → Type 0
  IsSo w = Q w.sent w.master

  abbrev Here : Happened → Type 0
  Here x = IsSo x.world

  master_moves_kept : (w : WorldState) (moment : ℕ) (i : NodeInput) (choice : Choice) → IsInputSent w.sent i → IsSo w → Here (master_moves w moment i choice)
  master_moves_kept w moment i choice is h =
      on_cond Here w.master.up (after_master w moment (master_step w.master moment i choice)) (nothing_happens w)
      (λ _. k.steps w.sent (suc (length w.sent)) w.master moment i choice is h) (λ _. h)

  server_moves_kept : (w : WorldState) (index moment : ℕ) (i : NodeInput) (choice : Choice) (o : Option ServerState) → IsSo w → Here (server_moves w index moment i choice o)
  server_moves_kept w index moment i choice None h = h
  server_moves_kept w index moment i choice (Some s) h =
      on_cond Here s.up (after_server w index moment (server_step s moment i choice)) (nothing_happens w)
      (λ _. k.quiet w.sent (server_step s moment i choice).out.sent (suc (length w.sent)) w.master (server_quiet s moment i choice) h) (λ _. h)

  client_moves_kept : (w : WorldState) (index moment : ℕ) (i : NodeInput) (choice : Choice) (o : Option ClientState) → IsSo w → Here (client_moves w index moment i choice o)
  client_moves_kept w index moment i choice None h = h
  client_moves_kept w index moment i choice (Some s) h =
      on_cond Here s.up (after_client w index moment (client_step s moment i choice)) (nothing_happens w)
      (λ _. k.quiet w.sent (client_step s moment i choice).out.sent (suc (length w.sent)) w.master (quiet_orders (client_step s moment i choice).out.sent (client_quiet s moment i choice)) h) (λ _. h)

  moves_kept : (w : WorldState) (n : Node) (moment : ℕ) (i : NodeInput) (choice : Choice) → IsInputSent w.sent i → IsSo w → Here (moves w n moment i choice)
  moves_kept w node.Master moment i choice is h = master_moves_kept w moment i choice is h
  moves_kept w (node.Server s) moment i choice is h = server_moves_kept w (s.0 - 1) moment i choice (numbered_from_1 w.servers s.0) h
  moves_kept w (node.Client c) moment i choice is h = client_moves_kept w (c.0 - 1) moment i choice (numbered_from_1 w.clients c.0) h

  delivered_kept : (w : WorldState) (number moment : ℕ) (choice : Choice) (o : Option Message) → numbered_from_1 w.sent number ≡ o → IsSo w → Here (delivered w moment choice o)
  delivered_kept w number moment choice None is h = h
  delivered_kept w number moment choice (Some m) is h = moves_kept w m.receiver moment (input.Deliver m) choice (number - 1, element_numbered w.sent number m is) h

  server_restarts_kept : (w : WorldState) (index moment : ℕ) (choice : Choice) (o : Option ServerState) → IsSo w → Here (server_restarts_at w index moment choice o)
  server_restarts_kept w index moment choice None h = h
  server_restarts_kept w index moment choice (Some s) h =
      k.quiet w.sent (server_restart s moment choice).out.sent (suc (length w.sent)) w.master (server_restarts_quiet s moment choice choice.ending) h

  restarts_kept : (w : WorldState) (n : Node) (moment : ℕ) (choice : Choice) → IsSo w → Here (restarts w n moment choice)
  restarts_kept w node.Master moment choice h = k.restarts w.sent (suc (length w.sent)) w.master moment choice h
  restarts_kept w (node.Server s) moment choice h = server_restarts_kept w (s.0 - 1) moment choice (numbered_from_1 w.servers s.0) h
  restarts_kept w (node.Client c) moment choice h = h

  calls_kept : (w : WorldState) (index moment : ℕ) (c : Call) (choice : Choice) (o : Option ClientState) → IsSo w → Here (call_moves w index moment c choice o)
  calls_kept w index moment c choice None h = h
  calls_kept w index moment c choice (Some s) h =
      on_cond Here (may_call s) _ (nothing_happens w)
      (λ _. k.quiet w.sent (client_call s moment c choice).out.sent (suc (length w.sent)) w.master (quiet_orders (client_call s moment c choice).out.sent (call_quiet s moment c choice)) h) (λ _. h)

  rots_replica_kept : (w : WorldState) (index : ℕ) (s : ServerState) (handle place byte : ℕ) (choice : Choice) (o : Option Replica) → IsSo w
      → Here (rots_replica w index s handle place byte choice o)
  rots_replica_kept w index s handle place byte choice None h = h
  rots_replica_kept w index s handle place byte choice (Some r) h = h

  rots_kept : (w : WorldState) (index handle place byte : ℕ) (choice : Choice) (o : Option ServerState) → IsSo w → Here (rots_on w index handle place byte choice o)
  rots_kept w index handle place byte choice None h = h
  rots_kept w index handle place byte choice (Some s) h =
      on_cond Here (s.up && nat_lt place w.config.chunk) (rots_replica w index s handle place byte choice (replica_of s.disk handle)) (nothing_happens w)
      (λ _. rots_replica_kept w index s handle place byte choice (replica_of s.disk handle) h) (λ _. h)

  at_moment_kept : (w : WorldState) (moment : ℕ) (x : Happened) → IsSo w → Here x → Here (at_moment w moment x)
  at_moment_kept w moment x h g = on_cond Here (nat_le moment moment_limit) x (nothing_happens w) (λ _. g) (λ _. h)

  happens_kept : (w : WorldState) (e : Event) (choice : Choice) → IsSo w → Here (happens w e choice)
  happens_kept w (event.Call client c now) choice h =
      at_moment_kept w now.0 (call_moves w (client.0 - 1) now.0 c choice (numbered_from_1 w.clients client.0)) h (calls_kept w (client.0 - 1) now.0 c choice (numbered_from_1 w.clients client.0) h)
  happens_kept w (event.Deliver number now) choice h =
      at_moment_kept w now.0 (delivered w now.0 choice (numbered_from_1 w.sent number)) h (delivered_kept w number now.0 choice (numbered_from_1 w.sent number) refl h)
  happens_kept w (event.Tick n now) choice h = at_moment_kept w now.0 (moves w n now.0 input.Tick choice) h (moves_kept w n now.0 input.Tick choice tt h)
  happens_kept w (event.Restart n now) choice h = at_moment_kept w now.0 (restarts w n now.0 choice) h (restarts_kept w n now.0 choice h)
  happens_kept w (event.Rot server handle place byte) choice h = rots_kept w (server.0 - 1) handle.0 place byte choice (numbered_from_1 w.servers server.0) h
  happens_kept w (event.Fuse n count torn) choice h = h

  events_kept : (w : WorldState) (steps : List (Event × Choice)) → IsSo w → IsSo (after_events w steps)
  events_kept w [] h = h
  events_kept w (step ∷ rest) h = events_kept (happens w step.0 step.1).world rest (happens_kept w step.0 step.1 h)

  pub sent_reached : (config : Config) (servers clients : ℕ) (w : WorldState) → IsReached config servers clients w → Q w.sent w.master
  sent_reached config servers clients w r =
      subst (λ (v : WorldState). Q v.sent v.master) r.1 (events_kept (new_world config servers clients) r.0 (k.new config servers))
