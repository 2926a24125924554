-- What every step and restart of the master keeps holds in every world that is reached.
use Rattle.std.proofs.Common.{ℕ, ◌-◌, List, [], ◌∷◌, Option, Some, None, subst}
use Rattle.std.specs.Prelude.{nat_lt, nat_le, ◌&&◌}
use Rattle.gfs_types.specs.declared.config.Config.{Config}
use Rattle.gfs_types.specs.declared.ids.Node.{Node}
use Rattle.gfs_types.specs.declared.ids.Node.TheVariants as node
use Rattle.gfs_types.specs.declared.call.Call.{Call}
use Rattle.messages.specs.declared.message.Message.{Message}
use Rattle.messages.specs.declared.event.Event.{Event}
use Rattle.messages.specs.declared.event.Event.TheVariants as event
use Rattle.messages.specs.declared.event.NodeInput.{NodeInput}
use Rattle.messages.specs.declared.event.NodeInput.TheVariants as input
use Rattle.protocol.specs.Tables.{moment_limit}
use Rattle.protocol.specs.Choice.{Choice}
use Rattle.replica_store.specs.Replicas.{Replica, replica_of}
use Rattle.protocol.specs.Server.{ServerState}
use Rattle.protocol.specs.Client.{ClientState}
use Rattle.protocol.specs.ClientStep.{may_call}
use Rattle.protocol.specs.Master.{MasterState}
use Rattle.protocol.specs.MasterStep.{master_step, master_restart, new_master}
use Rattle.protocol.specs.World.{WorldState, Happened, new_world, nothing_happens, numbered_from_1, after_master, server_moves, client_moves, moves, delivered, server_restarts_at, restarts, call_moves, rots_replica, rots_on, at_moment, happens, after_events, IsReached}
use Rattle.laws_base.proofs.Steps.{on_cond}

pub record IsKeptByMaster (Q : MasterState → Type 0) : Type 0 where
  pub new : (config : Config) (servers : ℕ) → Q (new_master config servers)
  pub steps : (m : MasterState) (moment : ℕ) (i : NodeInput) (choice : Choice) → Q m → Q (master_step m moment i choice).state
  pub restarts : (m : MasterState) (moment : ℕ) (choice : Choice) → Q m → Q (master_restart m moment choice).state

module _ (Q : MasterState → Type 0) (k : IsKeptByMaster Q) where
  abbrev Here : Happened → Type 0
  Here x = Q x.world.master

  server_moves_here : (w : WorldState) (index moment : ℕ) (i : NodeInput) (choice : Choice) (o : Option ServerState) → Q w.master → Here (server_moves w index moment i choice o)
  server_moves_here w index moment i choice None h = h
  server_moves_here w index moment i choice (Some s) h = on_cond Here s.up _ (nothing_happens w) (λ _. h) (λ _. h)

  client_moves_here : (w : WorldState) (index moment : ℕ) (i : NodeInput) (choice : Choice) (o : Option ClientState) → Q w.master → Here (client_moves w index moment i choice o)
  client_moves_here w index moment i choice None h = h
  client_moves_here w index moment i choice (Some c) h = on_cond Here c.up _ (nothing_happens w) (λ _. h) (λ _. h)

  moves_here : (w : WorldState) (n : Node) (moment : ℕ) (i : NodeInput) (choice : Choice) → Q w.master → Here (moves w n moment i choice)
  moves_here w node.Master moment i choice h =
      on_cond Here w.master.up (after_master w moment (master_step w.master moment i choice)) (nothing_happens w) (λ _. k.steps w.master moment i choice h) (λ _. h)
  moves_here w (node.Server s) moment i choice h = server_moves_here w (s.0 - 1) moment i choice (numbered_from_1 w.servers s.0) h
  moves_here w (node.Client c) moment i choice h = client_moves_here w (c.0 - 1) moment i choice (numbered_from_1 w.clients c.0) h

  delivered_here : (w : WorldState) (moment : ℕ) (choice : Choice) (o : Option Message) → Q w.master → Here (delivered w moment choice o)
  delivered_here w moment choice None h = h
  delivered_here w moment choice (Some m) h = moves_here w m.receiver moment (input.Deliver m) choice h

  server_restarts_here : (w : WorldState) (index moment : ℕ) (choice : Choice) (o : Option ServerState) → Q w.master → Here (server_restarts_at w index moment choice o)
  server_restarts_here w index moment choice None h = h
  server_restarts_here w index moment choice (Some s) h = h

  restarts_here : (w : WorldState) (n : Node) (moment : ℕ) (choice : Choice) → Q w.master → Here (restarts w n moment choice)
  restarts_here w node.Master moment choice h = k.restarts w.master moment choice h
  restarts_here w (node.Server s) moment choice h = server_restarts_here w (s.0 - 1) moment choice (numbered_from_1 w.servers s.0) h
  restarts_here w (node.Client c) moment choice h = h

  calls_here : (w : WorldState) (index moment : ℕ) (c : Call) (choice : Choice) (o : Option ClientState) → Q w.master → Here (call_moves w index moment c choice o)
  calls_here w index moment c choice None h = h
  calls_here w index moment c choice (Some s) h = on_cond Here (may_call s) _ (nothing_happens w) (λ _. h) (λ _. h)

  rots_replica_here : (w : WorldState) (index : ℕ) (s : ServerState) (handle place byte : ℕ) (choice : Choice) (o : Option Replica) → Q w.master
      → Here (rots_replica w index s handle place byte choice o)
  rots_replica_here w index s handle place byte choice None h = h
  rots_replica_here w index s handle place byte choice (Some r) h = h

  rots_here : (w : WorldState) (index handle place byte : ℕ) (choice : Choice) (o : Option ServerState) → Q w.master → Here (rots_on w index handle place byte choice o)
  rots_here w index handle place byte choice None h = h
  rots_here w index handle place byte choice (Some s) h =
      on_cond Here (s.up && nat_lt place w.config.chunk) (rots_replica w index s handle place byte choice (replica_of s.disk handle)) (nothing_happens w)
      (λ _. rots_replica_here w index s handle place byte choice (replica_of s.disk handle) h) (λ _. h)

  at_moment_here : (w : WorldState) (moment : ℕ) (x : Happened) → Q w.master → Here x → Here (at_moment w moment x)
  at_moment_here w moment x h g = on_cond Here (nat_le moment moment_limit) x (nothing_happens w) (λ _. g) (λ _. h)

  happens_here : (w : WorldState) (e : Event) (choice : Choice) → Q w.master → Here (happens w e choice)
  happens_here w (event.Call client c now) choice h =
      at_moment_here w now.0 (call_moves w (client.0 - 1) now.0 c choice (numbered_from_1 w.clients client.0)) h (calls_here w (client.0 - 1) now.0 c choice (numbered_from_1 w.clients client.0) h)
  happens_here w (event.Deliver number now) choice h =
      at_moment_here w now.0 (delivered w now.0 choice (numbered_from_1 w.sent number)) h (delivered_here w now.0 choice (numbered_from_1 w.sent number) h)
  happens_here w (event.Tick n now) choice h = at_moment_here w now.0 (moves w n now.0 input.Tick choice) h (moves_here w n now.0 input.Tick choice h)
  happens_here w (event.Restart n now) choice h = at_moment_here w now.0 (restarts w n now.0 choice) h (restarts_here w n now.0 choice h)
  happens_here w (event.Rot server handle place byte) choice h = rots_here w (server.0 - 1) handle.0 place byte choice (numbered_from_1 w.servers server.0) h
  happens_here w (event.Fuse n count torn) choice h = h

  events_here : (w : WorldState) (steps : List (Event × Choice)) → Q w.master → Q (after_events w steps).master
  events_here w [] h = h
  events_here w (step ∷ rest) h = events_here (happens w step.0 step.1).world rest (happens_here w step.0 step.1 h)

  pub reached_here : (config : Config) (servers clients : ℕ) (w : WorldState) → IsReached config servers clients w → Q w.master
  reached_here config servers clients w r =
      subst (λ (v : WorldState). Q v.master) r.1 (events_here (new_world config servers clients) r.0 (k.new config servers))
