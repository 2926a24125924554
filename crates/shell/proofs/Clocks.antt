-- Where no moment is before an earlier one, clocks are kept.
use Rattle.std.proofs.Common.{ℕ, ◌+◌, ◌-◌, ◌≤◌, suc, Option, Some, None, arith}
use Rattle.std.specs.Prelude.{◌&&◌, nat_le, nat_lt, max, IsTrue}
use Rattle.std.proofs.lemmas.Bool.{and_from, cond_both, le-leb}
use Rattle.gfs_types.specs.declared.answer.Answer.{Answer}
use Rattle.gfs_types.specs.declared.call.Call.{Call}
use Rattle.gfs_types.specs.declared.ids.Node.{Node}
use Rattle.gfs_types.specs.declared.ids.Node.TheVariants as node
use Rattle.messages.specs.declared.event.Event.{Event}
use Rattle.messages.specs.declared.event.Event.TheVariants as event
use Rattle.messages.specs.declared.event.NodeInput.{NodeInput}
use Rattle.messages.specs.declared.event.NodeInput.TheVariants as input
use Rattle.messages.specs.declared.message.Message.{Message}
use Rattle.replica_store.specs.Replicas.{Replica, replica_of}
use Rattle.protocol.specs.Tables.{moment_limit}
use Rattle.protocol.specs.Choice.{Choice}
use Rattle.protocol.specs.Seen.{Taken}
use Rattle.protocol.specs.Observer.{Observer, observed_moment, observed_call, observed_answer}
use Rattle.protocol.specs.Client.{ClientState}
use Rattle.protocol.specs.ClientStep.{may_call, client_call, client_step}
use Rattle.protocol.specs.Master.{MasterState}
use Rattle.protocol.specs.MasterStep.{master_step, master_restart}
use Rattle.protocol.specs.Server.{ServerState}
use Rattle.protocol.specs.ServerStep.{server_step, server_restart}
use Rattle.protocol.specs.World.{WorldState, Happened, nothing_happens, numbered_from_1, after_master, after_server, after_client, server_moves, client_moves, moves, delivered, server_restarts_at, restarts, call_moves, rots_replica, rots_on, at_moment, happens}
use Rattle.cell_simulator.specs.Steps.{moment_of}

-- clocks were kept, and no moment so far is past this one
pub record AreClocksKept (o : Observer) (moment : ℕ) : Type 0 where
  pub kept : IsTrue o.are_clocks_kept
  pub behind : o.greatest ≤ moment

pub later : (o : Observer) (from to : ℕ) → from ≤ to → AreClocksKept o from → AreClocksKept o to
later o from to le k = record { kept = k.kept; behind = omega (arith, le, k.behind) }

observed : (skew : ℕ) (o : Observer) (from to : ℕ) → from ≤ to → AreClocksKept o from → AreClocksKept (observed_moment skew o to) to
observed skew o from to le k =
    let early : o.greatest ≤ to + skew = omega (arith, le, k.behind) in
    let most : max o.greatest to ≤ to = omega (arith, le, k.behind) in
    record { kept = and_from o.are_clocks_kept (nat_le o.greatest (to + skew)) k.kept (le-leb o.greatest (to + skew) early); behind = most }

answered : (o : Observer) (client : ℕ) (answer : Option Answer) (moment : ℕ) → AreClocksKept o moment → AreClocksKept (observed_answer o client answer) moment
answered o client None moment k = k
answered o client (Some reply) moment k = record { kept = k.kept; behind = k.behind }

module _ (w : WorldState) (from to : ℕ) (le : from ≤ to) (k : AreClocksKept w.observer from) where
  abbrev After : Happened → Type 0
  After h = AreClocksKept h.world.observer to

  nothing : After (nothing_happens w)
  nothing = later w.observer from to le k

  seen : AreClocksKept (observed_moment w.config.skew_ms w.observer to) to
  seen = observed w.config.skew_ms w.observer from to le k

  by_master : (t : Taken MasterState) → After (after_master w to t)
  by_master t = record { kept = seen.kept; behind = seen.behind }

  by_server : (index : ℕ) (t : Taken ServerState) → After (after_server w index to t)
  by_server index t = record { kept = seen.kept; behind = seen.behind }

  by_client : (index : ℕ) (t : Taken ClientState) → After (after_client w index to t)
  by_client index t = answered (observed_moment w.config.skew_ms w.observer to) (suc index) t.out.answer to seen

  server_moved : (index : ℕ) (i : NodeInput) (choice : Choice) (o : Option ServerState) → After (server_moves w index to i choice o)
  server_moved index i choice None = nothing
  server_moved index i choice (Some s) =
      cond_both s.up (after_server w index to (server_step s to i choice)) (nothing_happens w) After (λ _. by_server index (server_step s to i choice)) (λ _. nothing)

  client_moved : (index : ℕ) (i : NodeInput) (choice : Choice) (o : Option ClientState) → After (client_moves w index to i choice o)
  client_moved index i choice None = nothing
  client_moved index i choice (Some s) =
      cond_both s.up (after_client w index to (client_step s to i choice)) (nothing_happens w) After (λ _. by_client index (client_step s to i choice)) (λ _. nothing)

  moved : (n : Node) (i : NodeInput) (choice : Choice) → After (moves w n to i choice)
  moved node.Master i choice =
      cond_both w.master.up (after_master w to (master_step w.master to i choice)) (nothing_happens w) After (λ _. by_master (master_step w.master to i choice)) (λ _. nothing)
  moved (node.Server s) i choice = server_moved (s.0 - 1) i choice (numbered_from_1 w.servers s.0)
  moved (node.Client c) i choice = client_moved (c.0 - 1) i choice (numbered_from_1 w.clients c.0)

  delivered_so : (choice : Choice) (o : Option Message) → After (delivered w to choice o)
  delivered_so choice None = nothing
  delivered_so choice (Some m) = moved m.receiver (input.Deliver m) choice

  server_restarted : (index : ℕ) (choice : Choice) (o : Option ServerState) → After (server_restarts_at w index to choice o)
  server_restarted index choice None = nothing
  server_restarted index choice (Some s) = by_server index (server_restart s to choice)

  restarted : (n : Node) (choice : Choice) → After (restarts w n to choice)
  restarted node.Master choice = by_master (master_restart w.master to choice)
  restarted (node.Server s) choice = server_restarted (s.0 - 1) choice (numbered_from_1 w.servers s.0)
  restarted (node.Client c) choice = nothing

  called : (index : ℕ) (c : Call) (choice : Choice) (o : Option ClientState) → After (call_moves w index to c choice o)
  called index c choice None = nothing
  called index c choice (Some s) =
      let heard : Observer = observed_call (observed_moment w.config.skew_ms w.observer to) (suc index) c in
      let again : AreClocksKept (observed_moment w.config.skew_ms heard to) to = observed w.config.skew_ms heard to to (omega arith) (record { kept = seen.kept; behind = seen.behind }) in
      cond_both (may_call s) (after_client (record w { observer = heard }) index to (client_call s to c choice)) (nothing_happens w) After
      (λ _. answered (observed_moment w.config.skew_ms heard to) (suc index) (client_call s to c choice).out.answer to again) (λ _. nothing)

  in_time : (h : Happened) → After h → After (at_moment w to h)
  in_time h after = cond_both (nat_le to moment_limit) h (nothing_happens w) After (λ _. after) (λ _. nothing)

-- a byte that rots gives no moment
module _ (w : WorldState) (moment : ℕ) (k : AreClocksKept w.observer moment) where
  replica_rotted : (index : ℕ) (s : ServerState) (handle place byte : ℕ) (choice : Choice) (o : Option Replica) → AreClocksKept (rots_replica w index s handle place byte choice o).world.observer moment
  replica_rotted index s handle place byte choice None = k
  replica_rotted index s handle place byte choice (Some r) = record { kept = k.kept; behind = k.behind }

  rotted : (index handle place byte : ℕ) (choice : Choice) (o : Option ServerState) → AreClocksKept (rots_on w index handle place byte choice o).world.observer moment
  rotted index handle place byte choice None = k
  rotted index handle place byte choice (Some s) =
      cond_both (s.up && nat_lt place w.config.chunk) (rots_replica w index s handle place byte choice (replica_of s.disk handle)) (nothing_happens w) (λ h. AreClocksKept h.world.observer moment)
      (λ _. replica_rotted index s handle place byte choice (replica_of s.disk handle)) (λ _. k)

-- one event on
pub clocks_kept : (w : WorldState) (e : Event) (choice : Choice) (clock : ℕ) → clock ≤ moment_of clock e → AreClocksKept w.observer clock → AreClocksKept (happens w e choice).world.observer (moment_of clock e)
clocks_kept w (event.Call client c now) choice clock le k =
    in_time w clock now.0 le k (call_moves w (client.0 - 1) now.0 c choice (numbered_from_1 w.clients client.0)) (called w clock now.0 le k (client.0 - 1) c choice (numbered_from_1 w.clients client.0))
clocks_kept w (event.Deliver number now) choice clock le k =
    in_time w clock now.0 le k (delivered w now.0 choice (numbered_from_1 w.sent number)) (delivered_so w clock now.0 le k choice (numbered_from_1 w.sent number))
clocks_kept w (event.Tick n now) choice clock le k = in_time w clock now.0 le k (moves w n now.0 input.Tick choice) (moved w clock now.0 le k n input.Tick choice)
clocks_kept w (event.Restart n now) choice clock le k = in_time w clock now.0 le k (restarts w n now.0 choice) (restarted w clock now.0 le k n choice)
clocks_kept w (event.Rot server handle place byte) choice clock le k = rotted w clock k (server.0 - 1) handle.0 place byte choice (numbered_from_1 w.servers server.0)
clocks_kept w (event.Fuse n count torn) choice clock le k = k
