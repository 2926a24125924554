-- The world in which a master that opens has stopped at once: all is as before, but that its log is decided.
use Rattle.std.proofs.Common.{◌≡◌, ℕ, suc, ◌+◌, ◌-◌, ◌≤◌, Bool, List, [], ◌∷◌, Option, Some, None, is_some, refl, sym, ap, subst, ◌∙◌, arith}
use Rattle.std.specs.Prelude.{nat_lt, nat_le, ◌&&◌, max, IsTrue}
use Rattle.std.proofs.lemmas.Bool.{leb-true, leb-false}
use Rattle.std.proofs.lemmas.List.{append-nil}
use Rattle.std.proofs.Math.Nat.{le-max_left, le-max_right, max-le}
use Rattle.gfs_types.specs.declared.config.Config.{Config}
use Rattle.gfs_types.specs.declared.ids.Node.{Node}
use Rattle.gfs_types.specs.declared.ids.Node.TheVariants as node
use Rattle.gfs_types.specs.declared.call.Call.{Call}
use Rattle.gfs_types.specs.declared.answer.Answer.{Answer}
use Rattle.messages.specs.declared.message.Message.{Message}
use Rattle.messages.specs.declared.event.Event.{Event}
use Rattle.messages.specs.declared.event.Event.TheVariants as event
use Rattle.messages.specs.declared.event.NodeInput.{NodeInput}
use Rattle.messages.specs.declared.event.NodeInput.TheVariants as input
use Rattle.chunk_table.specs.ChunkTable.{ChunkTable}
use Rattle.protocol.specs.Tables.{moment_limit}
use Rattle.protocol.specs.Choice.{Choice, Stops}
use Rattle.protocol.specs.Logged.{replayed}
use Rattle.replica_store.specs.Replicas.{Replica, replica_of}
use Rattle.protocol.specs.Observer.{Observer, observed_moment, observed_answer}
use Rattle.protocol.specs.Server.{ServerState}
use Rattle.protocol.specs.ServerStep.{server_step}
use Rattle.protocol.specs.MasterStep.{master_step, master_restart}
use Rattle.protocol.specs.Client.{ClientState}
use Rattle.protocol.specs.ClientStep.{may_call, client_step, client_call}
use Rattle.protocol.specs.World.{WorldState, Happened, new_world, nothing_happens, numbered_from_1, after_master, after_server, after_client, server_moves, client_moves, moves, delivered, server_restarts_at, restarts, call_moves, rots_replica, rots_on, at_moment, happens, after_events, IsReached}
use Rattle.laws_base.specs.Laws.{HasAllReferences}
use Rattle.laws_base.proofs.Steps.{on_cond}
use Rattle.laws_base.proofs.Owners.{references_of, has_row, AreCounted}
use Rattle.laws_base.proofs.CountsKept.{restart_counted}
use Rattle.laws_base.proofs.SentReached.{sent_reached}
use Rattle.laws_base.specs.Versions.{IsLeaseOver}
use Rattle.laws_base.proofs.LeasesStayOver.{AreOverAt, over_to, over_of, reached_later}
use Rattle.laws_base.proofs.WaitsKept.{IsOfWaits, waits_kept}
use Rattle.laws_machine.specs.Rounds.{log_as}

-- no moment is past the limit

abbrev IsUpTo : WorldState → ℕ → Happened → Type 0
IsUpTo w moment h = h.world.observer.greatest ≤ max w.observer.greatest moment

same_greatest : (o : Observer) (client : ℕ) (a : Option Answer) → (observed_answer o client a).greatest ≡ o.greatest
same_greatest o client None = refl
same_greatest o client (Some a) = refl

module _ (w : WorldState) (moment : ℕ) where
  stays : IsUpTo w moment (nothing_happens w)
  stays = le-max_left w.observer.greatest moment

  client_passes : (o : Observer) (client : ℕ) (a : Option Answer) → o.greatest ≤ max w.observer.greatest moment → (observed_answer o client a).greatest ≤ max w.observer.greatest moment
  client_passes o client a low = let same = same_greatest o client a in omega (arith, same, low)

  just : max w.observer.greatest moment ≤ max w.observer.greatest moment
  just = omega arith

  twice : max (max w.observer.greatest moment) moment ≤ max w.observer.greatest moment
  twice = max-le just (le-max_right w.observer.greatest moment)

  server_passes : (index : ℕ) (i : NodeInput) (choice : Choice) (o : Option ServerState) → IsUpTo w moment (server_moves w index moment i choice o)
  server_passes index i choice None = stays
  server_passes index i choice (Some s) = on_cond (IsUpTo w moment) s.up (after_server w index moment (server_step s moment i choice)) (nothing_happens w) (λ _. just) (λ _. stays)

  client_moved : (index : ℕ) (i : NodeInput) (choice : Choice) (o : Option ClientState) → IsUpTo w moment (client_moves w index moment i choice o)
  client_moved index i choice None = stays
  client_moved index i choice (Some s) =
      on_cond (IsUpTo w moment) s.up (after_client w index moment (client_step s moment i choice)) (nothing_happens w)
      (λ _. client_passes (observed_moment w.config.skew_ms w.observer moment) (suc index) (client_step s moment i choice).out.answer just) (λ _. stays)

  moved : (n : Node) (i : NodeInput) (choice : Choice) → IsUpTo w moment (moves w n moment i choice)
  moved node.Master i choice = on_cond (IsUpTo w moment) w.master.up (after_master w moment (master_step w.master moment i choice)) (nothing_happens w) (λ _. just) (λ _. stays)
  moved (node.Server s) i choice = server_passes (s.0 - 1) i choice (numbered_from_1 w.servers s.0)
  moved (node.Client c) i choice = client_moved (c.0 - 1) i choice (numbered_from_1 w.clients c.0)

  delivery : (choice : Choice) (o : Option Message) → IsUpTo w moment (delivered w moment choice o)
  delivery choice None = stays
  delivery choice (Some m) = moved m.receiver (input.Deliver m) choice

  server_opens : (index : ℕ) (choice : Choice) (o : Option ServerState) → IsUpTo w moment (server_restarts_at w index moment choice o)
  server_opens index choice None = stays
  server_opens index choice (Some s) = just

  opened : (n : Node) (choice : Choice) → IsUpTo w moment (restarts w n moment choice)
  opened node.Master choice = just
  opened (node.Server s) choice = server_opens (s.0 - 1) choice (numbered_from_1 w.servers s.0)
  opened (node.Client c) choice = stays

  called : (index : ℕ) (c : Call) (choice : Choice) (o : Option ClientState) → IsUpTo w moment (call_moves w index moment c choice o)
  called index c choice None = stays
  called index c choice (Some s) =
      on_cond (IsUpTo w moment) (may_call s) _ (nothing_happens w) (λ _. client_passes _ (suc index) (client_call s moment c choice).out.answer twice) (λ _. stays)

  at_most : (h : Happened) → w.observer.greatest ≤ moment_limit → IsUpTo w moment h → (at_moment w moment h).world.observer.greatest ≤ moment_limit
  at_most h low up =
      on_cond (λ (x : Happened). x.world.observer.greatest ≤ moment_limit) (nat_le moment moment_limit) h (nothing_happens w)
      (λ early. let most : max w.observer.greatest moment ≤ moment_limit = max-le low (leb-true moment moment_limit early) in omega (arith, up, most)) (λ _. low)

rotten : (w : WorldState) (index handle place byte : ℕ) (choice : Choice) (o : Option ServerState) → (rots_on w index handle place byte choice o).world.observer.greatest ≡ w.observer.greatest
rotten w index handle place byte choice None = refl
rotten w index handle place byte choice (Some s) =
    on_cond (λ (x : Happened). x.world.observer.greatest ≡ w.observer.greatest) (s.up && nat_lt place w.config.chunk) (rots_replica w index s handle place byte choice (replica_of s.disk handle)) (nothing_happens w)
    (λ _. by_replica (replica_of s.disk handle)) (λ _. refl)
  where
    by_replica : (o : Option Replica) → (rots_replica w index s handle place byte choice o).world.observer.greatest ≡ w.observer.greatest
    by_replica None = refl
    by_replica (Some r) = refl

limited_next : (w : WorldState) (e : Event) (choice : Choice) → w.observer.greatest ≤ moment_limit → (happens w e choice).world.observer.greatest ≤ moment_limit
limited_next w (event.Call client c now) choice low = at_most w now.0 _ low (called w now.0 (client.0 - 1) c choice (numbered_from_1 w.clients client.0))
limited_next w (event.Deliver number now) choice low = at_most w now.0 _ low (delivery w now.0 choice (numbered_from_1 w.sent number))
limited_next w (event.Tick n now) choice low = at_most w now.0 _ low (moved w now.0 n input.Tick choice)
limited_next w (event.Restart n now) choice low = at_most w now.0 _ low (opened w now.0 n choice)
limited_next w (event.Rot server handle place byte) choice low = let same = rotten w (server.0 - 1) handle.0 place byte choice (numbered_from_1 w.servers server.0) in omega (arith, same, low)
limited_next w (event.Fuse n count torn) choice low = low

limited_on : (w : WorldState) (steps : List (Event × Choice)) → w.observer.greatest ≤ moment_limit → (after_events w steps).observer.greatest ≤ moment_limit
limited_on w [] low = low
limited_on w (step ∷ rest) low = limited_on (happens w step.0 step.1).world rest (limited_next w step.0 step.1 low)

pub moments_are_limited : (config : Config) (servers clients : ℕ) (w : WorldState) → IsReached config servers clients w → w.observer.greatest ≤ moment_limit
moments_are_limited config servers clients w r = subst (λ (v : WorldState). v.observer.greatest ≤ moment_limit) r.1 (limited_on (new_world config servers clients) r.0 (omega arith))

-- the log is decided

pub record IsDecided (config : Config) (servers clients : ℕ) (w v : WorldState) (decided : List Bool) : Type 0 where
  pub reached : IsReached config servers clients v
  pub clocks : IsTrue v.observer.are_clocks_kept
  pub log : replayed v.master.disk ≡ log_as w.master decided
  pub servers_are : v.servers ≡ w.servers
  pub sent : v.sent ≡ w.sent
  pub greatest : v.observer.greatest ≡ w.observer.greatest

module _ (config : Config) (servers clients : ℕ) (w : WorldState) (r : IsReached config servers clients w) (kept : IsTrue w.observer.are_clocks_kept) (decided : List Bool) where
  abbrev stopping : Choice
  stopping = record { ending = Stops 0; order = []; refused = []; decided = decided }

  abbrev opens : Event
  opens = event.Restart node.Master (record { 0 = w.observer.greatest })

  abbrev stopped : WorldState
  stopped = (after_master w w.observer.greatest (master_restart w.master w.observer.greatest stopping)).world

  it_happens : (happens w opens stopping).world ≡ stopped
  it_happens =
      on_cond (λ (x : Happened). x.world ≡ stopped) (nat_le w.observer.greatest moment_limit) (after_master w w.observer.greatest (master_restart w.master w.observer.greatest stopping)) (nothing_happens w)
      (λ _. refl) (λ late. absurd (let low = moments_are_limited config servers clients w r in let high = leb-false w.observer.greatest moment_limit late in omega (arith, high, low)))

  pub decided_world : IsDecided config servers clients w stopped decided
  decided_world = record {
    reached = subst (λ (v : WorldState). IsReached config servers clients v) it_happens (reached_later config servers clients w ((opens, stopping) ∷ []) r);
    clocks = ap (λ (b : Bool). b && nat_le w.observer.greatest (w.observer.greatest + w.config.skew_ms)) kept ∙ grind arith;
    log = refl;
    servers_are = refl;
    sent = append-nil w.sent;
    greatest = grind arith;
  }

module _ (config : Config) (servers clients : ℕ) (w v : WorldState) (decided : List Bool) (d : IsDecided config servers clients w v decided) where
  pub over_in : (handle version : ℕ) → IsLeaseOver v handle version → IsLeaseOver w handle version
  over_in handle version over =
      over_of w handle version
      (subst (λ (ms : List Message). AreOverAt handle version 0 ms w.observer.greatest w.servers) d.sent
      (subst (λ (n : ℕ). AreOverAt handle version 0 v.sent n w.servers) d.greatest (subst (λ (ss : List ServerState). AreOverAt handle version 0 v.sent v.observer.greatest ss) d.servers_are (over_to v handle version over))))

-- references are counted in each log

all_references : (t : ChunkTable) → AreCounted t → HasAllReferences t
all_references t h = (
  λ handle row is. sym (ap references_of is) ∙ h handle,
  λ handle more. let has = has_row t.chunks handle (let same = h handle in omega (arith, same, more)) in ap is_some has.1,
)

pub counted_in_each : (config : Config) (servers clients : ℕ) (w : WorldState) → IsReached config servers clients w → (decided : List Bool) → HasAllReferences (log_as w.master decided).table
counted_in_each config servers clients w r decided =
    let good = (sent_reached IsOfWaits waits_kept config servers clients w r).base.logged.found decided in
    all_references (log_as w.master decided).table (restart_counted _ good.1.base).counted
