-- A whole machine is beside a new world, and each event of a server keeps one beside the world.
use Rattle.std.proofs.Common.{◌≡◌, ℕ, suc, ◌-◌, Bool, max, List, [], ◌++◌, length, map, Option, Some, None, refl, sym, subst, ◌∙◌, inl, inr, arith}
use Rattle.std.specs.Prelude.{nat_lt, nat_le, ◌&&◌, IsTrue, IsFalse}
use Rattle.std.specs.List.{list_all}
use Rattle.std.specs.Ordering.{nat_cmp}
use Rattle.std.proofs.lemmas.Bool.{true≢false}
use Rattle.std.proofs.lemmas.List.{append-nil}
use Rattle.std.proofs.Math.Nat.{le-max_left}
use Rattle.std.specs.FinMap as table
use Rattle.gfs_types.specs.declared.config.Config.{Config}
use Rattle.gfs_types.specs.declared.ids.Node.{Node}
use Rattle.gfs_types.specs.declared.ids.Node.TheVariants as node
use Rattle.messages.specs.declared.event.Event.{Event}
use Rattle.messages.specs.declared.event.Event.TheVariants as event
use Rattle.messages.specs.declared.event.NodeInput.{NodeInput}
use Rattle.messages.specs.declared.event.NodeInput.TheVariants as input
use Rattle.messages.specs.declared.message.Message.{Message}
use Rattle.relaxed_file.specs.Machine.{Machine, new_machine}
use Rattle.relaxed_file.specs.Run.{Action, Visible, after_all, IsLawful, LeadsTo, IsReached, IsRunTo}
use Rattle.relaxed_file.proofs.Reached.{leads_on}
use Rattle.machine_names.specs.NameProjections.{AreNamesOf}
use Rattle.protocol.specs.Tables.{moment_limit, first_numbers}
use Rattle.protocol.specs.Choice.{Choice}
use Rattle.protocol.specs.Seen.{Taken}
use Rattle.protocol.specs.Logged.{Logged}
use Rattle.protocol.specs.Master.{MasterState, PendingSnapshot}
use Rattle.protocol.specs.Server.{ServerState}
use Rattle.protocol.specs.ServerStep.{server_step, server_restart}
use Rattle.protocol.specs.Client.{ClientState, new_client}
use Rattle.replica_store.specs.Replicas.{Replica, replica_of}
use Rattle.protocol.specs.World as world
use Rattle.protocol.specs.World.{WorldState, Happened, new_world, nothing_happens, numbered_from_1, stamped, after_server, server_moves, moves, delivered, server_restarts_at, restarts, rots_replica, rots_on, at_moment, happens, is_kept}
use Rattle.laws_base.proofs.Steps.{on_cond, none_some}
use Rattle.laws_base.proofs.MessagesSent.{IsSent, sent_cases, none_sent}
use Rattle.laws_base.specs.FileCalls.{IsNoWordOfNames}
use Rattle.laws_names.specs.Beside.{IsNamesBeside, AreClientsBeside}
use Rattle.laws_names.proofs.BesideClientsBeside.{passed_trace, says_else, all_on}
use Rattle.laws_names.proofs.Masters.{passed_last}
use Rattle.laws_names.proofs.ServerSilence.{AreSilent, server_silent, server_restart_silent}
use Rattle.laws_names.proofs.Worlds.{new_one, new_clients, new_names, passed_once, all_silent}
use Rattle.laws_machine.specs.ChunksAlike.{ChunkSides, moved}
use Rattle.laws_machine.specs.Rounds.{log_as}
use Rattle.laws_machine.specs.FileClients.{IsFileClient}
use Rattle.laws_machine.specs.SentRequests.{AreRequestsNumbered}
use Rattle.laws_machine.specs.ServerSteps.{is_of_entries}
use Rattle.laws_machine.specs.Tries.{AddsNumberedTries}
use Rattle.laws_machine.specs.ChunksBeside.{AreChunksBeside, IsMastersEvent}
use Rattle.laws_machine.specs.WholeWorlds.{AreWordsSo, AreFileClients, IsBeside, HasMachine, IsWholeWorld, NewWorldsAreWhole, IsServer, IsServersEvent, AreAnswersSo, AreServersTrue, ServersEventsKeepWorldsWhole}
use Rattle.laws_machine.proofs.ChunksBeside.{master_left, new_chunks_are_beside, other_events_keep_chunks_beside, same_files_keep_chunks_beside}
use Rattle.laws_machine.proofs.TriesRise.{same_files_add}
use Rattle.laws_machine.proofs.WholeMoves.{AllStay, GoesQuietly, quiet_run, entries_quiet, looks_quiet, looks_leave, run_goes_unseen, PassesBoth, both_pass}
use Rattle.laws_machine.proofs.ToldShapes.{shapes_on}
use Rattle.laws_machine.proofs.RoundSizes.{sizes_beside}

-- a new world

new_same : (config : Config) → AreNamesOf (new_machine config) (new_machine config)
new_same config = record { config = refl; clock = refl; names = refl; count = refl; files = λ file. refl; calls = λ client. tt; fds = λ client. refl }

new_files : (config : Config) (count : ℕ) → AreFileClients (map (new_client config) (first_numbers count)) (new_machine config)
new_files config count = λ index s at up.
    let one = new_one config (first_numbers count) index s at in
    subst (λ (t : ClientState). IsFileClient (new_machine config) (suc index) t) one.1
    (record { settings = refl; fds = refl; descriptors = λ fd. table.get-empty nat_cmp fd; kept = tt; places = tt; shapes = λ file f is. none_some f (sym (table.get-empty nat_cmp file) ∙ is); call = refl })

new_requests : (config : Config) (servers clients : ℕ) → AreRequestsNumbered config (new_world config servers clients) (new_machine config)
new_requests config servers clients = (
  record { servers = servers; clients = clients; steps = []; leads = refl; each = λ client place x at from. none_some x at; refused = λ index number place s x y at up current staged none. none_some y none },
  λ file index client made. ([], tt, tt, omega arith),
)

pub new_worlds_are_whole : NewWorldsAreWhole
new_worlds_are_whole config servers clients = record {
  state = λ up. (
    record { log = (new_world config servers clients).master.logged; gone = λ handle. None; orders = (new_world config servers clients).observer.orders; machine = new_machine config },
    refl,
    record {
      names = new_machine config;
      requests = λ q. None;
      named = new_names config servers;
      asking = new_clients config clients;
      run = ([], tt, refl, refl);
      same = new_same config;
      below = λ handle s none. none_some s none;
      chunks = new_chunks_are_beside config servers clients;
      files = new_files config clients;
      said = λ index s at up x none. none_sent x none;
      requests_are = new_requests config servers clients;
      shapes = record { opened = λ place number x file shape at is. none_some x at; located = λ client file l place t. none_some t.told t.sent_is };
      sized = λ handle version size g. none_some g.1 g.2;
    },
  );
  log = λ down. absurd (true≢false down);
}

-- what a server's event leaves, and what it says

record IsOfServers (w then_ : WorldState) : Type 0 where
  pub clients : then_.clients ≡ w.clients
  pub moment : ℕ
  pub trace : then_.observer.trace ≡ passed_trace w.observer.greatest moment w.observer.trace
  pub greatest : then_.observer.greatest ≡ max w.observer.greatest moment
  pub number : ℕ
  pub messages : List Message
  pub sent : then_.sent ≡ w.sent ++ stamped number messages
  pub silent : (x : Message) → IsSent messages x → IsNoWordOfNames x.body

module _ (w : WorldState) where
  abbrev Of : Happened → Type 0
  Of h = IsOfServers w h.world

  still : (v : WorldState) → v.clients ≡ w.clients → v.observer.trace ≡ w.observer.trace → v.observer.greatest ≡ w.observer.greatest → v.sent ≡ w.sent → IsOfServers w v
  still v clients trace greatest sent =
      let once = passed_once w.observer.trace w.observer.greatest 0 (omega arith) in
      record {
        clients = clients;
        moment = 0;
        trace = trace ∙ once.0;
        greatest = greatest ∙ once.1;
        number = 0;
        messages = [];
        sent = sent ∙ sym (append-nil w.sent);
        silent = λ x none. none_sent x none;
      }

  nothing : Of (nothing_happens w)
  nothing = still w refl refl refl refl

  serves : (index moment : ℕ) (t : Taken ServerState) → AreSilent t.out.sent → Of (after_server w index moment t)
  serves index moment t silent =
      record { clients = refl; moment = moment; trace = refl; greatest = refl; number = suc (length w.sent); messages = t.out.sent; sent = refl; silent = all_silent t.out.sent silent }

  server_of : (index moment : ℕ) (i : NodeInput) (choice : Choice) (o : Option ServerState) → Of (server_moves w index moment i choice o)
  server_of index moment i choice None = nothing
  server_of index moment i choice (Some s) =
      on_cond Of s.up (after_server w index moment (server_step s moment i choice)) (nothing_happens w) (λ _. serves index moment (server_step s moment i choice) (server_silent s moment i choice)) (λ _. nothing)

  moves_of : (n : Node) (moment : ℕ) (i : NodeInput) (choice : Choice) → IsServer n → Of (moves w n moment i choice)
  moves_of (node.Server s) moment i choice is = server_of (s.0 - 1) moment i choice (numbered_from_1 w.servers s.0)
  moves_of other moment i choice is = absurd is

  delivery_of : (moment : ℕ) (choice : Choice) (o : Option Message) → ((m : Message) → o ≡ Some m → IsServer m.receiver) → Of (delivered w moment choice o)
  delivery_of moment choice None is = nothing
  delivery_of moment choice (Some m) is = moves_of m.receiver moment (input.Deliver m) choice (is m refl)

  opens_of : (index moment : ℕ) (choice : Choice) (o : Option ServerState) → Of (server_restarts_at w index moment choice o)
  opens_of index moment choice None = nothing
  opens_of index moment choice (Some s) = serves index moment (server_restart s moment choice) (server_restart_silent s moment choice)

  restart_of : (n : Node) (moment : ℕ) (choice : Choice) → (n ≡ node.Master → ⊥) → Of (restarts w n moment choice)
  restart_of node.Master moment choice not = absurd (not refl)
  restart_of (node.Server s) moment choice not = opens_of (s.0 - 1) moment choice (numbered_from_1 w.servers s.0)
  restart_of (node.Client c) moment choice not = nothing

  moment_of : (moment : ℕ) (h : Happened) → Of h → Of (at_moment w moment h)
  moment_of moment h of = on_cond Of (nat_le moment moment_limit) h (nothing_happens w) (λ _. of) (λ _. nothing)

  rot_of : (index handle place byte : ℕ) (choice : Choice) (o : Option ServerState) → Of (rots_on w index handle place byte choice o)
  rot_of index handle place byte choice None = nothing
  rot_of index handle place byte choice (Some s) =
      on_cond Of (s.up && nat_lt place w.config.chunk) (rots_replica w index s handle place byte choice (replica_of s.disk handle)) (nothing_happens w) (λ _. by_replica (replica_of s.disk handle)) (λ _. nothing)
    where
      by_replica : (o : Option Replica) → Of (rots_replica w index s handle place byte choice o)
      by_replica None = nothing
      by_replica (Some r) = still (rots_replica w index s handle place byte choice (Some r)).world refl refl refl refl

  event_of : (e : Event) (choice : Choice) → IsServersEvent w e → Of (happens w e choice)
  event_of (event.Call client c now) choice is = absurd is
  event_of (event.Deliver number now) choice is = moment_of now.0 _ (delivery_of now.0 choice (numbered_from_1 w.sent number) is)
  event_of (event.Tick n now) choice is = moment_of now.0 _ (moves_of n now.0 input.Tick choice is)
  event_of (event.Restart n now) choice is = moment_of now.0 _ (restart_of n now.0 choice is)
  event_of (event.Rot server handle place byte) choice is = rot_of (server.0 - 1) handle.0 place byte choice (numbered_from_1 w.servers server.0)
  event_of (event.Fuse n count torn) choice is = nothing

  not_masters : (e : Event) → IsServersEvent w e → IsMastersEvent w e → ⊥
  not_masters (event.Call client c now) is masters = is
  not_masters (event.Deliver number now) is masters = subst IsServer masters.2 (is masters.0 masters.1)
  not_masters (event.Tick n now) is masters = subst IsServer masters is
  not_masters (event.Restart n now) is masters = is masters
  not_masters (event.Rot server handle place byte) is masters = masters
  not_masters (event.Fuse n count torn) is masters = masters

-- all clients stay as the machine goes on

pub files_stay : (m n : Machine) (clients : List ClientState) → AllStay m n → AreFileClients clients m → AreFileClients clients n
files_stay m n clients stays h = λ index s at up. (stays (suc index) s (h index s at up)).0

pub words_stay : (m n : Machine) (clients : List ClientState) (sent : List Message) → AllStay m n → AreFileClients clients m → AreWordsSo sent clients m → AreWordsSo sent clients n
words_stay m n clients sent stays h said = λ index s at up x was to firm. (stays (suc index) s (h index s at up)).1 (input.Deliver x) firm (said index s at up x was to firm)

pub more_words : (m : Machine) (clients : List ClientState) (xs ys : List Message) → AreWordsSo xs clients m → AreWordsSo ys clients m → AreWordsSo (xs ++ ys) clients m
more_words m clients xs ys one two = λ index s at up x was to firm. elim (sent_cases xs ys x was) [
  | inl before ↦ one index s at up x before to firm
  | inr now ↦ two index s at up x now to firm
]

module _ (config : Config) (servers clients : ℕ) (w : WorldState) (r : world.IsReached config servers clients w) (kept : IsTrue (is_kept w)) (e : Event) (choice : Choice) (clocks : IsTrue (happens w e choice).world.observer.are_clocks_kept)
    (of : IsServersEvent w e) (asks : AreServersTrue config w (happens w e choice).world) (ss : List PendingSnapshot) (k : ChunkSides) (h : IsBeside config w ss k)
  where
    abbrev v : WorldState
    v = (happens w e choice).world

    o : IsOfServers w v
    o = event_of w e choice of

    goes : (actions : List Action) × IsTrue (list_all is_of_entries actions) × IsLawful k.machine actions × AreChunksBeside config v (moved k actions k.log k.gone v.observer.orders)
        × AddsNumberedTries w v k (after_all k.machine actions)
    goes = other_events_keep_chunks_beside config servers clients w r kept e choice clocks (not_masters w e of) k (h.run.0, h.run.1, h.run.3) h.chunks h.sized (asks.numbers ss k h)

    abbrev placed : ChunkSides
    placed = moved k goes.0 k.log k.gone v.observer.orders

    before : IsReached config k.machine
    before = (h.run.0, h.run.1, h.run.3)

    one : GoesQuietly k.machine placed.machine goes.0
    one = quiet_run config k.machine goes.0 before goes.2 (entries_quiet goes.0 goes.1)

    files_placed : AreFileClients w.clients placed.machine
    files_placed = files_stay k.machine placed.machine w.clients one.stays h.files

    said_placed : AreWordsSo w.sent w.clients placed.machine
    said_placed = words_stay k.machine placed.machine w.clients w.sent one.stays h.files h.said

    run_placed : IsRunTo config w.observer.trace placed.machine
    run_placed = run_goes_unseen config w.observer.trace k.machine goes.0 h.run goes.2 one.seen

    answers : AreAnswersSo w v placed.machine
    answers = asks.answers ss k placed h (goes.0, goes.2, refl) run_placed goes.3 files_placed said_placed

    abbrev looked : Machine
    looked = after_all placed.machine answers.looks

    two : GoesQuietly placed.machine looked answers.looks
    two = quiet_run config placed.machine answers.looks (leads_on (new_machine config) k.machine placed.machine before (goes.0, goes.2, refl)) answers.lawful (looks_quiet answers.looks answers.of_looks)

    run_looked : IsRunTo config w.observer.trace looked
    run_looked = run_goes_unseen config w.observer.trace placed.machine answers.looks run_placed answers.lawful two.seen

    same_looked : AreNamesOf looked h.names
    same_looked = two.names h.names (one.names h.names h.same)

    files_looked : AreFileClients w.clients looked
    files_looked = files_stay placed.machine looked w.clients two.stays files_placed

    said_looked : AreWordsSo (w.sent ++ stamped o.number o.messages) w.clients looked
    said_looked = more_words looked w.clients w.sent (stamped o.number o.messages) (words_stay placed.machine looked w.clients w.sent two.stays files_placed said_placed) (answers.said (stamped o.number o.messages) o.sent)

    p : PassesBoth config w.observer.trace w.observer.greatest w.sent k.log ss looked h.names h.requests h.named same_looked run_looked (passed_trace w.observer.greatest o.moment w.observer.trace) (max w.observer.greatest o.moment)
    p = both_pass config w.observer.trace w.observer.greatest w.sent k.log ss looked h.names h.requests h.named same_looked run_looked o.moment

    chunks_looked : AreChunksBeside config v (record placed { machine = looked })
    chunks_looked = let left = looks_leave placed.machine answers.looks answers.of_looks in same_files_keep_chunks_beside config v placed looked goes.3 left.0 left.1

    chunks_passed : AreChunksBeside config v (record placed { machine = p.whole })
    chunks_passed = same_files_keep_chunks_beside config v (record placed { machine = looked }) p.whole chunks_looked p.settings p.files

    abbrev At : List Visible → ℕ → List Message → List ClientState → Type 0
    At trace greatest sent cs =
        IsNamesBeside config trace greatest sent k.log ss p.names h.requests × AreClientsBeside config trace greatest cs p.names h.requests × IsRunTo config trace p.whole × AreFileClients cs p.whole × AreWordsSo sent cs p.whole

    here : At (passed_trace w.observer.greatest o.moment w.observer.trace) (max w.observer.greatest o.moment) (w.sent ++ stamped o.number o.messages) w.clients
    here = (
      says_else config (passed_trace w.observer.greatest o.moment w.observer.trace) (max w.observer.greatest o.moment) w.sent k.log ss p.names h.requests p.named o.number o.messages o.silent,
      all_on config w.observer.trace (passed_trace w.observer.greatest o.moment w.observer.trace) w.observer.greatest (max w.observer.greatest o.moment) w.clients h.names p.names h.requests p.left
          (λ q. passed_last w.observer.trace w.observer.greatest o.moment q) (le-max_left w.observer.greatest o.moment) h.asking,
      p.run,
      files_stay looked p.whole w.clients p.stays files_looked,
      words_stay looked p.whole w.clients (w.sent ++ stamped o.number o.messages) p.stays files_looked said_looked,
    )

    there : At v.observer.trace v.observer.greatest v.sent v.clients
    there =
        subst (λ (t : List Visible). At t v.observer.greatest v.sent v.clients) (sym o.trace)
        (subst (λ (g : ℕ). At (passed_trace w.observer.greatest o.moment w.observer.trace) g v.sent v.clients) (sym o.greatest)
        (subst (λ (ms : List Message). At (passed_trace w.observer.greatest o.moment w.observer.trace) (max w.observer.greatest o.moment) ms v.clients) (sym o.sent)
        (subst (λ (cs : List ClientState). At (passed_trace w.observer.greatest o.moment w.observer.trace) (max w.observer.greatest o.moment) (w.sent ++ stamped o.number o.messages) cs) (sym o.clients) here)))

    leads : LeadsTo k.machine p.whole
    leads = leads_on k.machine placed.machine p.whole (goes.0, goes.2, refl) (leads_on placed.machine looked p.whole (answers.looks, answers.lawful, refl) p.leads)

    adds : AddsNumberedTries w v k p.whole
    adds = same_files_add w v k placed.machine p.whole (p.files ∙ (looks_leave placed.machine answers.looks answers.of_looks).1) goes.4

    beside : IsBeside config v ss (record placed { machine = p.whole })
    beside = record {
      names = p.names;
      requests = h.requests;
      named = there.0;
      asking = there.1;
      run = there.2;
      same = p.same;
      below = h.below;
      chunks = chunks_passed;
      files = there.3;
      said = there.4;
      requests_are = asks.requests ss k p.whole h leads there.2 there.3 (inr adds);
      shapes = shapes_on config servers clients w r ss k h e choice clocks p.whole leads;
      sized = sizes_beside config servers clients w r e choice clocks ss k h (not_masters w e of) v.observer.orders p.whole leads chunks_passed;
    }

    keeps : (j : ChunkSides) × (j.log ≡ k.log) × IsBeside config v ss j
    keeps = (record placed { machine = p.whole }, refl, beside)

module _ (config : Config) (v : WorldState) where
  abbrev Up : MasterState → Type 0
  Up s = IsTrue s.up → HasMachine config v s.logged s.snapshots

  abbrev Down : MasterState → Type 0
  Down s = IsFalse s.up → (decided : List Bool) → HasMachine config v (log_as s decided) []

  -- the master is left
  pub on_left : (w : WorldState) → v.master ≡ w.master → ((l : Logged) (ss : List PendingSnapshot) → HasMachine config w l ss → HasMachine config v l ss) → IsWholeWorld config w → IsWholeWorld config v
  on_left w left on h =
      record { state = subst Up (sym left) (λ up. on w.master.logged w.master.snapshots (h.state up)); log = subst Down (sym left) (λ down decided. on (log_as w.master decided) [] (h.log down decided)) }

pub servers_events_keep_worlds_whole : ServersEventsKeepWorldsWhole
servers_events_keep_worlds_whole config servers clients w r kept e choice clocks of asks h =
    on_left config (happens w e choice).world w (master_left w e choice (not_masters w e of))
    (λ l ss b. let on = keeps config servers clients w r kept e choice clocks of asks ss b.0 b.2 in (on.0, on.1 ∙ b.1, on.2)) h
