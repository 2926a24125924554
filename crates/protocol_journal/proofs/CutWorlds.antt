-- A world without its first messages goes as the whole one does.
use Rattle.std.proofs.Common.{◌≡◌, ℕ, zero, suc, ◌+◌, ◌-◌, Bool, true, false, cond, List, [], ◌∷◌, ◌++◌, map, length, Option, Some, None, refl, sym, ap, subst, ◌∙◌, arith}
use Rattle.std.specs.Prelude.{nat_le, nat_lt, ◌&&◌}
use Rattle.std.specs.Option.{option_map, option_to_list}
use Rattle.std.proofs.lemmas.List.{append_assoc, append-nil, map-append, length-append, length-map}
use Rattle.gfs_types.specs.declared.answer.Answer.{Answer}
use Rattle.gfs_types.specs.declared.call.Call.{Call}
use Rattle.gfs_types.specs.declared.ids.Node.{Node}
use Rattle.gfs_types.specs.declared.ids.Node.TheVariants as node
use Rattle.messages.specs.declared.message.Message.{Message}
use Rattle.messages.specs.declared.event.Event.{Event}
use Rattle.messages.specs.declared.event.Event.TheVariants as event
use Rattle.messages.specs.declared.event.NodeInput.{NodeInput}
use Rattle.messages.specs.declared.event.NodeInput.TheVariants as input
use Rattle.messages.specs.declared.event.StepOut.{StepOut}
use Rattle.replica_store.specs.Replicas.{Replica, replica_of}
use Rattle.protocol.specs.Sending.{moment_of, the_server}
use Rattle.protocol.specs.Tables.{element_at, first_numbers, moment_limit}
use Rattle.protocol.specs.Choice.{Choice}
use Rattle.protocol.specs.Seen.{Taken}
use Rattle.protocol.specs.Server.{ServerState}
use Rattle.protocol.specs.ServerStep.{server_step, server_restart}
use Rattle.protocol.specs.Master.{MasterState}
use Rattle.protocol.specs.MasterStep.{master_step, master_restart}
use Rattle.protocol.specs.Client.{ClientState}
use Rattle.protocol.specs.ClientStep.{may_call, client_call, client_step}
use Rattle.protocol.specs.Observer.{Observer, observed_moment, observed_call}
use Rattle.protocol.specs.World.{WorldState, Happened, numbered_from_1, stamped, nothing_happens, after_master, after_server, after_client, master_moves, server_moves, client_moves, moves, delivered, server_restarts_at, restarts, call_moves, rots_replica, rots_on, at_moment, happens, after_events}
use Rattle.protocol.specs.Conforms.{answers_of, WorldRuns}
use Rattle.protocol_journal.specs.Rebased.{raised, all_raised, raised_input, raised_number, raised_event, restart_events, without_messages, IsCut, GoesAlike}
use Rattle.protocol_journal.specs.CutWorlds.{CutWorldsGoAlike, CutRunsAreRuns, RebasesAreRuns}
use Rattle.protocol_journal.proofs.SameSteps.{master_same, server_same, client_same}

pub plus_zero : (n : ℕ) → n + zero ≡ n
plus_zero n = omega arith

plus_suc : (n k : ℕ) → n + suc k ≡ suc (n + k)
plus_suc n k = omega arith

suc_plus : (n k : ℕ) → suc (n + k) ≡ suc n + k
suc_plus n k = omega arith

behind : (earlier xs : List Message) (n : ℕ) → element_at (earlier ++ xs) (n + length earlier) ≡ element_at xs n
behind [] xs n = ap (λ (k : ℕ). element_at xs k) (plus_zero n)
behind (m ∷ rest) xs n = ap (λ (k : ℕ). element_at (m ∷ (rest ++ xs)) k) (plus_suc n (length rest)) ∙ behind rest xs n

element_raised : (k : ℕ) (xs : List Message) (n : ℕ) → element_at (all_raised k xs) n ≡ option_map (raised k) (element_at xs n)
element_raised k [] n = refl
element_raised k (x ∷ xs) zero = refl
element_raised k (x ∷ xs) (suc n) = element_raised k xs n

-- the message of a number is that of the raised number
pub numbered : (earlier own : List Message) (n : ℕ)
    → numbered_from_1 (earlier ++ all_raised (length earlier) own) (raised_number (length earlier) n)
    ≡ option_map (raised (length earlier)) (numbered_from_1 own n)
numbered earlier own zero = refl
numbered earlier own (suc n) = behind earlier (all_raised (length earlier) own) n ∙ element_raised (length earlier) own n

stamped_raised : (k n : ℕ) (ms : List Message) → stamped (n + k) ms ≡ all_raised k (stamped n ms)
stamped_raised k n [] = refl
stamped_raised k n (m ∷ rest) =
    ap (λ (l : List Message). record m { number = n + k } ∷ l) (ap (λ (j : ℕ). stamped j rest) (suc_plus n k) ∙ stamped_raised k (suc n) rest)

length_whole : (earlier own : List Message) → length (earlier ++ all_raised (length earlier) own) ≡ length own + length earlier
length_whole earlier own =
    let parts : length (earlier ++ all_raised (length earlier) own) ≡ length earlier + length (all_raised (length earlier) own) =
    length-append earlier (all_raised (length earlier) own) in
    let same : length (all_raised (length earlier) own) ≡ length own = length-map own (raised (length earlier)) in
    omega arith

-- what is sent next gets the next numbers in both
pub sent_on : (earlier own ms : List Message)
    → (earlier ++ all_raised (length earlier) own) ++ stamped (suc (length (earlier ++ all_raised (length earlier) own))) ms
    ≡ earlier ++ all_raised (length earlier) (own ++ stamped (suc (length own)) ms)
sent_on earlier own ms =
    let k : ℕ = length earlier in
    let all : List Message = earlier ++ all_raised k own in
    ap (λ (j : ℕ). all ++ stamped j ms) (ap (λ (j : ℕ). suc j) (length_whole earlier own) ∙ suc_plus (length own) k)
    ∙ ap (λ (l : List Message). all ++ l) (stamped_raised k (suc (length own)) ms)
    ∙ append_assoc earlier (all_raised k own) (all_raised k (stamped (suc (length own)) ms))
    ∙ ap (λ (l : List Message). earlier ++ l) (sym (map-append (raised k) own (stamped (suc (length own)) ms)))

module _ (earlier : List Message) (w : WorldState) (mine : List Message) (sent_is : w.sent ≡ earlier ++ all_raised (length earlier) mine) where
  abbrev k : ℕ
  k = length earlier

  abbrev without : WorldState
  without = record w { sent = mine }

  sent_more : (ms : List Message) → w.sent ++ stamped (suc (length w.sent)) ms ≡ earlier ++ all_raised k (mine ++ stamped (suc (length mine)) ms)
  sent_more ms = ap (λ (s : List Message). s ++ stamped (suc (length s)) ms) sent_is ∙ sent_on earlier mine ms

  nothing_alike : GoesAlike earlier (nothing_happens w) (nothing_happens without)
  nothing_alike = record { out_is = refl; world_is = record { but_sent = refl; sent_is = sent_is } }

  by_test : (b : Bool) (x y : Happened) → GoesAlike earlier x y → GoesAlike earlier (cond b x (nothing_happens w)) (cond b y (nothing_happens without))
  by_test true x y alike = alike
  by_test false x y alike = nothing_alike

  master_alike : (moment : ℕ) (t : Taken MasterState) → GoesAlike earlier (after_master w moment t) (after_master without moment t)
  master_alike moment t = record { out_is = refl; world_is = record { but_sent = refl; sent_is = sent_more t.out.sent } }

  server_alike : (index moment : ℕ) (t : Taken ServerState) → GoesAlike earlier (after_server w index moment t) (after_server without index moment t)
  server_alike index moment t = record { out_is = refl; world_is = record { but_sent = refl; sent_is = sent_more t.out.sent } }

  client_alike : (o : Observer) (index moment : ℕ) (t : Taken ClientState)
      → GoesAlike earlier (after_client (record w { observer = o }) index moment t) (after_client (record without { observer = o }) index moment t)
  client_alike o index moment t = record { out_is = refl; world_is = record { but_sent = refl; sent_is = sent_more t.out.sent } }

  master_moves_alike : (moment : ℕ) (i : NodeInput) (choice : Choice)
      → GoesAlike earlier (master_moves w moment (raised_input k i) choice) (master_moves without moment i choice)
  master_moves_alike moment i choice =
      by_test w.master.up (after_master w moment (master_step w.master moment (raised_input k i) choice))
      (after_master without moment (master_step w.master moment i choice))
      (subst (λ (t : Taken MasterState). GoesAlike earlier (after_master w moment t) (after_master without moment (master_step w.master moment i choice)))
      (sym (master_same k w.master moment i choice)) (master_alike moment (master_step w.master moment i choice)))

  server_moves_alike : (index moment : ℕ) (i : NodeInput) (choice : Choice) (o : Option ServerState)
      → GoesAlike earlier (server_moves w index moment (raised_input k i) choice o) (server_moves without index moment i choice o)
  server_moves_alike index moment i choice None = nothing_alike
  server_moves_alike index moment i choice (Some s) =
      by_test s.up (after_server w index moment (server_step s moment (raised_input k i) choice))
      (after_server without index moment (server_step s moment i choice))
      (subst (λ (t : Taken ServerState). GoesAlike earlier (after_server w index moment t) (after_server without index moment (server_step s moment i choice)))
      (sym (server_same k s moment i choice)) (server_alike index moment (server_step s moment i choice)))

  client_moves_alike : (index moment : ℕ) (i : NodeInput) (choice : Choice) (o : Option ClientState)
      → GoesAlike earlier (client_moves w index moment (raised_input k i) choice o) (client_moves without index moment i choice o)
  client_moves_alike index moment i choice None = nothing_alike
  client_moves_alike index moment i choice (Some c) =
      by_test c.up (after_client w index moment (client_step c moment (raised_input k i) choice))
      (after_client without index moment (client_step c moment i choice))
      (subst (λ (t : Taken ClientState). GoesAlike earlier (after_client w index moment t) (after_client without index moment (client_step c moment i choice)))
      (sym (client_same k c moment i choice)) (client_alike w.observer index moment (client_step c moment i choice)))

  moves_alike : (n : Node) (moment : ℕ) (i : NodeInput) (choice : Choice)
      → GoesAlike earlier (moves w n moment (raised_input k i) choice) (moves without n moment i choice)
  moves_alike node.Master moment i choice = master_moves_alike moment i choice
  moves_alike (node.Server s) moment i choice = server_moves_alike (s.0 - 1) moment i choice (numbered_from_1 w.servers s.0)
  moves_alike (node.Client c) moment i choice = client_moves_alike (c.0 - 1) moment i choice (numbered_from_1 w.clients c.0)

  delivered_alike : (moment : ℕ) (choice : Choice) (o : Option Message)
      → GoesAlike earlier (delivered w moment choice (option_map (raised k) o)) (delivered without moment choice o)
  delivered_alike moment choice None = nothing_alike
  delivered_alike moment choice (Some m) = moves_alike m.receiver moment (input.Deliver m) choice

  restarts_at_alike : (index moment : ℕ) (choice : Choice) (o : Option ServerState)
      → GoesAlike earlier (server_restarts_at w index moment choice o) (server_restarts_at without index moment choice o)
  restarts_at_alike index moment choice None = nothing_alike
  restarts_at_alike index moment choice (Some s) = server_alike index moment (server_restart s moment choice)

  restarts_alike : (n : Node) (moment : ℕ) (choice : Choice) → GoesAlike earlier (restarts w n moment choice) (restarts without n moment choice)
  restarts_alike node.Master moment choice = master_alike moment (master_restart w.master moment choice)
  restarts_alike (node.Server s) moment choice = restarts_at_alike (s.0 - 1) moment choice (numbered_from_1 w.servers s.0)
  restarts_alike (node.Client c) moment choice = nothing_alike

  call_alike : (index moment : ℕ) (c : Call) (choice : Choice) (o : Option ClientState)
      → GoesAlike earlier (call_moves w index moment c choice o) (call_moves without index moment c choice o)
  call_alike index moment c choice None = nothing_alike
  call_alike index moment c choice (Some s) =
      let seen : Observer = observed_call (observed_moment w.config.skew_ms w.observer moment) (suc index) c in
      by_test (may_call s) (after_client (record w { observer = seen }) index moment (client_call s moment c choice))
      (after_client (record without { observer = seen }) index moment (client_call s moment c choice))
      (client_alike seen index moment (client_call s moment c choice))

  rots_replica_alike : (index : ℕ) (s : ServerState) (handle place byte : ℕ) (choice : Choice) (o : Option Replica)
      → GoesAlike earlier (rots_replica w index s handle place byte choice o) (rots_replica without index s handle place byte choice o)
  rots_replica_alike index s handle place byte choice None = nothing_alike
  rots_replica_alike index s handle place byte choice (Some r) = record { out_is = refl; world_is = record { but_sent = refl; sent_is = sent_is } }

  rots_alike : (index handle place byte : ℕ) (choice : Choice) (o : Option ServerState)
      → GoesAlike earlier (rots_on w index handle place byte choice o) (rots_on without index handle place byte choice o)
  rots_alike index handle place byte choice None = nothing_alike
  rots_alike index handle place byte choice (Some s) =
      by_test (s.up && nat_lt place w.config.chunk) (rots_replica w index s handle place byte choice (replica_of s.disk handle))
      (rots_replica without index s handle place byte choice (replica_of s.disk handle))
      (rots_replica_alike index s handle place byte choice (replica_of s.disk handle))

  at_moment_alike : (moment : ℕ) (x y : Happened) → GoesAlike earlier x y → GoesAlike earlier (at_moment w moment x) (at_moment without moment y)
  at_moment_alike moment x y alike = by_test (nat_le moment moment_limit) x y alike

  event_alike : (e : Event) (choice : Choice) → GoesAlike earlier (happens w (raised_event k e) choice) (happens without e choice)
  event_alike (event.Call client c now) choice =
      let o : Option ClientState = numbered_from_1 w.clients client.0 in
      at_moment_alike now.0 (call_moves w (client.0 - 1) now.0 c choice o) (call_moves without (client.0 - 1) now.0 c choice o)
      (call_alike (client.0 - 1) now.0 c choice o)
  event_alike (event.Deliver n now) choice =
      let found : Option Message = numbered_from_1 mine n in
      at_moment_alike now.0 (delivered w now.0 choice (numbered_from_1 w.sent (raised_number k n))) (delivered without now.0 choice found)
      (subst (λ (o : Option Message). GoesAlike earlier (delivered w now.0 choice o) (delivered without now.0 choice found))
      (sym (ap (λ (s : List Message). numbered_from_1 s (raised_number k n)) sent_is ∙ numbered earlier mine n)) (delivered_alike now.0 choice found))
  event_alike (event.Tick n now) choice =
      at_moment_alike now.0 (moves w n now.0 input.Tick choice) (moves without n now.0 input.Tick choice) (moves_alike n now.0 input.Tick choice)
  event_alike (event.Restart n now) choice =
      at_moment_alike now.0 (restarts w n now.0 choice) (restarts without n now.0 choice) (restarts_alike n now.0 choice)
  event_alike (event.Rot server handle place byte) choice = rots_alike (server.0 - 1) handle.0 place byte choice (numbered_from_1 w.servers server.0)
  event_alike (event.Fuse n count torn) choice = nothing_alike

pub cut_worlds_go_alike : CutWorldsGoAlike
cut_worlds_go_alike w without_them earlier is e choice =
    subst (λ (c : WorldState). GoesAlike earlier (happens w (raised_event (length earlier) e) choice) (happens c e choice)) is.but_sent
    (event_alike earlier w without_them.sent is.sent_is e choice)

abbrev raised_step : ℕ → Event × Choice → Event × Choice
raised_step before step = (raised_event before step.0, step.1)

-- all events of a list, each with its choice
record RunsAlike (w next : WorldState) (earlier : List Message) (steps : List (Event × Choice)) (replies : List Answer) : Type 0 where
  world_is : IsCut (after_events w (map (raised_step (length earlier)) steps)) earlier next
  answers_are : answers_of w (map (raised_step (length earlier)) steps) ≡ replies

runs_alike : (w without_them : WorldState) (earlier : List Message) → IsCut w earlier without_them → (steps : List (Event × Choice))
    → RunsAlike w (after_events without_them steps) earlier steps (answers_of without_them steps)
runs_alike w without_them earlier is [] = record { world_is = is; answers_are = refl }
runs_alike w without_them earlier is (step ∷ rest) =
    let in_whole : Happened = happens w (raised_event (length earlier) step.0) step.1 in
    let here : Happened = happens without_them step.0 step.1 in
    let first : GoesAlike earlier in_whole here = cut_worlds_go_alike w without_them earlier is step.0 step.1 in
    let later : RunsAlike in_whole.world (after_events here.world rest) earlier rest (answers_of here.world rest) =
    runs_alike in_whole.world here.world earlier first.world_is rest in
    record {
      world_is = later.world_is;
      answers_are = ap (λ (o : StepOut). option_to_list o.answer ++ answers_of in_whole.world (map (raised_step (length earlier)) rest)) first.out_is
          ∙ ap (λ (l : List Answer). option_to_list here.out.answer ++ l) later.answers_are;
    }

events_raised : (k : ℕ) (steps : List (Event × Choice))
    → map (λ (s : Event × Choice). s.0) (map (raised_step k) steps) ≡ map (raised_event k) (map (λ (s : Event × Choice). s.0) steps)
events_raised k [] = refl
events_raised k (s ∷ rest) = ap (λ (l : List Event). raised_event k s.0 ∷ l) (events_raised k rest)

pub cut_runs_are_runs : CutRunsAreRuns
cut_runs_are_runs w without_them next earlier events replies is runs =
    let k : ℕ = length earlier in
    let steps : List (Event × Choice) = map (raised_step k) runs.steps in
    let all = runs_alike w without_them earlier is runs.steps in (
      after_events w steps,
      record {
        steps = steps;
        events_are = events_raised k runs.steps ∙ ap (λ (l : List Event). map (raised_event k) l) runs.events_are;
        answers_are = all.answers_are ∙ runs.answers_are;
        leads = refl;
      },
      subst (λ (v : WorldState). IsCut (after_events w steps) earlier v) runs.leads all.world_is,
    )

-- restarts name no message
servers_raised : (k moment : ℕ) (ns : List ℕ)
    → map (raised_event k) (map (λ (s : ℕ). event.Restart (the_server s) (moment_of moment)) ns)
    ≡ map (λ (s : ℕ). event.Restart (the_server s) (moment_of moment)) ns
servers_raised k moment [] = refl
servers_raised k moment (n ∷ ns) =
    ap (λ (l : List Event). event.Restart (the_server n) (moment_of moment) ∷ l) (servers_raised k moment ns)

restarts_raised : (k servers moment : ℕ) → map (raised_event k) (restart_events servers moment) ≡ restart_events servers moment
restarts_raised k servers moment =
    ap (λ (l : List Event). event.Restart node.Master (moment_of moment) ∷ l) (servers_raised k moment (first_numbers servers))

pub rebases_are_runs : RebasesAreRuns
rebases_are_runs w without_them next earlier servers moment is runs =
    let all = cut_runs_are_runs w without_them next earlier (restart_events servers moment) [] is runs in
    let led : WorldState = all.0 in (
      led,
      subst (λ (events : List Event). WorldRuns w events [] led) (restarts_raised (length earlier) servers moment) all.1,
      record { but_sent = ap without_messages all.2.but_sent; sent_is = sym (append-nil led.sent) },
    )
