-- What each event adds to the trace, by cases.
use Rattle.std.proofs.Common.{◌≡◌, ◌⊎◌, inl, inr, ℕ, zero, suc, ◌-◌, Bool, false, cond, List, [], ◌∷◌, ◌++◌, Option, Some, None, refl, sym, subst, ap, ◌∙◌, arith}
use Rattle.std.specs.Prelude.{nat_lt, nat_le, ◌&&◌, max, option_and_then}
use Rattle.std.proofs.lemmas.List.{append-nil}
use Rattle.std.proofs.lemmas.Bool.Decides.{nat_tests}
use Rattle.gfs_types.specs.declared.answer.Answer.{Answer}
use Rattle.gfs_types.specs.declared.call.Call.{Call}
use Rattle.gfs_types.specs.declared.ids.ClientId.{ClientId}
use Rattle.gfs_types.specs.declared.ids.Moment.{Moment}
use Rattle.gfs_types.specs.declared.ids.Node.{Node}
use Rattle.gfs_types.specs.declared.ids.Node.TheVariants as node
use Rattle.messages.specs.declared.message.Message.{Message}
use Rattle.messages.specs.declared.event.Event.{Event}
use Rattle.messages.specs.declared.event.Event.TheVariants as event
use Rattle.messages.specs.declared.event.NodeInput.{NodeInput}
use Rattle.messages.specs.declared.event.NodeInput.TheVariants as input
use Rattle.relaxed_file.specs.Run.{Visible, Called, Passed}
use Rattle.replica_store.specs.Replicas.{Replica, replica_of}
use Rattle.protocol.specs.Tables.{moment_limit}
use Rattle.protocol.specs.Choice.{Choice}
use Rattle.protocol.specs.Seen.{Taken}
use Rattle.protocol.specs.Observer.{Observer, observed_moment, observed_call, observed_answer}
use Rattle.protocol.specs.Server.{ServerState}
use Rattle.protocol.specs.ServerStep.{server_step, server_restart}
use Rattle.protocol.specs.MasterStep.{master_step, master_restart}
use Rattle.protocol.specs.Client.{ClientState}
use Rattle.protocol.specs.ClientStep.{may_call, client_step, client_call}
use Rattle.protocol.specs.World.{WorldState, Happened, nothing_happens, numbered_from_1, after_master, after_server, after_client, master_moves, server_moves, client_moves, moves, delivered, server_restarts_at, restarts, call_moves, rots_replica, rots_on, at_moment, happens}
use Rattle.laws_base.proofs.Steps.{on_cond, none_some}
use Rattle.cell_core.specs.Traced.{moment_given, client_at, client_of, IsPassing, IsCalling, answered, AddsToTrace}

no_call : (e : Event) → IsCalling e []
no_call (event.Call client c now) = inl refl
no_call (event.Deliver number now) = refl
no_call (event.Tick n now) = refl
no_call (event.Restart n now) = refl
no_call (event.Rot server handle place byte) = refl
no_call (event.Fuse n count torn) = refl

-- a moment adds itself, or nothing
passes : (o : Observer) (skew moment : ℕ) → (passed : List Visible) × ((passed ≡ []) ⊎ (passed ≡ Passed moment ∷ [])) × ((observed_moment skew o moment).trace ≡ o.trace ++ passed)
passes o skew moment =
    on_cond (λ (trace : List Visible). (passed : List Visible) × ((passed ≡ []) ⊎ (passed ≡ Passed moment ∷ [])) × (trace ≡ o.trace ++ passed)) (nat_lt o.greatest moment) (o.trace ++ Passed moment ∷ []) o.trace
    (λ _. (Passed moment ∷ [], inr refl, refl)) (λ _. ([], inl refl, sym (append-nil o.trace)))

plain : (xs : List Visible) → xs ≡ (xs ++ []) ++ []
plain xs = sym (append-nil (xs ++ []) ∙ append-nil xs)

passing : (e : Event) (moment : ℕ) (passed : List Visible) → moment_given e ≡ Some moment → (passed ≡ []) ⊎ (passed ≡ Passed moment ∷ []) → IsPassing e passed
passing e moment passed at (inl none) = inl none
passing e moment passed at (inr is) = inr (moment, at, is)

answers : (o : Observer) (client : ℕ) (a : Option Answer) → (observed_answer o client a).trace ≡ o.trace ++ answered (Some client) a
answers o client None = sym (append-nil o.trace)
answers o client (Some reply) = refl

unanswered : (client : Option ℕ) (a : Option Answer) → client ≡ None → answered client a ≡ []
unanswered client None is = refl
unanswered client (Some reply) is = ap (λ (c : Option ℕ). answered c (Some reply)) is

module _ (w : WorldState) where
  abbrev T : List Visible
  T = w.observer.trace

  abbrev Q : Event → Happened → Type 0
  Q e h = AddsToTrace w e h.out.answer h.world

  nothing : (e : Event) → Q e (nothing_happens w)
  nothing e = record { passed = []; called = []; is_passing = inl refl; is_calling = no_call e; trace_is = plain T ∙ sym (append-nil ((T ++ []) ++ [])) }

  -- a step of a node that answers nobody
  others : (e : Event) (moment : ℕ) (a : Option Answer) (next : WorldState) → moment_given e ≡ Some moment → client_of w e ≡ None
      → next.observer.trace ≡ (observed_moment w.config.skew_ms w.observer moment).trace → AddsToTrace w e a next
  others e moment a next at none is =
      let k = passes w.observer w.config.skew_ms moment in
      record {
        passed = k.0;
        called = [];
        is_passing = passing e moment k.0 at k.1;
        is_calling = no_call e;
        trace_is = is ∙ (k.2 ∙ (plain (T ++ k.0) ∙ ap (λ (xs : List Visible). ((T ++ k.0) ++ []) ++ xs) (sym (unanswered (client_of w e) a none))));
      }

  steps : (e : Event) (index moment : ℕ) (t : Taken ClientState) → moment_given e ≡ Some moment → client_of w e ≡ Some (suc index) → Q e (after_client w index moment t)
  steps e index moment t at is =
      let k = passes w.observer w.config.skew_ms moment in
      record {
        passed = k.0;
        called = [];
        is_passing = passing e moment k.0 at k.1;
        is_calling = no_call e;
        trace_is = answers (observed_moment w.config.skew_ms w.observer moment) (suc index) t.out.answer
            ∙ (ap (λ (xs : List Visible). xs ++ answered (Some (suc index)) t.out.answer) k.2
            ∙ (ap (λ (xs : List Visible). xs ++ answered (Some (suc index)) t.out.answer) (sym (append-nil (T ++ k.0)))
            ∙ ap (λ (c : Option ℕ). ((T ++ k.0) ++ []) ++ answered c t.out.answer) (sym is)));
      }

  -- a moment is observed twice at a call, and adds nothing the second time
  again : (o : Observer) (skew moment : ℕ) (c : Call) (client : ℕ)
      → (observed_moment skew (observed_call (observed_moment skew o moment) client c) moment).trace ≡ (observed_moment skew o moment).trace ++ Called client c ∷ []
  again o skew moment c client =
      let not_less : nat_lt (max o.greatest moment) moment ≡ false = grind (arith, nat_tests) in
      ap (λ (b : Bool). cond b (((observed_moment skew o moment).trace ++ Called client c ∷ []) ++ Passed moment ∷ []) ((observed_moment skew o moment).trace ++ Called client c ∷ [])) not_less

  calls : (client : ClientId) (c : Call) (now : Moment) (index : ℕ) (t : Taken ClientState) → client.0 ≡ suc index
      → Q (event.Call client c now) (after_client (record w { observer = observed_call (observed_moment w.config.skew_ms w.observer now.0) (suc index) c }) index now.0 t)
  calls client c now index t is =
      let o = w.observer in
      let skew = w.config.skew_ms in
      let k = passes o skew now.0 in
      let called : List Visible = Called (suc index) c ∷ [] in
      let last : List Visible = answered (Some (suc index)) t.out.answer in
      record {
        passed = k.0;
        called = called;
        is_passing = passing (event.Call client c now) now.0 k.0 refl k.1;
        is_calling = inr (ap (λ (n : ℕ). Called n c ∷ []) (sym is));
        trace_is = answers (observed_moment skew (observed_call (observed_moment skew o now.0) (suc index) c) now.0) (suc index) t.out.answer
            ∙ (ap (λ (xs : List Visible). xs ++ last) (again o skew now.0 c (suc index) ∙ ap (λ (xs : List Visible). xs ++ called) k.2)
            ∙ ap (λ (n : ℕ). ((T ++ k.0) ++ called) ++ answered (Some n) t.out.answer) (sym is));
      }

  master_moved : (e : Event) (moment : ℕ) (i : NodeInput) (choice : Choice) → moment_given e ≡ Some moment → client_of w e ≡ None → Q e (master_moves w moment i choice)
  master_moved e moment i choice at none =
      on_cond (Q e) w.master.up (after_master w moment (master_step w.master moment i choice)) (nothing_happens w)
      (λ _. let t = master_step w.master moment i choice in others e moment t.out.answer (after_master w moment t).world at none refl) (λ _. nothing e)

  server_moved : (e : Event) (n moment : ℕ) (i : NodeInput) (choice : Choice) (o : Option ServerState) → moment_given e ≡ Some moment → client_of w e ≡ None → Q e (server_moves w (n - 1) moment i choice o)
  server_moved e n moment i choice None at none = nothing e
  server_moved e n moment i choice (Some s) at none =
      on_cond (Q e) s.up (after_server w (n - 1) moment (server_step s moment i choice)) (nothing_happens w)
      (λ _. let t = server_step s moment i choice in others e moment t.out.answer (after_server w (n - 1) moment t).world at none refl) (λ _. nothing e)

  client_moved : (e : Event) (n moment : ℕ) (i : NodeInput) (choice : Choice) (o : Option ClientState) → numbered_from_1 w.clients n ≡ o → moment_given e ≡ Some moment → client_of w e ≡ Some n → Q e (client_moves w (n - 1) moment i choice o)
  client_moved e n moment i choice None there at is = nothing e
  client_moved e zero moment i choice (Some s) there at is = none_some s there
  client_moved e (suc n) moment i choice (Some s) there at is =
      on_cond (Q e) s.up (after_client w (suc n - 1) moment (client_step s moment i choice)) (nothing_happens w)
      (λ _. subst (λ (index : ℕ). Q e (after_client w index moment (client_step s moment i choice))) (omega arith) (steps e n moment (client_step s moment i choice) at is)) (λ _. nothing e)

  moved : (e : Event) (n : Node) (moment : ℕ) (i : NodeInput) (choice : Choice) → moment_given e ≡ Some moment → client_of w e ≡ client_at n → Q e (moves w n moment i choice)
  moved e node.Master moment i choice at is = master_moved e moment i choice at is
  moved e (node.Server s) moment i choice at is = server_moved e s.0 moment i choice (numbered_from_1 w.servers s.0) at is
  moved e (node.Client c) moment i choice at is = client_moved e c.0 moment i choice (numbered_from_1 w.clients c.0) refl at is

  came : (number : ℕ) (now : Moment) (choice : Choice) (o : Option Message) → numbered_from_1 w.sent number ≡ o → Q (event.Deliver number now) (delivered w now.0 choice o)
  came number now choice None is = nothing (event.Deliver number now)
  came number now choice (Some m) is =
      moved (event.Deliver number now) m.receiver now.0 (input.Deliver m) choice refl (ap (λ (o : Option Message). option_and_then (λ (x : Message). client_at x.receiver) o) is)

  server_began : (e : Event) (n moment : ℕ) (choice : Choice) (o : Option ServerState) → moment_given e ≡ Some moment → client_of w e ≡ None → Q e (server_restarts_at w (n - 1) moment choice o)
  server_began e n moment choice None at none = nothing e
  server_began e n moment choice (Some s) at none = let t = server_restart s moment choice in others e moment t.out.answer (after_server w (n - 1) moment t).world at none refl

  began : (n : Node) (now : Moment) (choice : Choice) → Q (event.Restart n now) (restarts w n now.0 choice)
  began node.Master now choice = let t = master_restart w.master now.0 choice in others (event.Restart node.Master now) now.0 t.out.answer (after_master w now.0 t).world refl refl refl
  began (node.Server s) now choice = server_began (event.Restart (node.Server s) now) s.0 now.0 choice (numbered_from_1 w.servers s.0) refl refl
  began (node.Client c) now choice = nothing (event.Restart (node.Client c) now)

  called : (client : ClientId) (c : Call) (now : Moment) (choice : Choice) (n : ℕ) (o : Option ClientState) → client.0 ≡ n → numbered_from_1 w.clients n ≡ o
      → Q (event.Call client c now) (call_moves w (n - 1) now.0 c choice o)
  called client c now choice n None is there = nothing (event.Call client c now)
  called client c now choice zero (Some s) is there = none_some s there
  called client c now choice (suc n) (Some s) is there =
      on_cond (Q (event.Call client c now)) (may_call s) (after_client (record w { observer = observed_call (observed_moment w.config.skew_ms w.observer now.0) (suc (suc n - 1)) c }) (suc n - 1) now.0 (client_call s now.0 c choice)) (nothing_happens w)
      (λ _. subst (λ (index : ℕ). Q (event.Call client c now) (after_client (record w { observer = observed_call (observed_moment w.config.skew_ms w.observer now.0) (suc index) c }) index now.0 (client_call s now.0 c choice))) (omega arith) (calls client c now n (client_call s now.0 c choice) is)) (λ _. nothing (event.Call client c now))

  rotted : (e : Event) (index handle place byte : ℕ) (choice : Choice) (s : ServerState) (o : Option Replica) → Q e (rots_replica w index s handle place byte choice o)
  rotted e index handle place byte choice s None = nothing e
  rotted e index handle place byte choice s (Some r) = record { passed = []; called = []; is_passing = inl refl; is_calling = no_call e; trace_is = plain T ∙ sym (append-nil ((T ++ []) ++ [])) }

  rots_at : (e : Event) (index handle place byte : ℕ) (choice : Choice) (o : Option ServerState) → Q e (rots_on w index handle place byte choice o)
  rots_at e index handle place byte choice None = nothing e
  rots_at e index handle place byte choice (Some s) =
      on_cond (Q e) (s.up && nat_lt place w.config.chunk) (rots_replica w index s handle place byte choice (replica_of s.disk handle)) (nothing_happens w)
      (λ _. rotted e index handle place byte choice s (replica_of s.disk handle)) (λ _. nothing e)

  timed : (e : Event) (moment : ℕ) (x : Happened) → Q e x → Q e (at_moment w moment x)
  timed e moment x h = on_cond (Q e) (nat_le moment moment_limit) x (nothing_happens w) (λ _. h) (λ _. nothing e)

  pub events_add_to_the_trace : (e : Event) (choice : Choice) → Q e (happens w e choice)
  events_add_to_the_trace (event.Call client c now) choice =
      timed (event.Call client c now) now.0 (call_moves w (client.0 - 1) now.0 c choice (numbered_from_1 w.clients client.0)) (called client c now choice client.0 (numbered_from_1 w.clients client.0) refl refl)
  events_add_to_the_trace (event.Deliver number now) choice =
      timed (event.Deliver number now) now.0 (delivered w now.0 choice (numbered_from_1 w.sent number)) (came number now choice (numbered_from_1 w.sent number) refl)
  events_add_to_the_trace (event.Tick n now) choice = timed (event.Tick n now) now.0 (moves w n now.0 input.Tick choice) (moved (event.Tick n now) n now.0 input.Tick choice refl refl)
  events_add_to_the_trace (event.Restart n now) choice = timed (event.Restart n now) now.0 (restarts w n now.0 choice) (began n now choice)
  events_add_to_the_trace (event.Rot server handle place byte) choice = rots_at (event.Rot server handle place byte) (server.0 - 1) handle.0 place byte choice (numbered_from_1 w.servers server.0)
  events_add_to_the_trace (event.Fuse n count torn) choice = nothing (event.Fuse n count torn)
