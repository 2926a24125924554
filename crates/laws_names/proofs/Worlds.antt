-- In each world that is reached with kept clocks there is a machine beside the master, and beside each log that a restart may find.
use Rattle.std.proofs.Common.{◌≡◌, ℕ, zero, suc, ◌+◌, ◌≤◌, Bool, true, false, cond, max, List, [], ◌∷◌, ◌++◌, length, map, Option, Some, None, refl, sym, ap, subst, ◌∙◌, arith}
use Rattle.std.specs.Prelude.{◌&&◌, nat_lt, nat_le, is_none, is_some, IsTrue}
use Rattle.std.specs.Ordering.{nat_cmp}
use Rattle.std.proofs.lemmas.Bool.{true≢false, and_parts, ltb-true, leb-true}
use Rattle.std.proofs.Math.Nat.{le-max_left, le-max_right, max-le, max-eq_left}
use Rattle.std.specs.FinMap as table
use Rattle.gfs_types.specs.declared.config.Config.{Config}
use Rattle.gfs_types.specs.declared.call.Call.{Call}
use Rattle.gfs_types.specs.declared.answer.Answer.{Answer}
use Rattle.messages.specs.declared.event.Event.{Event}
use Rattle.messages.specs.declared.event.NodeInput.{NodeInput}
use Rattle.messages.specs.declared.event.NodeInput.TheVariants as input
use Rattle.messages.specs.declared.message.Body.{Body}
use Rattle.messages.specs.declared.message.Body.TheVariants as body
use Rattle.messages.specs.declared.message.Message.{Message}
use Rattle.relaxed_file.specs.Machine.{new_machine}
use Rattle.relaxed_file.specs.Run.{Visible, Called, Passed}
use Rattle.client_state.specs.declared.call.CurrentCall.{CurrentCall}
use Rattle.protocol.specs.Tables.{element_at, with_at, first_numbers}
use Rattle.protocol.specs.Choice.{Choice}
use Rattle.protocol.specs.Seen.{Taken}
use Rattle.protocol.specs.Sending.{the_client}
use Rattle.protocol.specs.Observer.{Observer, observed_moment, observed_call, observed_answer}
use Rattle.protocol.specs.MasterStep.{new_master}
use Rattle.protocol.specs.ServerStep.{server_step, server_restart}
use Rattle.protocol.specs.Client.{ClientState, new_client}
use Rattle.protocol.specs.ClientStep.{client_step, client_call, has_room_to_count}
use Rattle.protocol.specs.World.{WorldState, IsReached, stamped, after_client}
use Rattle.laws_base.proofs.Steps.{none_some, same_some}
use Rattle.laws_base.proofs.MembersRecorded.{all_at}
use Rattle.laws_base.proofs.MessagesSent.{IsSent, none_sent}
use Rattle.laws_base.proofs.MasterClock.{master_in_time}
use Rattle.laws_base.proofs.Events.{IsGiven, HoldsAfter, with_call}
use Rattle.laws_names.proofs.KeptAnswersReached.{kept_answers_were_asked_for}
use Rattle.laws_names.proofs.Reaching.{reached_with}
use Rattle.laws_names.proofs.ServerSilence.{IsSilent, AreSilent, server_silent, server_restart_silent}
use Rattle.laws_names.proofs.WaitingRequests.{snapshots_wait_for_their_request}
use Rattle.laws_names.proofs.NameWords.{given_sent}
use Rattle.laws_base.specs.FileCalls.{IsNoWordOfNames}
use Rattle.laws_names.specs.Alike.{is_there}
use Rattle.laws_names.specs.Beside.{IsNamesBeside, IsClientBeside, AreClientsBeside, answered_trace, ComesTo}
use Rattle.laws_names.specs.BesideClients.{IsAskedFor}
use Rattle.laws_names.proofs.BesideClientsBeside.{passed_trace}
use Rattle.laws_names.proofs.Followed.{client_steps_are_followed, client_calls_are_followed}
use Rattle.laws_names.proofs.Masters.{log_of, BesideMaster, master_passes, master_hears, step_beside, restart_beside}

-- a new world

none_there : (config : Config) (file : ℕ) → false ≡ is_there (new_machine config) file
none_there config file =
    by_tests (nat_lt 0 file) (nat_le file 0) true (λ over under. let low = ltb-true 0 file over in let high = leb-true file 0 under in omega (arith, low, high))
  where
    by_tests : (a b c : Bool) → (a ≡ true → b ≡ true → ⊥) → false ≡ (a && b && c)
    by_tests true true c apart = absurd (apart refl refl)
    by_tests true false c apart = refl
    by_tests false b c apart = refl

pub new_one : (config : Config) (xs : List ℕ) (index : ℕ) (s : ClientState) → element_at (map (new_client config) xs) index ≡ Some s → (id : ℕ) × (new_client config id ≡ s)
new_one config [] index s is = none_some s is
new_one config (x ∷ xs) zero s is = (x, same_some (new_client config x) s is)
new_one config (x ∷ xs) (suc index) s is = new_one config xs index s is

pub new_clients : (config : Config) (count : ℕ) → AreClientsBeside config [] 0 (map (new_client config) (first_numbers count)) (new_machine config) (λ q. None)
new_clients config count index s is up =
    let one = new_one config (first_numbers count) index s is in
    subst (λ (t : ClientState). IsClientBeside config [] 0 t (new_machine config) (λ q. None) (suc index)) one.1
    (record { beside = record { call = refl; count = refl }; naming = λ c none. none_some c none; settings = refl; now = omega arith })

pub new_names : (config : Config) (servers : ℕ) → IsNamesBeside config [] 0 [] (new_master config servers).logged (new_master config servers).snapshots (new_machine config) (λ q. None)
new_names config servers =
    record {
      run = ([], tt, refl, refl);
      seen = refl;
      clock = refl;
      alike = record {
        names = refl;
        next = refl;
        files = λ file. ap is_some (table.get-empty nat_cmp file) ∙ none_there config file;
        shapes = λ file has. absurd (true≢false (sym has ∙ ap is_some (table.get-empty nat_cmp file)));
        kept = λ client x is. none_some x (sym (table.get-empty nat_cmp client) ∙ is);
        untaken = λ client number c w. none_some number w.number_is;
        locks = tt;
      };
      told = λ x none. none_sent x none;
      known = λ x none. none_sent x none;
      later = λ client number x is. none_some x (sym (table.get-empty nat_cmp client) ∙ is);
    }

new_beside : (config : Config) (servers clients : ℕ) → BesideMaster config [] 0 (map (new_client config) (first_numbers clients)) [] (new_master config servers)
new_beside config servers clients = record { state = λ up. (new_machine config, λ q. None, new_names config servers, new_clients config clients); log = λ down. absurd (true≢false down) }

-- what is observed

observed_fields : (o : Observer) (client : ℕ) (a : Option Answer)
    → (answered_trace client a o.trace ≡ (observed_answer o client a).trace) × (o.greatest ≡ (observed_answer o client a).greatest) × (o.are_clocks_kept ≡ (observed_answer o client a).are_clocks_kept)
observed_fields o client None = (refl, refl, refl)
observed_fields o client (Some reply) = (refl, refl, refl)

-- a moment that passed does not pass again
pub passed_once : (trace : List Visible) (greatest moment : ℕ) → moment ≤ greatest → (trace ≡ passed_trace greatest moment trace) × (greatest ≡ max greatest moment)
passed_once trace greatest moment reached = (by_test (nat_lt greatest moment) refl, sym (max-eq_left reached))
  where
    by_test : (b : Bool) → nat_lt greatest moment ≡ b → trace ≡ passed_trace greatest moment trace
    by_test true ahead = let over = ltb-true greatest moment ahead in absurd (omega (arith, over, reached))
    by_test false behind = ap (λ (b : Bool). cond b (trace ++ Passed moment ∷ []) trace) (sym behind)

silent_of : (b : Body) → IsSilent b → IsNoWordOfNames b
silent_of (body.Name number deadline c) is = is
silent_of (body.Look number c) is = is
silent_of (body.Named number reply) is = is
silent_of other is = tt

pub all_silent : (ms : List Message) → AreSilent ms → (x : Message) → IsSent ms x → IsNoWordOfNames x.body
all_silent ms all x is = silent_of x.body (all_at (λ y. IsSilent y.body) ms is.0 x all is.1)

module _ (config : Config) (servers clients : ℕ) where
  -- of a world
  abbrev pub IsOn : WorldState → Type 0
  IsOn w = (w.config ≡ config) × (IsTrue w.observer.are_clocks_kept → BesideMaster w.config w.observer.trace w.observer.greatest w.clients w.sent w.master)

  module _ (w : WorldState) (r : IsReached config servers clients w) (on : IsOn w) where
    abbrev later : ℕ → ℕ
    later moment = max w.observer.greatest moment

    abbrev more : ℕ → List Visible
    more moment = passed_trace w.observer.greatest moment w.observer.trace

    abbrev IsKeptAt : ℕ → Type 0
    IsKeptAt moment = IsTrue (w.observer.are_clocks_kept && nat_le w.observer.greatest (moment + w.config.skew_ms))

    -- once the moment has passed
    beside_at : (moment : ℕ) → IsKeptAt moment → BesideMaster w.config (more moment) (later moment) w.clients w.sent w.master
    beside_at moment kept =
        master_passes w.config w.observer.trace w.observer.greatest w.clients w.sent w.master moment
        (on.1 (and_parts w.observer.are_clocks_kept (nat_le w.observer.greatest (moment + w.config.skew_ms)) kept).0)

    behind_at : (moment : ℕ) → IsKeptAt moment → later moment ≤ moment + w.config.skew_ms
    behind_at moment kept =
        max-le (leb-true w.observer.greatest (moment + w.config.skew_ms) (and_parts w.observer.are_clocks_kept (nat_le w.observer.greatest (moment + w.config.skew_ms)) kept).1) (omega arith)

    timed_at : (moment : ℕ) → w.master.now ≤ later moment
    timed_at moment = let early = (master_in_time config servers clients w r).1 in let low = le-max_left w.observer.greatest moment in omega (arith, early, low)

    -- clients

    module _ (index : ℕ) (s : ClientState) (up : IsTrue s.up) (at : element_at w.clients index ≡ Some s) where
      state_asked : IsTrue w.master.up → IsAskedFor w.sent w.master.logged w.master.snapshots
      state_asked on_now = ((kept_answers_were_asked_for config servers clients w r).0 on_now, snapshots_wait_for_their_request config servers clients w r on_now)

      log_asked : (decided : List Bool) → IsAskedFor w.sent (log_of w.master decided) []
      log_asked decided = ((kept_answers_were_asked_for config servers clients w r).1 decided, tt)

      abbrev k : ℕ
      k = suc (length w.sent)

      abbrev AfterIt : List Visible → ℕ → Taken ClientState → Type 0
      AfterIt trace greatest t = BesideMaster w.config (answered_trace (suc index) t.out.answer trace) greatest (with_at w.clients index t.state) (w.sent ++ stamped k t.out.sent) w.master

      comes_in : (e : Event) (moment : ℕ) (i : NodeInput) → IsGiven w e (the_client (suc index)) moment i → ComesTo w.sent (suc index) i
      comes_in e moment (input.Deliver x) given = let there = given_sent w e (the_client (suc index)) moment x given in ((there.0, there.1), there.2)
      comes_in e moment input.Tick given = tt

      step_goes : (e : Event) (moment : ℕ) (i : NodeInput) (choice : Choice) → IsGiven w e (the_client (suc index)) moment i → IsKeptAt moment → AfterIt (more moment) (later moment) (client_step s moment i choice)
      step_goes e moment i choice given kept =
          let h = beside_at moment kept in
          let reached = le-max_right w.observer.greatest moment in
          record {
            state = λ on_now.
                client_steps_are_followed config servers clients w r index s at up w.master.logged w.master.snapshots (state_asked on_now) (more moment) (later moment) (h.state on_now) moment i reached (comes_in e moment i given) k choice;
            log = λ down decided.
                client_steps_are_followed config servers clients w r index s at up (log_of w.master decided) [] (log_asked decided) (more moment) (later moment) (h.log down decided) moment i reached (comes_in e moment i given) k choice;
          }

      call_goes : (moment : ℕ) (c : Call) (choice : Choice) → s.current ≡ None → IsKeptAt moment → AfterIt (more moment ++ Called (suc index) c ∷ []) (later moment) (client_call s moment c choice)
      call_goes moment c choice none kept =
          let h = beside_at moment kept in
          let reached = le-max_right w.observer.greatest moment in
          record {
            state = λ on_now.
                client_calls_are_followed config servers clients w r index s at up w.master.logged w.master.snapshots (state_asked on_now) (more moment) (later moment) (h.state on_now) moment c reached none k choice;
            log = λ down decided. client_calls_are_followed config servers clients w r index s at up (log_of w.master decided) [] (log_asked decided) (more moment) (later moment) (h.log down decided) moment c reached none k choice;
          }

      -- as the observer has it
      seen_by : (o : Observer) (t : Taken ClientState) → AfterIt o.trace o.greatest t
          → (let seen : Observer = observed_answer o (suc index) t.out.answer in BesideMaster w.config seen.trace seen.greatest (with_at w.clients index t.state) (w.sent ++ stamped k t.out.sent) w.master)
      seen_by o t h =
          let fields = observed_fields o (suc index) t.out.answer in
          subst (λ (g : ℕ). BesideMaster w.config (observed_answer o (suc index) t.out.answer).trace g (with_at w.clients index t.state) (w.sent ++ stamped k t.out.sent) w.master) fields.1
          (subst (λ (xs : List Visible). BesideMaster w.config xs o.greatest (with_at w.clients index t.state) (w.sent ++ stamped k t.out.sent) w.master) fields.0 h)

      abbrev kept_before : Observer → Taken ClientState → Type 0
      kept_before o t = IsTrue (observed_answer o (suc index) t.out.answer).are_clocks_kept → IsTrue o.are_clocks_kept

      still_kept : (o : Observer) (t : Taken ClientState) → kept_before o t
      still_kept o t kept = (observed_fields o (suc index) t.out.answer).2 ∙ kept

      step_on : (e : Event) (moment : ℕ) (i : NodeInput) (choice : Choice) → IsGiven w e (the_client (suc index)) moment i → IsOn (after_client w index moment (client_step s moment i choice)).world
      step_on e moment i choice given = (
        on.0,
        λ kept.
            let o : Observer = observed_moment w.config.skew_ms w.observer moment in
            let t : Taken ClientState = client_step s moment i choice in
            seen_by o t (step_goes e moment i choice given (still_kept o t kept)),
      )

      call_on : (moment : ℕ) (c : Call) (choice : Choice) → s.current ≡ None → IsOn (after_client (with_call w index moment c) index moment (client_call s moment c choice)).world
      call_on moment c choice none = (
        on.0,
        λ kept.
            let first : Observer = observed_call (observed_moment w.config.skew_ms w.observer moment) (suc index) c in
            let o : Observer = observed_moment w.config.skew_ms first moment in
            let t : Taken ClientState = client_call s moment c choice in
            let both = and_parts first.are_clocks_kept (nat_le first.greatest (moment + w.config.skew_ms)) (still_kept o t kept) in
            let once = passed_once first.trace first.greatest moment (le-max_right w.observer.greatest moment) in
            let here : AfterIt first.trace first.greatest t = call_goes moment c choice none both.0 in
            seen_by o t (subst (λ (g : ℕ). AfterIt o.trace g t) once.1 (subst (λ (xs : List Visible). AfterIt xs first.greatest t) once.0 here)),
      )

    first_of : (a b c : Bool) → (a && (b && c)) ≡ true → (a ≡ true) × (b ≡ true)
    first_of true true c h = (refl, refl)
    first_of true false c h = absurd (true≢false (sym h))
    first_of false b c h = absurd (true≢false (sym h))

    none_current : (o : Option CurrentCall) → is_none o ≡ true → o ≡ None
    none_current None is = refl
    none_current (Some c) is = absurd (true≢false (sym is))

    each_event : HoldsAfter w (λ e x. IsOn x.world)
    each_event =
        let n : ℕ = suc (length w.sent) in
        record {
          nothing = λ e. on;
          masters = λ e moment i choice is up. (
            on.0,
            λ kept. step_beside config servers clients w r on.0 (more moment) (later moment) moment (le-max_right w.observer.greatest moment) (behind_at moment kept) (timed_at moment) e i is up n choice (beside_at moment kept),
          );
          opens = λ e moment choice. (on.0, λ kept. restart_beside config servers clients w r on.0 (more moment) (later moment) moment n choice (beside_at moment kept));
          serves = λ e index moment s i choice at is up. (
            on.0,
            λ kept.
                let ms : List Message = (server_step s moment i choice).out.sent in
                master_hears w.config (more moment) (later moment) w.clients w.sent w.master n ms (all_silent ms (server_silent s moment i choice)) (beside_at moment kept),
          );
          restarts = λ e index moment s choice at. (
            on.0,
            λ kept.
                let ms : List Message = (server_restart s moment choice).out.sent in
                master_hears w.config (more moment) (later moment) w.clients w.sent w.master n ms (all_silent ms (server_restart_silent s moment choice)) (beside_at moment kept),
          );
          steps = λ e index moment s i choice at is up. step_on index s up at e moment i choice is;
          calls = λ e index moment s c choice at may.
              let both = first_of s.up (is_none s.current) (has_room_to_count s) may in
              call_on index s both.0 at moment c choice (none_current s.current both.1);
          rots = λ e index handle s q place byte ending is_kept at there up. on;
        }

  pub beside_reached : (w : WorldState) → IsReached config servers clients w → IsOn w
  beside_reached = reached_with config servers clients IsOn (λ w r on. each_event w r on) (refl, λ kept. new_beside config servers clients)
