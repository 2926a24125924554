-- The machine beside a cell as the master takes a step, stops, or starts again.
use Rattle.std.proofs.Common.{◌≡◌, ℕ, zero, suc, ◌+◌, ◌≤◌, Bool, true, false, max, List, [], ◌∷◌, ◌++◌, length, take, drop, Some, refl, sym, ap, subst, ◌∙◌, arith}
use Rattle.std.specs.Prelude.{◌&&◌, nat_lt, filter, IsTrue, IsFalse}
use Rattle.std.specs.List.{AllByRecursion}
use Rattle.std.proofs.lemmas.Bool.{true≢false, ltb-true, lt-ltb}
use Rattle.std.proofs.lemmas.List.{take_all, drop_all}
use Rattle.std.proofs.Math.Nat.{le-max_left, le-max_right, max-le}
use Rattle.gfs_types.specs.declared.config.Config.{Config}
use Rattle.gfs_types.specs.declared.ids.Node.TheVariants as node
use Rattle.messages.specs.declared.event.Event.{Event}
use Rattle.messages.specs.declared.event.NodeInput.{NodeInput}
use Rattle.messages.specs.declared.event.NodeInput.TheVariants as input
use Rattle.messages.specs.declared.message.Body.{Body}
use Rattle.messages.specs.declared.message.Body.TheVariants as body
use Rattle.messages.specs.declared.message.Message.{Message}
use Rattle.log_records.specs.declared.record.Record.TheVariants as log
use Rattle.relaxed_file.specs.Machine.{Machine, new_machine}
use Rattle.relaxed_file.specs.Run.{Visible, Passed}
use Rattle.machine_names.specs.NameRuns.{LeadsByNames}
use Rattle.machine_names.specs.NameTraces.{LastCalls, none_called, last_calls}
use Rattle.machine_names.proofs.Traces.{calls_grow}
use Rattle.protocol.specs.Tables.{Table, element_at}
use Rattle.protocol.specs.Choice.{Choice, Ending, Goes, Lost, Stops, decided_changes, in_order}
use Rattle.protocol.specs.Seen.{Taken, no_step}
use Rattle.protocol.specs.Sending.{client_number}
use Rattle.protocol.specs.Logged.{Logged, KeptCall, LogDisk, LogChange, log_changed_by_all, replayed}
use Rattle.protocol.specs.Master.{MasterState, MasterDoing, PendingSnapshot, stopped_master, master_begins}
use Rattle.protocol.specs.MasterStep.{master_at, master_goes, master_ends, master_bounded, master_step, master_restart, may_end, is_within_limits, found_log, started_master, has_opened, opens_as}
use Rattle.protocol.specs.Client.{ClientState}
use Rattle.protocol.specs.World.{WorldState, IsReached, stamped}
use Rattle.laws_base.proofs.Steps.{on_cond, none_some, same_some}
use Rattle.laws_base.proofs.MembersRecorded.{all_at}
use Rattle.laws_base.proofs.MessagesSent.{IsSent, none_sent, ordered_sent}
use Rattle.laws_base.proofs.OrderNumbers.{AllFound, found_same}
use Rattle.laws_base.proofs.MasterMoves.{Nothing, NoneEnded, Keeps, logs_alone}
use Rattle.laws_base.proofs.MasterSteps.{goes_keeps}
use Rattle.laws_base.proofs.MasterClock.{master_in_time}
use Rattle.laws_base.proofs.CountsLogged.{IsFoundCounts, IsCountedLog}
use Rattle.laws_base.proofs.CountsKept.{counts_kept}
use Rattle.laws_base.proofs.NamesReached.{opening_naming, logged_here}
use Rattle.laws_base.proofs.NamesLogged.{log_has_the_names, log_has_the_files}
use Rattle.laws_base.proofs.Events.{IsGiven}
use Rattle.laws_names.specs.Alike.{Requests, AreAlike, HoldsLocks}
use Rattle.laws_names.proofs.LocksAndFiles.{locks_go_back}
use Rattle.laws_names.specs.Followed.{IsTold, IsTimely}
use Rattle.laws_names.proofs.Moves.{stays}
use Rattle.laws_names.specs.FollowedSteps.{IsAtStep, IsOfOpenCall, IsInputOfOpenCall, log_left, opened}
use Rattle.laws_names.proofs.FollowedStepsReached.{steps_are_followed, stopped_steps_are_followed}
use Rattle.laws_names.proofs.Openings.{restarts_are_followed}
use Rattle.laws_names.proofs.OpenRequestsLemmas.{old_or_open_names_are_requests}
use Rattle.laws_names.proofs.NameWords.{IsUnasked, master_asks_nothing, given_sent}
use Rattle.laws_base.specs.FileCalls.{IsNoWordOfNames}
use Rattle.laws_names.specs.Beside.{lasts, lasting, IsKnown, IsNamesBeside, Beside}
use Rattle.laws_names.proofs.BesideClientsBeside.{all_fewer, relocked, settings_of, passed_trace, all_on, passes, moved, says_more, says_else, relogged}
use Rattle.laws_base.proofs.ShapesTold.{log_has_the_shapes}

-- what the log says as it is decided
abbrev pub log_of : MasterState → List Bool → Logged
log_of x decided = replayed (log_changed_by_all x.disk (decided_changes decided x.under_way))

-- a machine beside the master's state while it is up, and one beside each log that a restart may find while it is down
pub record BesideMaster (config : Config) (trace : List Visible) (greatest : ℕ) (clients : List ClientState) (sent : List Message) (x : MasterState) : Type 0 where
  pub state : IsTrue x.up → Beside config trace greatest clients sent x.logged x.snapshots
  pub log : IsFalse x.up → (decided : List Bool) → Beside config trace greatest clients sent (log_of x decided) []

-- the clock

pub passed_last : (trace : List Visible) (greatest moment q : ℕ) → last_calls none_called (passed_trace greatest moment trace) q ≡ last_calls none_called trace q
passed_last trace greatest moment q =
    on_cond (λ (xs : List Visible). last_calls none_called xs q ≡ last_calls none_called trace q) (nat_lt greatest moment) (trace ++ Passed moment ∷ []) trace
    (λ _. ap (λ (f : LastCalls). f q) (calls_grow none_called trace (Passed moment))) (λ _. refl)

moment_passes : (config : Config) (trace : List Visible) (greatest : ℕ) (clients : List ClientState) (sent : List Message) (l : Logged) (ss : List PendingSnapshot) (moment : ℕ) → Beside config trace greatest clients sent l ss
    → Beside config (passed_trace greatest moment trace) (max greatest moment) clients sent l ss
moment_passes config trace greatest clients sent l ss moment b =
    let p = passes config trace greatest sent l ss b.0 b.1 b.2 moment in
    (p.0, b.1, p.1, all_on config trace (passed_trace greatest moment trace) greatest (max greatest moment) clients b.0 p.0 b.1 p.2 (λ q. passed_last trace greatest moment q) (le-max_left greatest moment) b.3)

pub master_passes : (config : Config) (trace : List Visible) (greatest : ℕ) (clients : List ClientState) (sent : List Message) (x : MasterState) (moment : ℕ) → BesideMaster config trace greatest clients sent x
    → BesideMaster config (passed_trace greatest moment trace) (max greatest moment) clients sent x
master_passes config trace greatest clients sent x moment h =
    record {
      state = λ up. moment_passes config trace greatest clients sent x.logged x.snapshots moment (h.state up);
      log = λ down decided. moment_passes config trace greatest clients sent (log_of x decided) [] moment (h.log down decided);
    }

-- what says nothing of names
else_said : (config : Config) (trace : List Visible) (greatest : ℕ) (clients : List ClientState) (sent : List Message) (l : Logged) (ss : List PendingSnapshot) (k : ℕ) (ms : List Message) → ((x : Message) → IsSent ms x → IsNoWordOfNames x.body)
    → Beside config trace greatest clients sent l ss → Beside config trace greatest clients (sent ++ stamped k ms) l ss
else_said config trace greatest clients sent l ss k ms silent b = (b.0, b.1, says_else config trace greatest sent l ss b.0 b.1 b.2 k ms silent, b.3)

pub master_hears : (config : Config) (trace : List Visible) (greatest : ℕ) (clients : List ClientState) (sent : List Message) (x : MasterState) (k : ℕ) (ms : List Message) → ((x : Message) → IsSent ms x → IsNoWordOfNames x.body)
    → BesideMaster config trace greatest clients sent x → BesideMaster config trace greatest clients (sent ++ stamped k ms) x
master_hears config trace greatest clients sent x k ms silent h =
    record {
      state = λ up. else_said config trace greatest clients sent x.logged x.snapshots k ms silent (h.state up);
      log = λ down decided. else_said config trace greatest clients sent (log_of x decided) [] k ms silent (h.log down decided);
    }

-- the master stays up in its step
up_keeps : Keeps ⊥ Nothing NoneEnded (λ c. c.up ≡ true)
up_keeps =
    record {
      sound = λ asks. absurd asks;
      tells = λ c receiver b quiet h. h;
      orders = λ c server b is plain h. h;
      revokes = λ c handle row is h. h;
      grants = λ c handle version until primary members told due names from idle h. h;
      appends = λ c r due plain names h. h;
      checkpoint = λ c tree h. h;
      less = λ c handles copied h. h;
      ends = λ c handle row is word h. h;
      extends = λ c handle until row is left later from h. h;
    }

told_at : (m : Machine) (requests : Requests) (ms : List Message) (place : ℕ) (x : Message) → AllByRecursion (IsTold m requests) ms → element_at ms place ≡ Some x → IsTold m requests x
told_at m requests [] place x all at = none_some x at
told_at m requests (y ∷ ms) zero x all at = subst (λ (z : Message). IsTold m requests z) (same_some y x at) all.0
told_at m requests (y ∷ ms) (suc place) x all at = told_at m requests ms place x all.1 at

unasked_known : (kept : Table KeptCall) (m : Machine) (requests : Requests) (q : ℕ) (b : Body) → IsUnasked b → IsKnown kept m requests q b
unasked_known kept m requests q (body.Name number deadline c) is = absurd is
unasked_known kept m requests q (body.Look number c) is = absurd is
unasked_known kept m requests q other is = tt

module _ (config : Config) (servers clients : ℕ) (w : WorldState) (r : IsReached config servers clients w) (same : w.config ≡ config) (trace : List Visible) (greatest : ℕ) where
  abbrev Here : Logged → List PendingSnapshot → List Message → Type 0
  Here l ss sent = Beside w.config trace greatest w.clients sent l ss

  -- what a restart finds, also of a master that is up
  pub found_beside : BesideMaster w.config trace greatest w.clients w.sent w.master → AllFound (λ d. Here (replayed d) [] w.sent) w.master.disk w.master.under_way
  found_beside h = by_up w.master.up refl
    where
      by_up : (b : Bool) → w.master.up ≡ b → AllFound (λ d. Here (replayed d) [] w.sent) w.master.disk w.master.under_way
      by_up true up =
          let b = h.state up in
          let names = log_has_the_names config servers clients w r up in
          let files = log_has_the_files config servers clients w r up in
          let idle : w.master.under_way ≡ [] = ((logged_here IsFoundCounts IsCountedLog counts_kept config servers clients w r).1.up up).idle in
          let here : Here (replayed w.master.disk) [] w.sent =
          (b.0, b.1, relogged w.config trace greatest w.sent w.master.logged w.master.snapshots b.0 b.1 b.2 (replayed w.master.disk) names.0 names.1 files (λ file has. (log_has_the_shapes config servers clients w r up file has).0) names.4, b.3) in
          subst (λ (xs : List LogChange). AllFound (λ d. Here (replayed d) [] w.sent) w.master.disk xs) (sym idle) (found_same (λ d. Here (replayed d) [] w.sent) w.master.disk here)
      by_up false down = h.log down

  stopped : (k : ℕ) (disk : LogDisk) (under_way : List LogChange) → AllFound (λ d. Here (replayed d) [] w.sent) disk under_way → BesideMaster w.config trace greatest w.clients (w.sent ++ stamped k []) (stopped_master w.master disk under_way)
  stopped k disk under_way h =
      record {
        state = λ up. absurd (true≢false (sym up));
        log = λ down decided. else_said w.config trace greatest w.clients w.sent (replayed (log_changed_by_all disk (decided_changes decided under_way))) [] k [] (λ x none. none_sent x none) (h decided);
      }

  -- a step

  module _ (moment : ℕ) (reached : moment ≤ greatest) (behind : greatest ≤ moment + w.config.skew_ms) (timed : w.master.now ≤ greatest) (e : Event) (i : NodeInput) (given : IsGiven w e node.Master moment i) (up : IsTrue w.master.up) (k : ℕ) (choice : Choice)
      (h : BesideMaster w.config trace greatest w.clients w.sent w.master)
    where
      abbrev d : MasterDoing
      d = master_goes w.master moment i choice.refused

      abbrev Good : Taken MasterState → Type 0
      Good t = ((x : Message) → IsSent t.out.sent x → IsUnasked x.body) → BesideMaster w.config trace greatest w.clients (w.sent ++ stamped k t.out.sent) t.state

      abbrev m : Machine
      m = (h.state up).0

      abbrev requests : Requests
      requests = (h.state up).1

      abbrev names : IsNamesBeside w.config trace greatest w.sent w.master.logged w.master.snapshots m requests
      names = (h.state up).2

      same_settings : m.config ≡ w.config
      same_settings = settings_of w.config trace greatest w.sent w.master.logged w.master.snapshots m requests names

      skew_is : m.config.skew_ms ≡ w.config.skew_ms
      skew_is = ap (λ (x : Config). x.skew_ms) same_settings

      timely : IsTimely m (max w.master.now moment)
      timely =
          let clock = names.clock in
          let skew = skew_is in
          let low = le-max_right w.master.now moment in
          let most : max w.master.now moment ≤ greatest = max-le timed reached in
          (omega (arith, clock, skew, low, behind), omega (arith, clock, most))

      live : AllByRecursion (HoldsLocks m requests) (filter (λ s. nat_lt (max w.master.now moment) s.deadline) w.master.snapshots)
      live =
          let low = le-max_right w.master.now moment in
          all_fewer (HoldsLocks m requests) (λ s. nat_lt (max w.master.now moment) s.deadline) (lasts w.config.skew_ms greatest) w.master.snapshots
          (λ s is. let early = ltb-true (max w.master.now moment) s.deadline is in lt-ltb greatest (s.deadline + w.config.skew_ms) (omega (arith, early, low, behind))) (names.alike).locks

      at_step : IsAtStep config (master_at w.master moment) m requests
      at_step =
          record {
            run = subst (λ (g : Config). LeadsByNames (new_machine g) m) same names.run;
            settings = same_settings ∙ sym (master_in_time config servers clients w r).0;
            timely = timely;
            alike = relocked w.master.logged (lasting w.config.skew_ms greatest w.master.snapshots) (filter (λ s. nat_lt (max w.master.now moment) s.deadline) w.master.snapshots) m requests names.alike live;
          }

      abbrev begun : MasterDoing
      begun = master_begins (master_at w.master moment) choice.refused

      body_open : (x : Message) (b : Body) → IsKnown w.master.logged.kept m requests (client_number x.sender) b → IsOfOpenCall begun m requests x b
      body_open x (body.Name number deadline c) g = old_or_open_names_are_requests begun m requests (client_number x.sender) number deadline.0 c timely g.0 g.1
      body_open x (body.Look number c) g = g
      body_open x other g = tt

      input_open : (j : NodeInput) → IsGiven w e node.Master moment j → IsInputOfOpenCall begun m requests j
      input_open (input.Deliver x) is = let there = given_sent w e node.Master moment x is in body_open x x.body (names.known x (there.0, there.1))
      input_open input.Tick is = tt

      still_up : d.master.up ≡ true
      still_up = goes_keeps (λ c. c.up ≡ true) up_keeps w.master moment i choice.refused up

      goes : Good (master_ends w.master d choice Goes)
      goes unasked =
          record {
            state = λ _.
                let f = steps_are_followed config servers clients w r up moment i choice.refused m requests at_step (input_open i given) in
                let n : Machine = f.0 in
                let alike : AreAlike d.master.logged (lasting w.config.skew_ms greatest d.master.snapshots) n requests = locks_go_back d.master.logged d.master.snapshots n requests (lasts w.config.skew_ms greatest) (f.2).alike in
                let after_it = moved w.config trace greatest w.sent w.master.logged w.master.snapshots m requests names d.master.logged d.master.snapshots n (f.1).run (f.1).told alike f.3 in (
                  n,
                  requests,
                  says_more w.config trace greatest w.sent d.master.logged d.master.snapshots n requests after_it.0 k (in_order choice.order d.sent)
                      (λ x is.
                      let there = ordered_sent choice.order d.sent x is in
                      (told_at n requests d.sent there.0 x (f.2).told there.1, unasked_known d.master.logged.kept n requests (client_number x.sender) x.body (unasked x is))),
                  all_on w.config trace trace greatest greatest w.clients m n requests after_it.1 (λ q. refl) (omega arith) (h.state up).3,
                );
            log = λ down. absurd (true≢false (sym still_up ∙ down));
          }

      idle : w.master.under_way ≡ []
      idle = ((logged_here IsFoundCounts IsCountedLog counts_kept config servers clients w r).1.up up).idle

      stops : (made : ℕ) → Good (master_ends w.master d choice (Stops made))
      stops made unasked =
          record {
            state = λ on. absurd (true≢false (sym on));
            log = λ down decided.
                let f = stopped_steps_are_followed config servers clients w r up moment i choice.refused m requests at_step (input_open i given) made decided in
                let read : Logged = replayed (log_left w.master.disk d.changes made decided) in
                let after_it = moved w.config trace greatest w.sent w.master.logged w.master.snapshots m requests names read [] f.0 (f.1).run (f.1).told f.2 f.3 in
                else_said w.config trace greatest w.clients w.sent read [] k [] (λ x none. none_sent x none)
                (f.0, requests, after_it.0, all_on w.config trace trace greatest greatest w.clients m f.0 requests after_it.1 (λ q. refl) (omega arith) (h.state up).3);
          }

      by_ending : (x : Ending) → Good (master_ends w.master d choice x)
      by_ending Goes = goes
      by_ending (Stops made) = stops made
      by_ending Lost = λ unasked. stopped k w.master.disk [] (subst (λ (xs : List LogChange). AllFound (λ d. Here (replayed d) [] w.sent) w.master.disk xs) idle (found_beside h))

      same_master : Good (no_step w.master)
      same_master unasked = master_hears w.config trace greatest w.clients w.sent w.master k [] (λ x none. none_sent x none) h

      pub step_beside : BesideMaster w.config trace greatest w.clients (w.sent ++ stamped k (master_step w.master moment i choice).out.sent) (master_step w.master moment i choice).state
      step_beside =
          on_cond Good w.master.up (master_bounded w.master i d choice) (no_step w.master)
          (λ _. on_cond Good (may_end w.master i d choice.ending) (master_ends w.master d choice choice.ending) (no_step w.master) (λ _. by_ending choice.ending) (λ _. same_master)) (λ _. same_master)
          (λ x is. all_at (λ y. IsUnasked y.body) (master_step w.master moment i choice).out.sent is.0 x (master_asks_nothing w.master moment i choice) is.1)

  -- a restart

  module _ (moment k : ℕ) (choice : Choice) (h : BesideMaster w.config trace greatest w.clients w.sent w.master) where
    abbrev found : LogDisk
    found = found_log w.master choice

    abbrev open_master : MasterDoing
    open_master = opened w.master moment choice

    abbrev Opens : Taken MasterState → Type 0
    Opens t = BesideMaster w.config trace greatest w.clients (w.sent ++ stamped k t.out.sent) t.state

    abbrev before : Here (replayed found) [] w.sent
    before = found_beside h choice.decided

    left_at : (made : ℕ) → (decided : List Bool) → Here (replayed (log_left found open_master.changes made decided)) [] w.sent
    left_at made decided =
        let f = (restarts_are_followed config servers clients w r moment choice before.0 before.1 (before.2).alike).2 made decided in
        let after_it = moved w.config trace greatest w.sent (replayed found) [] before.0 before.1 before.2 (replayed (log_left found open_master.changes made decided)) [] f.0 (f.1).run (f.1).told f.2 f.3 in
        (f.0, before.1, after_it.0, all_on w.config trace trace greatest greatest w.clients before.0 f.0 before.1 after_it.1 (λ q. refl) (omega arith) before.3)

    -- the whole opening is on the disk
    whole : (decided : List Bool) → Here (replayed (log_changed_by_all open_master.master.disk (decided_changes decided []))) [] w.sent
    whole decided =
        let known = logged_here IsFoundCounts IsCountedLog counts_kept config servers clients w r in
        let xs : List LogChange = open_master.changes in
        let disk : log_changed_by_all found xs ≡ open_master.master.disk =
        (opening_naming IsFoundCounts IsCountedLog counts_kept w.master.config w.master.server_count found moment (known.1.found choice.decided) (known.0.found choice.decided)).0.disk in
        let all_made : log_changed_by_all found (take (length xs) xs) ≡ open_master.master.disk = ap (λ (ys : List LogChange). log_changed_by_all found ys) (take_all (length xs) xs (omega arith)) ∙ disk in
        let none_left : take 1 (drop (length xs) xs) ≡ [] = ap (λ (ys : List LogChange). take 1 ys) (drop_all (length xs) xs (omega arith)) in
        subst (λ (y : LogDisk). Here (replayed (log_changed_by_all y (decided_changes decided []))) [] w.sent) all_made
        (subst (λ (ys : List LogChange). Here (replayed (log_changed_by_all (log_changed_by_all found (take (length xs) xs)) (decided_changes decided ys))) [] w.sent) none_left (left_at (length xs) decided))

    abbrev started : MasterState
    started = started_master w.master.config w.master.server_count found moment

    open_up : open_master.master.up ≡ true
    open_up = logs_alone (λ e. e.master.up ≡ true) (master_begins started []) (log.Epoch (suc started.logged.epoch)) refl refl refl refl

    running : Opens (opens_as w.master started open_master choice Goes)
    running =
        on_cond Opens (has_opened started open_master && is_within_limits open_master.master) _ _
        (λ _.
        let f = restarts_are_followed config servers clients w r moment choice before.0 before.1 (before.2).alike in
        let alike = locks_go_back open_master.master.logged open_master.master.snapshots before.0 before.1 (lasts w.config.skew_ms greatest) f.0 in
        let after_it = moved w.config trace greatest w.sent (replayed found) [] before.0 before.1 before.2 open_master.master.logged open_master.master.snapshots before.0 (stays before.0) (λ x told. told) alike f.1 in
        let here : Here open_master.master.logged open_master.master.snapshots w.sent = (before.0, before.1, after_it.0, before.3) in
        record {
          state = λ _. else_said w.config trace greatest w.clients w.sent open_master.master.logged open_master.master.snapshots k [] (λ x none. none_sent x none) here;
          log = λ down. absurd (true≢false (sym open_up ∙ down));
        })
        (λ _. stopped k open_master.master.disk [] whole)

    by_end : (x : Ending) → Opens (opens_as w.master started open_master choice x)
    by_end Goes = running
    by_end Lost = stopped k w.master.disk w.master.under_way (found_beside h)
    by_end (Stops made) = stopped k (log_changed_by_all found (take made open_master.changes)) (take 1 (drop made open_master.changes)) (left_at made)

    pub restart_beside : BesideMaster w.config trace greatest w.clients (w.sent ++ stamped k (master_restart w.master moment choice).out.sent) (master_restart w.master moment choice).state
    restart_beside = by_end choice.ending
