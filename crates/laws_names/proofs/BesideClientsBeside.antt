-- The machine beside a cell: how it goes on as the clock does, as the master does, as more is said, and as one client does.
use Rattle.std.proofs.Common.{◌≡◌, ⊎_elim, ℕ, zero, suc, ◌+◌, ◌≤◌, Bool, true, false, cond, max, List, [], ◌∷◌, ◌++◌, Option, Some, None, refl, sym, ap, subst, ◌∙◌, inl, inr, arith}
use Rattle.std.specs.Prelude.{nat_lt, filter, IsTrue}
use Rattle.std.specs.List.{AllByRecursion}
use Rattle.std.proofs.lemmas.Bool.{true≢false, ltb-true, ltb-false, lt-ltb}
use Rattle.std.proofs.lemmas.List.{append-nil}
use Rattle.std.proofs.Math.Nat.{max-eq_left, max-eq_right}
use Rattle.std.specs.FinMap as table
use Rattle.gfs_types.specs.declared.config.Config.{Config}
use Rattle.gfs_types.specs.declared.ids.Node.{Node}
use Rattle.gfs_types.specs.declared.call.Call.{Call}
use Rattle.messages.specs.declared.message.Body.{Body}
use Rattle.messages.specs.declared.message.Body.TheVariants as body
use Rattle.messages.specs.declared.message.Message.{Message}
use Rattle.relaxed_file.specs.Machine.{Machine, Asked, OpenCall, new_machine}
use Rattle.relaxed_file.specs.Run.{Visible, Passed, Pass, visible, after}
use Rattle.machine_names.proofs.Runs.{name_runs_go_on}
use Rattle.machine_names.specs.UnseenRuns.{IsSameCall, IsLeft, AreLeft}
use Rattle.machine_names.proofs.Unseen.{unseen_runs_leave_clients}
use Rattle.machine_names.specs.NameTraces.{none_called, last_calls, is_naming}
use Rattle.machine_names.proofs.Seen.{single, left_same, call_before, clock_and_settings_are_seen}
use Rattle.machine_names.proofs.Traces.{part_grows}
use Rattle.client_state.specs.declared.call.CurrentCall.{CurrentCall}
use Rattle.client_state.specs.declared.call.Stage.{Stage}
use Rattle.client_state.specs.declared.call.Stage.TheVariants.{AskedNames}
use Rattle.protocol.specs.Tables.{Table, element_at, with_at}
use Rattle.protocol.specs.Sending.{client_number}
use Rattle.protocol.specs.Logged.{Logged, KeptCall}
use Rattle.protocol.specs.Master.{PendingSnapshot}
use Rattle.protocol.specs.Client.{ClientState}
use Rattle.protocol.specs.World.{stamped}
use Rattle.laws_base.proofs.Steps.{none_some, same_some, same_or_not}
use Rattle.laws_base.proofs.RisingOrders.{set_cases}
use Rattle.laws_base.proofs.MessagesSent.{IsSent, IsSameMessage}
use Rattle.laws_base.proofs.RequestsOnce.{later_cases}
use Rattle.laws_names.specs.Alike.{Requests, AreAlike, AreUntaken, IsKept, IsWaiting, HoldsLocks}
use Rattle.laws_names.specs.Followed.{RunsTo, IsToldTo, IsTold, AreKeptOn}
use Rattle.laws_names.proofs.Ends.{moments_pass}
use Rattle.laws_names.specs.FollowedClients.{IsBesideAt, IsBesideCall, IsBesideClient}
use Rattle.laws_names.specs.OpenRequests.{IsOldOrOpen, AreNotLater}
use Rattle.laws_names.proofs.OpenRequestsLemmas.{names_stay_old_or_open}
use Rattle.laws_base.specs.FileCalls.{IsNoWordOfNames}
use Rattle.laws_names.specs.Beside.{lasts, lasting, IsKnown, IsNamesBeside, IsClientBeside, AreClientsBeside}
use Rattle.chunk_table.specs.ChunkTable.{shape_of}

pub all_fewer : (P : PendingSnapshot → Type 0) (p q : PendingSnapshot → Bool) (ss : List PendingSnapshot) → ((s : PendingSnapshot) → p s ≡ true → q s ≡ true) → AllByRecursion P (filter q ss) → AllByRecursion P (filter p ss)
all_fewer P p q [] more all = tt
all_fewer P p q (s ∷ ss) more all = by_tests (p s) refl (q s) refl (λ h. all_fewer P p q ss more h) all
  where
    by_tests : (a : Bool) → p s ≡ a → (b : Bool) → q s ≡ b → (AllByRecursion P (filter q ss) → AllByRecursion P (filter p ss)) → AllByRecursion P (cond b (s ∷ filter q ss) (filter q ss)) → AllByRecursion P (cond a (s ∷ filter p ss) (filter p ss))
    by_tests true is true also rest h = (h.0, rest h.1)
    by_tests true is false also rest h = absurd (true≢false (sym (more s is) ∙ also))
    by_tests false is true also rest h = rest h.1
    by_tests false is false also rest h = rest h

pub relocked : (l : Logged) (ss others : List PendingSnapshot) (m : Machine) (requests : Requests) → AreAlike l ss m requests → AllByRecursion (HoldsLocks m requests) others → AreAlike l others m requests
relocked l ss others m requests h locks = record { names = h.names; next = h.next; files = h.files; shapes = h.shapes; kept = h.kept; untaken = h.untaken; locks = locks }

pub settings_of : (config : Config) (trace : List Visible) (greatest : ℕ) (sent : List Message) (l : Logged) (ss : List PendingSnapshot) (m : Machine) (requests : Requests) → IsNamesBeside config trace greatest sent l ss m requests → m.config ≡ config
settings_of config trace greatest sent l ss m requests h = (clock_and_settings_are_seen (new_machine config) m h.run).1

-- a client whose call is left

module _ (m n : Machine) (requests later : Requests) (q : ℕ) (left : IsLeft (m.clients q) (n.clients q)) (same : later q ≡ requests q) where
  pub waiting_on : (number : ℕ) (current : OpenCall) → IsWaiting m requests q number current → (x : OpenCall) × IsWaiting n later q number x × (x.asked ≡ current.asked)
  waiting_on number current w =
      let on = subst (λ (o : Option OpenCall). IsSameCall o (n.clients q).open_call) w.is_open left.call in
      (on.0, record { is_open = on.1; number_is = same ∙ w.number_is }, on.3)

  pub waiting_back : (number : ℕ) (x : OpenCall) → IsWaiting n later q number x → (d : OpenCall) × IsWaiting m requests q number d × (x.asked ≡ d.asked)
  waiting_back number x w =
      let before = call_before (m.clients q).open_call (n.clients q).open_call left.call x w.is_open in
      (before.0, record { is_open = before.1; number_is = sym same ∙ w.number_is }, before.2)

  pub known_on : (kept : Table KeptCall) (b : Body) → m.clock ≤ n.clock → n.config ≡ m.config → IsKnown kept m requests q b → IsKnown kept n later q b
  known_on kept (body.Name number deadline c) passed settings h = (
    h.0,
    ⊎_elim
        (λ old. inl old)
        (λ rest. ⊎_elim
        (λ late.
        let skew : n.config.skew_ms ≡ m.config.skew_ms = ap (λ (x : Config). x.skew_ms) settings in
        inr (inl (omega (arith, late, skew, passed))))
        (λ open_call.
        let on = waiting_on number open_call.0 open_call.1 in
        inr (inr (on.0, on.1, ap (λ (a : Asked). a.call) on.2 ∙ open_call.2)))
        rest)
        h.1,
  )
  known_on kept (body.Look number c) passed settings h = (h.0, λ x w. let before = waiting_back number x w in ap (λ (a : Asked). a.call) before.2 ∙ h.1 before.0 before.1)
  known_on kept other passed settings h = tt

  idle_on : (m.clients q).open_call ≡ None → (n.clients q).open_call ≡ None
  idle_on none = subst (λ (o : Option OpenCall). IsSameCall o (n.clients q).open_call) none left.call

  at_on : (c : CurrentCall) (st : Stage) → IsBesideAt m requests q c st → IsBesideAt n later q c st
  at_on c AskedNames h = let on = waiting_on c.number h.0 h.1 in (on.0, on.1, ap (λ (a : Asked). a.call) on.2 ∙ h.2, h.3)
  at_on c other h = idle_on h

  call_on : (o : Option CurrentCall) → IsBesideCall m requests q o → IsBesideCall n later q o
  call_on None h = idle_on h
  call_on (Some c) h = at_on c c.stage h

  beside_on : (s : ClientState) → IsBesideClient s m requests q → IsBesideClient s n later q
  beside_on s h = record { call = call_on s.current h.call; count = left.count ∙ h.count }

  pub client_on : (config : Config) (trace more : List Visible) (greatest passed : ℕ) (s : ClientState) → last_calls none_called more q ≡ last_calls none_called trace q → greatest ≤ passed
      → IsClientBeside config trace greatest s m requests q → IsClientBeside config more passed s n later q
  client_on config trace more greatest passed s last up h =
      record {
        beside = beside_on s h.beside;
        naming = λ c is. ap is_naming last ∙ h.naming c is;
        settings = h.settings;
        now = (let early = h.now in omega (arith, early, up));
      }

-- all clients, where each is left
pub all_on : (config : Config) (trace more : List Visible) (greatest passed : ℕ) (clients : List ClientState) (m n : Machine) (requests : Requests) → ((q : ℕ) → IsLeft (m.clients q) (n.clients q))
    → ((q : ℕ) → last_calls none_called more q ≡ last_calls none_called trace q) → greatest ≤ passed → AreClientsBeside config trace greatest clients m requests → AreClientsBeside config more passed clients n requests
all_on config trace more greatest passed clients m n requests left last up h index s is on = client_on m n requests requests (suc index) (left (suc index)) refl config trace more greatest passed s (last (suc index)) up (h index s is on)

put_at : (t : ClientState) (xs : List ClientState) (i : ℕ) (s : ClientState) → element_at (with_at xs i t) i ≡ Some s → t ≡ s
put_at t [] i s e = none_some s e
put_at t (x ∷ xs) zero s e = same_some t s e
put_at t (x ∷ xs) (suc i) s e = put_at t xs i s e

-- one client goes on, and the others are left
pub one_on : (config : Config) (trace more : List Visible) (greatest : ℕ) (clients : List ClientState) (m n : Machine) (requests later : Requests) (index : ℕ) (t : ClientState)
    → ((q : ℕ) → (q ≡ suc index → ⊥) → IsLeft (m.clients q) (n.clients q)) → ((q : ℕ) → (q ≡ suc index → ⊥) → later q ≡ requests q)
    → ((q : ℕ) → (q ≡ suc index → ⊥) → last_calls none_called more q ≡ last_calls none_called trace q)
    → (IsTrue t.up → IsClientBeside config more greatest t n later (suc index)) → AreClientsBeside config trace greatest clients m requests → AreClientsBeside config more greatest (with_at clients index t) n later
one_on config trace more greatest clients m n requests later index t left asked last own h other s is up = ⊎_elim
    (λ same.
    let at : element_at (with_at clients index t) index ≡ Some s = subst (λ (i : ℕ). element_at (with_at clients index t) i ≡ Some s) (sym same) is in
    let here : t ≡ s = put_at t clients index s at in
    subst (λ (i : ℕ). IsClientBeside config more greatest s n later (suc i)) same
    (subst (λ (x : ClientState). IsClientBeside config more greatest x n later (suc index)) here (own (subst (λ (x : ClientState). IsTrue x.up) (sym here) up))))
    (λ apart.
    let not : suc other ≡ suc index → ⊥ = λ e. apart (omega (arith, e)) in
    ⊎_elim (λ both. absurd (apart (sym both.0)))
    (λ there. client_on m n requests later (suc other) (left (suc other) not) (asked (suc other) not) config trace more greatest greatest s (last (suc other) not) (omega arith) (h other s there up))
    (set_cases clients index t other s is))
    (same_or_not index other)

-- the clock

abbrev pub passed_trace : ℕ → ℕ → List Visible → List Visible
passed_trace greatest moment trace = cond (nat_lt greatest moment) (trace ++ Passed moment ∷ []) trace

module _ (config : Config) (trace : List Visible) (greatest : ℕ) (sent : List Message) (l : Logged) (ss : List PendingSnapshot) (m : Machine) (requests : Requests) (h : IsNamesBeside config trace greatest sent l ss m requests) where
  abbrev PassedBy : List Visible → ℕ → Type 0
  PassedBy more passed = (n : Machine) × IsNamesBeside config more passed sent l ss n requests × ((q : ℕ) → IsLeft (m.clients q) (n.clients q))

  pub passes_at : (moment : ℕ) → nat_lt greatest moment ≡ true → IsNamesBeside config (trace ++ Passed moment ∷ []) moment sent l ss (after m (Pass moment)) requests
  passes_at moment ahead =
      let n : Machine = after m (Pass moment) in
      let now = h.clock in
      let before = ltb-true greatest moment ahead in
      let allowed : m.clock ≤ moment = omega (arith, now, before) in
      let both = name_runs_go_on (new_machine config) m n h.run (single m (Pass moment) allowed refl) in
      let passed = moments_pass l (lasting config.skew_ms greatest ss) m requests moment h.alike in
      let locks = all_fewer (HoldsLocks n requests) (lasts config.skew_ms moment) (lasts config.skew_ms greatest) ss
      (λ s is. let long = ltb-true moment (s.deadline + config.skew_ms) is in lt-ltb greatest (s.deadline + config.skew_ms) (omega (arith, long, before))) passed.0.locks in
      record {
        run = both.0;
        seen = both.1 ∙ ap (λ (xs : List Visible). xs ++ Passed moment ∷ []) h.seen ∙ sym (part_grows none_called trace (Passed moment));
        clock = refl;
        alike = relocked l (lasting config.skew_ms greatest ss) (lasting config.skew_ms moment ss) n requests passed.0 locks;
        told = λ x is. passed.1 x (h.told x is);
        known = λ x is. known_on m n requests requests (client_number x.sender) (left_same (m.clients (client_number x.sender))) refl l.kept x.body allowed refl (h.known x is);
        later = h.later;
      }

  passes_on : (moment : ℕ) → nat_lt greatest moment ≡ true → PassedBy (trace ++ Passed moment ∷ []) moment
  passes_on moment ahead = (after m (Pass moment), passes_at moment ahead, λ q. left_same (m.clients q))

  pub passes : (moment : ℕ) → PassedBy (passed_trace greatest moment trace) (max greatest moment)
  passes moment = by_test (nat_lt greatest moment) refl
    where
      by_test : (b : Bool) → nat_lt greatest moment ≡ b → PassedBy (cond b (trace ++ Passed moment ∷ []) trace) (max greatest moment)
      by_test true ahead =
          let before = ltb-true greatest moment ahead in
          subst (λ (g : ℕ). PassedBy (trace ++ Passed moment ∷ []) g) (sym (max-eq_right (let low : greatest ≤ moment = omega (arith, before) in low))) (passes_on moment ahead)
      by_test false behind = subst (λ (g : ℕ). PassedBy trace g) (sym (max-eq_left (ltb-false greatest moment behind))) (m, h, λ q. left_same (m.clients q))

  -- the machine follows the master, unseen
  pub moved : (k : Logged) (others : List PendingSnapshot) (n : Machine) → RunsTo m n → ((x : Message) → IsTold m requests x → IsTold n requests x) → AreAlike k (lasting config.skew_ms greatest others) n requests → AreKeptOn requests l.kept k.kept
      → IsNamesBeside config trace greatest sent k others n requests × ((q : ℕ) → IsLeft (m.clients q) (n.clients q))
  moved k others n run told alike kept_on =
      let left : AreLeft m n = unseen_runs_leave_clients m n run.0 run.1 in
      let both = name_runs_go_on (new_machine config) m n h.run run.0 in
      let on = names_stay_old_or_open m n requests l.kept k.kept run kept_on h.later in (
        record {
          run = both.0;
          seen = both.1 ∙ ap (λ (xs : List Visible). visible (h.run).0 ++ xs) run.1 ∙ append-nil (visible (h.run).0) ∙ h.seen;
          clock = left.clock ∙ h.clock;
          alike = alike;
          told = λ x is. told x (h.told x is);
          known = λ x is. known_then left (client_number x.sender) (λ number deadline c. on.1 (client_number x.sender) number deadline c) x.body (h.known x is);
          later = on.0;
        },
        left.clients,
      )
    where
      known_then : AreLeft m n → (q : ℕ) → ((number deadline : ℕ) (c : Call) → IsOldOrOpen l.kept m requests q number deadline c → IsOldOrOpen k.kept n requests q number deadline c) → (b : Body) → IsKnown l.kept m requests q b → IsKnown k.kept n requests q b
      known_then left q on (body.Name number deadline c) g = (g.0, on number deadline.0 c g.1)
      known_then left q on (body.Look number c) g = (g.0, λ x w. let before = waiting_back m n requests requests q (left.clients q) refl number x w in ap (λ (a : Asked). a.call) before.2 ∙ g.1 before.0 before.1)
      known_then left q on other g = tt

  -- more is said

  abbrev IsHeard : Message → Type 0
  IsHeard x = IsTold m requests x × IsKnown l.kept m requests (client_number x.sender) x.body

  same_heard : (x y : Message) → IsSameMessage x y → IsHeard x → IsHeard y
  same_heard x y same g =
      subst (λ (b : Body). IsToldTo m requests (client_number y.receiver) b × IsKnown l.kept m requests (client_number y.sender) b) same.2
      (subst (λ (n : Node). IsToldTo m requests (client_number n) x.body × IsKnown l.kept m requests (client_number y.sender) x.body) same.1
      (subst (λ (n : Node). IsToldTo m requests (client_number x.receiver) x.body × IsKnown l.kept m requests (client_number n) x.body) same.0 g))

  pub says_more : (k : ℕ) (ms : List Message) → ((x : Message) → IsSent ms x → IsHeard x) → IsNamesBeside config trace greatest (sent ++ stamped k ms) l ss m requests
  says_more k ms heard =
      record {
        run = h.run;
        seen = h.seen;
        clock = h.clock;
        alike = h.alike;
        told = λ x is. (each x is).0;
        known = λ x is. (each x is).1;
        later = h.later;
      }
    where
      each : (x : Message) → IsSent (sent ++ stamped k ms) x → IsHeard x
      each x is = ⊎_elim (λ before. (h.told x (is.0, before), h.known x (is.0, before))) (λ now. same_heard now.0 x now.2 (heard now.0 now.1)) (later_cases sent k ms is.0 x is.1)

  silent_heard : (x : Message) (b : Body) → IsNoWordOfNames b → IsToldTo m requests (client_number x.receiver) b × IsKnown l.kept m requests (client_number x.sender) b
  silent_heard x (body.Name number deadline c) is = absurd is
  silent_heard x (body.Look number c) is = absurd is
  silent_heard x (body.Named number reply) is = absurd is
  silent_heard x other is = (tt, tt)

  -- what says nothing of names
  pub says_else : (k : ℕ) (ms : List Message) → ((x : Message) → IsSent ms x → IsNoWordOfNames x.body) → IsNamesBeside config trace greatest (sent ++ stamped k ms) l ss m requests
  says_else k ms silent = says_more k ms (λ x is. silent_heard x x.body (silent x is))

  -- a log that says the same
  pub relogged : (k : Logged) → l.names ≡ k.names → l.next_file ≡ k.next_file → l.table.files ≡ k.table.files → ((file : ℕ) → table.contains_key l.table.files file ≡ true → shape_of l.table file ≡ shape_of k.table file) → l.kept ≡ k.kept
      → IsNamesBeside config trace greatest sent k [] m requests
  relogged k names next files shapes kept =
      record {
        run = h.run;
        seen = h.seen;
        clock = h.clock;
        alike = record {
          names = sym names ∙ (h.alike).names;
          next = sym next ∙ (h.alike).next;
          files = λ file. ap (λ t. table.contains_key t file) (sym files) ∙ (h.alike).files file;
          shapes = λ file has. let had = ap (λ t. table.contains_key t file) files ∙ has in sym (shapes file had) ∙ (h.alike).shapes file had;
          kept = subst (λ (t : Table KeptCall). (client : ℕ) (x : KeptCall) → table.get t client ≡ Some x → IsKept m requests client x) kept (h.alike).kept;
          untaken = subst (λ (t : Table KeptCall). AreUntaken t m requests) kept (h.alike).untaken;
          locks = tt;
        };
        told = h.told;
        known = λ x is. subst (λ (t : Table KeptCall). IsKnown t m requests (client_number x.sender) x.body) kept (h.known x is);
        later = subst (λ (t : Table KeptCall). AreNotLater requests t) kept h.later;
      }
