-- What the whole machine does of which clients see nothing, and how it goes on as the clock does.
use Rattle.std.proofs.Common.{◌≡◌, ℕ, ◌≤◌, Bool, true, false, cond, max, List, [], ◌∷◌, ◌++◌, Option, Some, None, refl, sym, ap, subst, ◌∙◌, arith}
use Rattle.std.specs.Prelude.{nat_lt, option_map, unwrap_or}
use Rattle.std.specs.List.{AllByRecursion, list_all, cons_option}
use Rattle.std.proofs.lemmas.Bool.{ltb-true, ltb-false}
use Rattle.std.proofs.lemmas.List.{append-nil}
use Rattle.std.proofs.Math.Nat.{max-eq_left, max-eq_right}
use Rattle.gfs_types.specs.declared.config.Config.{Config}
use Rattle.messages.specs.declared.event.NodeInput.{NodeInput}
use Rattle.messages.specs.declared.message.Message.{Message}
use Rattle.relaxed_file.specs.Machine.{Machine, OpenCall, new_machine}
use Rattle.relaxed_file.specs.Reads.{looked}
use Rattle.relaxed_file.specs.Run.{Action, Place, Settle, Look, Measure, Pass, Visible, Passed, shown, visible, after, after_all, IsLawful, IsReached, IsRunTo, LeadsTo}
use Rattle.relaxed_file.proofs.GoingOn.{visible-append}
use Rattle.relaxed_file.proofs.Reached.{lawful_after, after_all-append, leads_on, leads_by}
use Rattle.machine_names.specs.NameRuns.{is_name_action}
use Rattle.machine_names.specs.UnseenRuns.{IsLeft}
use Rattle.machine_names.proofs.Seen.{left_same}
use Rattle.machine_names.specs.NameProjections.{AreNamesOf}
use Rattle.machine_names.proofs.Actions.{name_actions_are_taken}
use Rattle.machine_names.proofs.Chunks.{chunk_actions_keep_names}
use Rattle.protocol.specs.Logged.{Logged}
use Rattle.protocol.specs.Master.{PendingSnapshot}
use Rattle.protocol.specs.Client.{ClientState}
use Rattle.laws_names.specs.Alike.{Requests}
use Rattle.laws_names.specs.Beside.{IsNamesBeside}
use Rattle.laws_names.proofs.BesideClientsBeside.{passed_trace, passes_at}
use Rattle.laws_machine.specs.FileClients.{IsFileClient, IsSaid}
use Rattle.laws_machine.specs.FileClientsStay.{IsFirmInput, IsOfOthers}
use Rattle.laws_machine.specs.ServerSteps.{is_of_entries}
use Rattle.laws_machine.specs.WholeWorlds.{is_of_looks}
use Rattle.laws_machine.proofs.FileClientsStay.{file_clients_stay}

-- clients stay, and what they are told
abbrev pub AllStay : Machine → Machine → Type 0
AllStay m n = (client : ℕ) (s : ClientState) → IsFileClient m client s → IsFileClient n client s × ((i : NodeInput) → IsFirmInput i → IsSaid m client s i → IsSaid n client s i)

abbrev pub IsQuiet : Action → Type 0
IsQuiet a = (shown a ≡ None) × (is_name_action a ≡ false) × ((client : ℕ) → IsOfOthers client a)

pub record GoesQuietly (m n : Machine) (actions : List Action) : Type 0 where
  pub seen : visible actions ≡ []
  pub names : (o : Machine) → AreNamesOf m o → AreNamesOf n o
  pub stays : AllStay m n

pub quiet_run : (config : Config) (m : Machine) (actions : List Action) → IsReached config m → IsLawful m actions → AllByRecursion IsQuiet actions → GoesQuietly m (after_all m actions) actions
quiet_run config m [] reached lawful quiet = record { seen = refl; names = λ o h. h; stays = λ client s h. (h, λ i firm said. said) }
quiet_run config m (a ∷ rest) reached lawful quiet =
    let more = quiet_run config (after m a) rest (leads_on (new_machine config) m (after m a) reached (leads_by m a lawful.0)) lawful.1 quiet.1 in
    record {
      seen = ap (λ (v : Option Visible). cons_option v (visible rest)) quiet.0.0 ∙ more.seen;
      names = λ o h. more.names o (chunk_actions_keep_names m o a h quiet.0.1 lawful.0);
      stays = λ client s h.
          let one = file_clients_stay config m reached a lawful.0 client (quiet.0.2 client) s h in
          let two = more.stays client s one.0 in
          (two.0, λ i firm said. two.1 i firm (one.1 i firm said));
    }

pub entries_quiet : (actions : List Action) → list_all is_of_entries actions ≡ true → AllByRecursion IsQuiet actions
entries_quiet [] of = tt
entries_quiet (Place client file index mutation ∷ rest) of = ((refl, refl, λ q. tt), entries_quiet rest of)
entries_quiet (Settle file index place ∷ rest) of = ((refl, refl, λ q. tt), entries_quiet rest of)
entries_quiet (other ∷ rest) of = absurd (let no : false ≡ true = of in cc)

pub looks_quiet : (actions : List Action) → list_all is_of_looks actions ≡ true → AllByRecursion IsQuiet actions
looks_quiet [] of = tt
looks_quiet (Look client file index noted last chosen ∷ rest) of = ((refl, refl, λ q. tt), looks_quiet rest of)
looks_quiet (Measure client file index told noted last chosen ∷ rest) of = ((refl, refl, λ q. tt), looks_quiet rest of)
looks_quiet (other ∷ rest) of = absurd (let no : false ≡ true = of in cc)

-- looks change clients alone
pub looks_leave : (m : Machine) (actions : List Action) → list_all is_of_looks actions ≡ true → ((after_all m actions).config ≡ m.config) × ((after_all m actions).files ≡ m.files)
looks_leave m [] of = (refl, refl)
looks_leave m (Look client file index noted last chosen ∷ rest) of =
    let more = looks_leave (after m (Look client file index noted last chosen)) rest of in
    let one = by_call (m.clients client).open_call in
    (more.0 ∙ one.0, more.1 ∙ one.1)
  where
    by_call : (o : Option OpenCall)
        → (let n : Machine = unwrap_or (option_map (λ (c : OpenCall). looked m client c file index noted chosen) o) m in (n.config ≡ m.config) × (n.files ≡ m.files))
    by_call None = (refl, refl)
    by_call (Some c) = (refl, refl)
looks_leave m (Measure client file index told noted last chosen ∷ rest) of = looks_leave (after m (Measure client file index told noted last chosen)) rest of
looks_leave m (other ∷ rest) of = absurd (let no : false ≡ true = of in cc)

-- a run goes on

pub run_goes : (config : Config) (trace : List Visible) (m : Machine) (more : List Action) → IsRunTo config trace m → IsLawful m more → IsRunTo config (trace ++ visible more) (after_all m more)
run_goes config trace m more run lawful = (
  run.0 ++ more,
  lawful_after (new_machine config) run.0 more run.1 (subst (λ (s : Machine). IsLawful s more) (sym run.3) lawful),
  visible-append run.0 more ∙ ap (λ (t : List Visible). t ++ visible more) run.2,
  after_all-append (new_machine config) run.0 more ∙ ap (λ (s : Machine). after_all s more) run.3,
)

pub run_goes_unseen : (config : Config) (trace : List Visible) (m : Machine) (more : List Action) → IsRunTo config trace m → IsLawful m more → visible more ≡ [] → IsRunTo config trace (after_all m more)
run_goes_unseen config trace m more run lawful unseen =
    subst (λ (t : List Visible). IsRunTo config t (after_all m more)) (ap (λ (v : List Visible). trace ++ v) unseen ∙ append-nil trace) (run_goes config trace m more run lawful)

-- the clock

module _ (config : Config) (trace : List Visible) (greatest : ℕ) (sent : List Message) (l : Logged) (ss : List PendingSnapshot) (m n : Machine) (requests : Requests) (h : IsNamesBeside config trace greatest sent l ss n requests)
    (same_before : AreNamesOf m n) (run_before : IsRunTo config trace m)
  where
    pub record PassesBoth (more : List Visible) (passed : ℕ) : Type 0 where
      pub whole : Machine
      pub names : Machine
      pub settings : whole.config ≡ m.config
      pub files : whole.files ≡ m.files
      pub same : AreNamesOf whole names
      pub run : IsRunTo config more whole
      pub named : IsNamesBeside config more passed sent l ss names requests
      pub left : (q : ℕ) → IsLeft (n.clients q) (names.clients q)
      pub stays : AllStay m whole
      pub leads : LeadsTo m whole

    passes_ahead : (moment : ℕ) → nat_lt greatest moment ≡ true → PassesBoth (trace ++ Passed moment ∷ []) moment
    passes_ahead moment ahead =
        let first = h.clock in
        let second = same_before.clock in
        let before = ltb-true greatest moment ahead in
        let may : m.clock ≤ moment = omega (arith, first, second, before) in
        let low : n.clock ≤ moment = omega (arith, first, before) in
        let both = name_actions_are_taken m n (Pass moment) same_before refl low tt in
        record {
          whole = after m (Pass moment);
          names = after n (Pass moment);
          settings = refl;
          files = refl;
          same = both.1;
          run = run_goes config trace m (Pass moment ∷ []) run_before (may, tt);
          named = passes_at config trace greatest sent l ss n requests h moment ahead;
          left = λ q. left_same (n.clients q);
          stays = λ client s g. file_clients_stay config m (run_before.0, run_before.1, run_before.3) (Pass moment) may client tt s g;
          leads = leads_by m (Pass moment) may;
        }

    pub both_pass : (moment : ℕ) → PassesBoth (passed_trace greatest moment trace) (max greatest moment)
    both_pass moment = by_test (nat_lt greatest moment) refl
      where
        by_test : (b : Bool) → nat_lt greatest moment ≡ b → PassesBoth (cond b (trace ++ Passed moment ∷ []) trace) (max greatest moment)
        by_test true ahead =
            let before = ltb-true greatest moment ahead in
            subst (λ (g : ℕ). PassesBoth (trace ++ Passed moment ∷ []) g) (sym (max-eq_right (let low : greatest ≤ moment = omega (arith, before) in low))) (passes_ahead moment ahead)
        by_test false behind =
            subst (λ (g : ℕ). PassesBoth trace g) (sym (max-eq_left (ltb-false greatest moment behind)))
            (record { whole = m; names = n; settings = refl; files = refl; same = same_before; run = run_before; named = h; left = λ q. left_same (n.clients q); stays = λ client s g. (g, λ i firm said. said); leads = ([], tt, refl) })
