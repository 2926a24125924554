-- While no call that changes names is open, a name stands for what it stood for, unless it is taken away, and Open answers that.
use Rattle.std.proofs.Common.{◌≡◌, ℕ, suc, ◌+◌, ◌*◌, ◌≤◌, ◌⊎◌, true, false, cond, List, [], ◌∷◌, Option, Some, None, refl, sym, ◌∙◌, ap, subst, inl, inr, arith, ⊎_elim}
use Rattle.std.specs.Prelude.{Contains, option_map, ◌==◌}
use Rattle.std.specs.List.{AllByRecursion, cons_option}
use Rattle.std.specs.Ordering.{nat_cmp, eq_by_cmp}
use Rattle.std.specs.Cmp.Lexicographic.{slice_cmp, nat_list_cmp_total}
use Rattle.std.specs.FinMap as map
use Rattle.std.proofs.lemmas.Bool.{true≢false}
use Rattle.std.proofs.lemmas.Option.{none-some}
use Rattle.gfs_types.specs.declared.call.Call.{Call}
use Rattle.gfs_types.specs.declared.call.Call.TheVariants as call
use Rattle.gfs_types.specs.declared.answer.Answer.{Answer}
use Rattle.gfs_types.specs.declared.answer.Answer.TheVariants as answer
use Rattle.gfs_types.specs.declared.refusal.Refusal.{Refusal}
use Rattle.gfs_types.specs.declared.ids.Fd.{Fd}
use Rattle.gfs_types.specs.Image.{image_length}
use Rattle.gfs_types.specs.Paths.{Path, hidden_name}
use Rattle.relaxed_file.specs.Order.{mutations_of}
use Rattle.relaxed_file.specs.Names.{Names, Node, Dir, File, node_at}
use Rattle.relaxed_file.specs.Machine.{Machine, Client, Asked, OpenCall, IsOpen, Outcome, Replies, Opens, chunk_at, chunk_size, put, with_client, with_step, with_chunk}
use Rattle.relaxed_file.specs.NameStep.{performed, is_refused, refusal_of, opened, outcome_by, outcome_of, stepped, with_outcome}
use Rattle.relaxed_file.specs.Chunks.{chunk_added, begun_call, placed, with_entry}
use Rattle.relaxed_file.specs.Reads.{offer_of, looked, read_slice}
use Rattle.relaxed_file.specs.Answers.{IsDone, MayReturn, returned, returned_fd}
use Rattle.relaxed_file.specs.Run.{Action, Invoke, Return, ReturnFd, Step, FindBusy, FindFull, Lock, Expire, Add, Place, Tell, Note, Look, LookPast, Measure, MeasureNone, Pass, Visible, Called, Answered, Passed, shown, visible, Allows, after, after_all, IsLawful, LeadsTo, asked_now, asked_file}
use Rattle.relaxed_file.proofs.Tables.{cond_keeps, put_keeps, put_same, at_some, contained, from_some}
use Rattle.relaxed_file.proofs.Reached.{leads_on, leads_by}
use Rattle.relaxed_file.proofs.Known.{asked_is}
use Rattle.relaxed_file.proofs.OwnReads.{performed_clients}
use Rattle.relaxed_file.proofs.CallSteps.{fresh_call}
use Rattle.relaxed_file.proofs.Moments.{Shows, leads, nothing, First, first_seen, is_waiting, who_of, said_of, called_not, passed_not}
use Rattle.relaxed_file.proofs.InCall.{InCall, silently, made_by_call}
use Rattle.gfs_types.specs.declared.config.Config.{Config}

-- the calls that change no name
abbrev pub IsQuiet : Call → Type 0
IsQuiet (call.Mkdir p) = ⊥
IsQuiet (call.Rmdir p) = ⊥
IsQuiet (call.Create p shape) = ⊥
IsQuiet (call.Delete p) = ⊥
IsQuiet (call.Rename p q) = ⊥
IsQuiet (call.Snapshot p q) = ⊥
IsQuiet other = Unit {0}

quiet_names : (m : Machine) (c : Call) (moment : ℕ) → IsQuiet c → (performed m c moment).names ≡ m.names
quiet_names m (call.Mkdir p) moment q = absurd q
quiet_names m (call.Rmdir p) moment q = absurd q
quiet_names m (call.Create p shape) moment q = absurd q
quiet_names m (call.Delete p) moment q = absurd q
quiet_names m (call.Rename p r) moment q = absurd q
quiet_names m (call.Snapshot p r) moment q = absurd q
quiet_names m other moment q = refl

abbrev IsQuietSeen : Option Visible → Type 0
IsQuietSeen None = Unit {0}
IsQuietSeen (Some (Called client asked)) = IsQuiet asked
IsQuietSeen (Some other) = Unit {0}

abbrev fd_number : Answer → ℕ
fd_number (answer.Fd fd) = fd.0
fd_number other = 0

-- only quiet calls are made
abbrev pub IsQuietTrace : List Visible → Type 0
IsQuietTrace [] = Unit {0}
IsQuietTrace (Called client asked ∷ rest) = IsQuiet asked × IsQuietTrace rest
IsQuietTrace (Answered client reply ∷ rest) = IsQuietTrace rest
IsQuietTrace (Passed moment ∷ rest) = IsQuietTrace rest

quiet_cons : (o : Option Visible) (rest : List Visible) → IsQuietTrace (cons_option o rest) → IsQuietSeen o × IsQuietTrace rest
quiet_cons None rest q = (tt, q)
quiet_cons (Some (Called client asked)) rest q = q
quiet_cons (Some (Answered client reply)) rest q = (tt, q)
quiet_cons (Some (Passed moment)) rest q = (tt, q)

module _ (path : Path) (node : Option Node) where
  -- the name stands for this, or for nothing any more
  abbrev NameStays : Names → Type 0
  NameStays names = (node_at names path ≡ node) ⊎ (node_at names path ≡ None)

  -- what opening the name comes to
  abbrev IsOfNode : Outcome → Type 0
  IsOfNode (Opens file) = node ≡ Some (File file)
  IsOfNode (Replies (answer.Fd fd)) = ⊥
  IsOfNode (Replies other) = Unit {0}

  abbrev IsCalmCall : Option OpenCall → Type 0
  IsCalmCall None = Unit {0}
  IsCalmCall (Some c) = IsQuiet c.asked.call × (c.asked.call ≡ call.Open path → AllByRecursion IsOfNode c.outcomes)

  abbrev AreCalmCalls : Machine → Type 0
  AreCalmCalls m = (client : ℕ) → IsCalmCall (m.clients client).open_call

  pub record Calm (m : Machine) : Type 0 where
    pub names : NameStays m.names
    pub calls : AreCalmCalls m

  by_node : (names : Names) → NameStays names → (o : Option Node) → node_at names path ≡ o → IsOfNode (opened o)
  by_node names stays None e = tt
  by_node names stays (Some Dir) e = tt
  by_node names stays (Some (File id)) e = ⊎_elim (λ same. sym same ∙ e) (λ none. absurd (none-some (File id) (sym none ∙ e))) stays

  by_refusal : (names : Names) → NameStays names → (r : Option Refusal) → IsOfNode (outcome_by names (call.Open path) r)
  by_refusal names stays None = by_node names stays (node_at names path) refl
  by_refusal names stays (Some refusal) = tt

  opening : (config : Config) (names : Names) (c : Call) → NameStays names → c ≡ call.Open path → IsOfNode (outcome_of config names c)
  opening config names c stays is = subst (λ d. IsOfNode (outcome_of config names d)) (sym is) (by_refusal names stays (refusal_of config names (call.Open path)))

  step_calm : (change : OpenCall → OpenCall) (o : Option OpenCall) → ((c : OpenCall) → o ≡ Some c → IsCalmCall (Some c) → IsCalmCall (Some (change c)))
      → IsCalmCall o → IsCalmCall (option_map (λ current. record (change current) { has_begun = true }) o)
  step_calm change None keeps h = tt
  step_calm change (Some c) keeps h = keeps c refl h

  step_taken : (m : Machine) (who : ℕ) (change : OpenCall → OpenCall) → ((c : OpenCall) → IsOpen m who c → IsCalmCall (Some c) → IsCalmCall (Some (change c)))
      → AreCalmCalls m → AreCalmCalls (with_step m who change)
  step_taken m who change keeps h = put_keeps (λ (s : Client). IsCalmCall s.open_call) who _ m.clients (step_calm change (m.clients who).open_call keeps (h who)) h

  outcome_taken : (m : Machine) (who : ℕ) (outcome : Outcome) → ((c : OpenCall) → IsOpen m who c → c.asked.call ≡ call.Open path → IsOfNode outcome)
      → AreCalmCalls m → AreCalmCalls (with_outcome m who outcome)
  outcome_taken m who outcome fits h = step_taken m who (λ current. record current { outcomes = outcome ∷ current.outcomes }) (λ c is calm. (calm.0, λ opens. (fits c is opens, calm.1 opens))) h

  begun_calm : (number : ℕ) (o : Option OpenCall) → IsCalmCall o → IsCalmCall (begun_call number o)
  begun_calm number None h = tt
  begun_calm number (Some c) h = cond_keeps (λ d. IsCalmCall (Some d)) (c.number == number) (record c { has_begun = true }) c h h

  -- the call that is open now is the one that takes the step
  fits_open : (m : Machine) (who : ℕ) (current : OpenCall) (outcome : Outcome) → NameStays m.names → IsOpen m who current → outcome ≡ outcome_of m.config m.names current.asked.call
      → (c : OpenCall) → IsOpen m who c → c.asked.call ≡ call.Open path → IsOfNode outcome
  fits_open m who current outcome stays now is c there opens =
      subst IsOfNode (sym is) (opening m.config m.names current.asked.call stays (ap (λ (d : OpenCall). d.asked.call) (from_some (sym now ∙ there)) ∙ opens))

  calls_step : (m : Machine) (action : Action) → Allows m action → IsQuietSeen (shown action) → Calm m → AreCalmCalls (after m action)
  calls_step m (Invoke who asked) a q h = put_keeps (λ (s : Client). IsCalmCall s.open_call) who _ m.clients (q, λ opens. tt) h.calls
  calls_step m (Return who reply) a q h = at_some AreCalmCalls (λ current. returned m who current reply) m _ a.0 a.1
      (put_keeps (λ (s : Client). IsCalmCall s.open_call) who _ m.clients tt h.calls)
  calls_step m (ReturnFd who fd f) a q h = put_keeps (λ (s : Client). IsCalmCall s.open_call) who _ m.clients tt h.calls
  calls_step m (Step who moment outcome) a q h = at_some AreCalmCalls (λ current. stepped m who moment outcome current) m _ a.0 a.1
      (let fits : (c : OpenCall) → IsOpen m who c → c.asked.call ≡ call.Open path → IsOfNode outcome = fits_open m who a.0 outcome h.names a.1 (a.2).2 in
      elim (is_refused outcome) as (λ b. AreCalmCalls (with_outcome (cond b m (performed m (a.0).asked.call moment)) who outcome)) [
        | true ↦ outcome_taken m who outcome fits h.calls
        | false ↦ outcome_taken (performed m (a.0).asked.call moment) who outcome
            (λ c there. fits c (subst (λ (t : ℕ → Client). (t who).open_call ≡ Some c) (performed_clients m (a.0).asked.call moment) there))
            (subst (λ (t : ℕ → Client). (client : ℕ) → IsCalmCall (t client).open_call) (sym (performed_clients m (a.0).asked.call moment)) h.calls)
      ])
  calls_step m (FindBusy who holder) a q h = outcome_taken m who _ (λ c there opens. tt) h.calls
  calls_step m (FindFull who) a q h = outcome_taken m who _ (λ c there opens. tt) h.calls
  calls_step m (Lock who) a q h = step_taken m who (λ current. record current { has_locks = true }) (λ c there calm. calm) h.calls
  calls_step m (Add id) a q h = at_some AreCalmCalls (chunk_added m id) m (asked_file m id) a.1 (asked_is m id a.0 a.1 a.2.0 a.2.1)
      (put_keeps (λ (s : Client). IsCalmCall s.open_call) id.client _ m.clients (begun_calm id.number (m.clients id.client).open_call (h.calls id.client)) h.calls)
  calls_step m (Place who f i mutation) a q h = at_some AreCalmCalls (λ current. placed m who current f i mutation) m _ a.0 a.1
      (step_taken (with_chunk m f i (with_entry (chunk_at m f i) (record { client = who; number = (a.0).number }) mutation)) who (λ c. c) (λ c there calm. calm) h.calls)
  calls_step m (Tell who f i) a q h = step_taken m who (λ c. record c { offers = offer_of m f i ∷ c.offers }) (λ c there calm. calm) h.calls
  calls_step m (Note who f i noted count) a q h =
      step_taken (with_client m who (record (m.clients who) { notes = put f (put i (Some noted) ((m.clients who).notes f)) (m.clients who).notes })) who (λ c. c) (λ c there calm. calm)
      (put_keeps (λ (s : Client). IsCalmCall s.open_call) who _ m.clients (h.calls who) h.calls)
  calls_step m (Look who f i least last chosen) a q h = at_some AreCalmCalls (λ current. looked m who current f i least chosen) m _ a.0 a.1
      (step_taken m who (λ c. record c { pieces = record { index = i; bytes = read_slice (chunk_size m f) i (a.0).asked.call chosen; round = Some least } ∷ c.pieces }) (λ c there calm. calm) h.calls)
  calls_step m (LookPast who i) a q h = step_taken m who (λ c. record c { pieces = record { index = i; bytes = []; round = None } ∷ c.pieces }) (λ c there calm. calm) h.calls
  calls_step m (Measure who f i told least last chosen) a q h = step_taken m who (λ c. record c { lengths = (i * chunk_size m f + image_length (mutations_of chosen)) ∷ c.lengths }) (λ c there calm. calm) h.calls
  calls_step m (MeasureNone who) a q h = step_taken m who (λ c. record c { lengths = 0 ∷ c.lengths }) (λ c there calm. calm) h.calls
  calls_step m other a q h = h.calls

  abbrev NameStaysIn : Machine → Type 0
  NameStaysIn m = NameStays m.names

  taken_away : (names : Names) (gone : Path) → NameStays names → NameStays (map.remove names gone)
  taken_away names gone h = subst (λ (o : Option Node). (o ≡ node) ⊎ (o ≡ None)) (sym (map.get-remove nat_list_cmp_total names gone path))
      (cond_keeps (λ (o : Option Node). (o ≡ node) ⊎ (o ≡ None)) (eq_by_cmp (slice_cmp nat_cmp) path gone) None (node_at names path) (inr refl) h)

  names_step : (m : Machine) (action : Action) → Allows m action → Calm m → NameStaysIn (after m action)
  names_step m (Return who reply) a h = at_some NameStaysIn (λ current. returned m who current reply) m _ a.0 a.1 h.names
  names_step m (Step who moment outcome) a h = at_some NameStaysIn (λ current. stepped m who moment outcome current) m _ a.0 a.1
      (elim (is_refused outcome) as (λ b. NameStaysIn (with_outcome (cond b m (performed m (a.0).asked.call moment)) who outcome)) [
        | true ↦ h.names
        | false ↦ subst NameStays (sym (quiet_names m (a.0).asked.call moment (let calm : IsCalmCall (Some a.0) = subst IsCalmCall a.1 (h.calls who) in calm.0))) h.names
      ])
  names_step m (Expire file moment) a h = taken_away m.names (hidden_name moment file) h.names
  names_step m (Add id) a h = at_some NameStaysIn (chunk_added m id) m (asked_file m id) a.1 (asked_is m id a.0 a.1 a.2.0 a.2.1) h.names
  names_step m (Place who f i mutation) a h = at_some NameStaysIn (λ current. placed m who current f i mutation) m _ a.0 a.1 h.names
  names_step m (Look who f i least last chosen) a h = at_some NameStaysIn (λ current. looked m who current f i least chosen) m _ a.0 a.1 h.names
  names_step m other a h = h.names

  calm_step : (m : Machine) (action : Action) → Allows m action → IsQuietSeen (shown action) → Calm m → Calm (after m action)
  calm_step m action a q h = record { names = names_step m action a h; calls = calls_step m action a q h }

  calm_actions : (m : Machine) (actions : List Action) → IsLawful m actions → IsQuietTrace (visible actions) → Calm m → Calm (after_all m actions)
  calm_actions m [] lawful q h = h
  calm_actions m (x ∷ xs) lawful q h =
      let both : IsQuietSeen (shown x) × IsQuietTrace (visible xs) = quiet_cons (shown x) (visible xs) q in
      calm_actions (after m x) xs lawful.1 both.1 (calm_step m x lawful.0 both.0 h)

  pub calm_to : (m n : Machine) (trace : List Visible) → Shows m n trace → IsQuietTrace trace → Calm m → Calm n
  calm_to m n trace s q h = subst Calm s.ends (calm_actions m s.actions s.lawful (subst IsQuietTrace (sym s.seen) q) h)

  idle_calm : (o : Option OpenCall) → is_waiting o ≡ false → IsCalmCall o
  idle_calm None e = tt
  idle_calm (Some c) e = absurd (true≢false e)

  -- nobody waits for an answer
  pub calm_when_idle : (m : Machine) → node_at m.names path ≡ node → ((client : ℕ) → is_waiting (m.clients client).open_call ≡ false) → Calm m
  calm_when_idle m is idle = record { names = inl is; calls = λ client. idle_calm (m.clients client).open_call (idle client) }

  -- the name was opened, and stood for this file
  pub record Opened (m n : Machine) (client : ℕ) (fd : Fd) (rest : List Visible) : Type 0 where
    pub done : Machine
    pub file : ℕ
    pub stood : node ≡ Some (File file)
    pub way : LeadsTo m done
    pub calm : Calm done
    pub descriptor : (done.clients client).descriptors fd.0 ≡ Some file
    pub counted : fd.0 ≤ (done.clients client).fd_count
    pub then : Shows done n rest

  module _ (m n : Machine) (client : ℕ) (fd : Fd) (rest : List Visible) (start : Machine) (calm : Calm start) (way : LeadsTo m start) (c : OpenCall) (now : IsOpen start client c) (opens : c.asked.call ≡ call.Open path) where
    outcomes : AllByRecursion IsOfNode c.outcomes
    outcomes = let here : IsCalmCall (Some c) = subst IsCalmCall now (calm.calls client) in here.1 opens

    answered_by : (action : Action) → shown action ≡ Some (Answered client (answer.Fd fd)) → Allows start action → Shows (after start action) n rest → Opened m n client fd rest
    answered_by (Return who reply) is a more =
        let who_is : who ≡ client = who_of who client reply (answer.Fd fd) (from_some is) in
        let same : a.0 ≡ c = from_some (sym (subst (λ k. IsOpen start k a.0) who_is a.1) ∙ now) in
        let may : MayReturn start client c (answer.Fd fd) =
        subst (λ r. MayReturn start client c r) (said_of who client reply (answer.Fd fd) (from_some is))
        (subst (λ d. MayReturn start client d reply) same (subst (λ k. MayReturn start k a.0 reply) who_is a.2)) in
        let done : IsDone start client c (call.Open path) (answer.Fd fd) = subst (λ d. IsDone start client c d (answer.Fd fd)) opens may in
        absurd (contained IsOfNode c.outcomes (Replies (answer.Fd fd)) outcomes done)
    answered_by (ReturnFd who number f) is a more =
        let who_is : who ≡ client = who_of who client _ (answer.Fd fd) (from_some is) in
        let same : a.0 ≡ c = from_some (sym (subst (λ k. IsOpen start k a.0) who_is a.1) ∙ now) in
        let number_is : number ≡ fd.0 = ap fd_number (said_of who client _ (answer.Fd fd) (from_some is)) in
        let state : Client = record (start.clients who) { open_call = None; fd_count = number; descriptors = put number (Some f) (start.clients who).descriptors; notes = put f (λ index. None) (start.clients who).notes } in
        let closed : Machine = returned_fd start who number f in
        let state_is : closed.clients who ≡ state = put_same who state start.clients in
        record {
          done = closed;
          file = f;
          stood = contained IsOfNode c.outcomes (Opens f) outcomes (subst (λ (d : OpenCall). Contains d.outcomes (Opens f)) same (a.2).0);
          way = leads_on m start closed way (leads_by start (ReturnFd who number f) a);
          calm = calm_step start (ReturnFd who number f) a tt calm;
          descriptor = subst (λ k. (closed.clients k).descriptors fd.0 ≡ Some f) who_is
              (subst (λ d. (closed.clients who).descriptors d ≡ Some f) number_is (ap (λ (s : Client). s.descriptors number) state_is ∙ put_same number (Some f) (start.clients who).descriptors));
          counted = subst (λ k. fd.0 ≤ (closed.clients k).fd_count) who_is
              (let count : (closed.clients who).fd_count ≡ number = ap (λ (s : Client). s.fd_count) state_is in omega (arith, count, number_is));
          then = more;
        }
    answered_by (Invoke who asked) is a more = absurd (called_not who client asked (answer.Fd fd) (from_some is))
    answered_by (Pass moment) is a more = absurd (passed_not moment client (answer.Fd fd) (from_some is))
    answered_by other is a more = absurd (none-some _ is)

  pub opened_seen : (m n : Machine) (client : ℕ) (fd : Fd) (rest : List Visible) → Calm m → Shows m n (Called client (call.Open path) ∷ Answered client (answer.Fd fd) ∷ rest) → Opened m n client fd rest
  opened_seen m n client fd rest calm s =
      let one : First m n (Called client (call.Open path)) (Answered client (answer.Fd fd) ∷ rest) = first_seen m n (Called client (call.Open path)) (Answered client (answer.Fd fd) ∷ rest) s in
      let two : First (after one.at one.action) n (Answered client (answer.Fd fd)) rest = first_seen _ n (Answered client (answer.Fd fd)) rest one.then in
      let begins : InCall (after one.at one.action) client (suc (one.at.clients client).call_count) (asked_now one.at client (call.Open path)) (after one.at one.action) = record {
        since = nothing (after one.at one.action);
        call = fresh_call (one.at.clients client) (asked_now one.at client (call.Open path));
        open_now = made_by_call one.at one.action client (call.Open path) one.allowed one.is;
        number_is = refl;
        asked_is = refl;
        pieces = tt;
        offers = tt;
      } in
      let inside : InCall (after one.at one.action) client (suc (one.at.clients client).call_count) (asked_now one.at client (call.Open path)) two.at = silently _ client _ _ _ two.at two.silent begins in
      let made : Calm (after one.at one.action) = calm_step one.at one.action one.allowed (subst IsQuietSeen (sym one.is) tt) (calm_to m one.at [] one.silent tt calm) in
      answered_by m n client fd rest two.at (calm_to (after one.at one.action) two.at [] two.silent tt made)
      (leads_on m one.at two.at (leads m one.at [] one.silent) (leads_on one.at (after one.at one.action) two.at (leads_by one.at one.action one.allowed) (leads _ two.at [] two.silent)))
      inside.call inside.open_now (ap (λ (a : Asked). a.call) inside.asked_is)
      two.action two.is two.allowed two.then
