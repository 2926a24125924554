-- A Name and a Look in a step of the master: the machine comes to a state beside what the step has become.
use Rattle.laws_base.proofs.LeaseOrders.{revoke_order}
use Rattle.std.proofs.Common.{◌≡◌, ℕ, ◌≤◌, ◌<◌, Bool, true, false, cond, List, [], ◌∷◌, ◌++◌, Option, Some, None, refl, sym, ap, subst, ◌∙◌, inl, inr, arith}
use Rattle.std.specs.Prelude.{◌==◌, nat_le, nat_lt, Contains}
use Rattle.std.proofs.lemmas.Option.{none-some}
use Rattle.std.proofs.lemmas.Bool.{eqb-true, eqb-false, leb-false, ltb-false, cases_lt}
use Rattle.std.specs.FinMap as table
use Rattle.gfs_types.specs.declared.ids.Node.{Node}
use Rattle.gfs_types.specs.declared.ids.Node.TheVariants as node
use Rattle.gfs_types.specs.declared.config.Config.{Config}
use Rattle.gfs_types.specs.declared.call.Call.{Call}
use Rattle.gfs_types.specs.declared.call.Call.TheVariants as call
use Rattle.gfs_types.specs.declared.answer.Answer.TheVariants as answer
use Rattle.gfs_types.specs.declared.refusal.Refusal.{Refusal}
use Rattle.gfs_types.specs.declared.refusal.Refusal.TheVariants.{Busy, NamesFull}
use Rattle.messages.specs.declared.message.Body.TheVariants as body
use Rattle.messages.specs.declared.message.Message.{Message}
use Rattle.messages.specs.declared.message.NameReply.TheVariants.{Answered}
use Rattle.log_records.specs.declared.record.Record.{Record}
use Rattle.log_records.specs.declared.record.Record.TheVariants as log
use Rattle.relaxed_file.specs.Names.{Names}
use Rattle.relaxed_file.specs.Machine.{Machine, OpenCall, Outcome, Replies, Opens, IsOpen}
use Rattle.relaxed_file.specs.NameStep.{is_look, is_refused, needs_room, first_refusal, path_tests, refusal_of, outcome_of, outcome_by, performed, with_outcome, MayTakeEffect}
use Rattle.relaxed_file.specs.Run.{Step, FindBusy, Lock, Allows, after}
use Rattle.relaxed_file.proofs.Tables.{from_some}
use Rattle.chunk_table.specs.ChunkTable.{ChunkRow, ChunkTable, chunk_of}
use Rattle.protocol.specs.Sending.{message, the_client, client_id, client_number}
use Rattle.protocol.specs.Logged.{Logged, KeptCall, LogDisk, LogChange}
use Rattle.protocol.specs.Master.{MasterState, MasterDoing, PendingSnapshot, tells, orders, without_attempts, gives_up_copies, has_lease}
use Rattle.protocol.specs.MasterNames.{snapshot_call, master_refusal, reply_by, takes_look, performs, names_by, is_waiting_call, names_anew, names_kept, takes_name}
use Rattle.protocol.specs.MasterSnapshots.{reply_of, answers_name, settles_name, refuses_name, first_is_true, all_but_first, changes_names, takes_locks, begins_snapshot, snapshot_handles, snapshot_files, copies_for_files, revokes_row, revokes, revokes_all}
use Rattle.laws_names.specs.Names.{record_of, snapshot_refusal}
use Rattle.laws_names.proofs.NameRecords.{refusals_are_the_machines}
use Rattle.laws_names.specs.Alike.{Requests, AreAlike, IsWaiting, IsNew}
use Rattle.laws_names.specs.NameSteps.{AreNamedFilesThere}
use Rattle.laws_names.proofs.OpenCalls.{GoesOn, step_goes_on, outcome_goes_on, one_call, same_or_not, none_of_call}
use Rattle.laws_names.proofs.NameSteps.{HasOutcome, looked, may_step, stepped_at, no_look, look_is_name, look_effect, either, find_holder, busy_allowed}
use Rattle.laws_names.proofs.LocksAndFiles.{locks_are_taken, locks_go_back}
use Rattle.laws_names.specs.NameTrails.{RunsQuietly}
use Rattle.laws_names.specs.Followed.{RunsTo, IsTold, outcome_told, IsTimely, IsRequest}
use Rattle.laws_names.proofs.Moves.{IsMove, Keeps, At, Reaches, here, alike_at, logs_at, one_action, told_stays, kept_same}
use Rattle.laws_names.proofs.NameRequestsLemmas.{IsAnswered, effect_move, refused_move, full_move}

on_test : {A : Type 0} (P : A → Type 0) (b : Bool) (x y : A) → (b ≡ true → P x) → (b ≡ false → P y) → P (cond b x y)
on_test P true x y f g = f refl
on_test P false x y f g = g refl

-- the locks of a snapshot
lock_move : (l : Logged) (snapshots : List PendingSnapshot) (m : Machine) (requests : Requests) (s : PendingSnapshot) → AreAlike l snapshots m requests → IsNew snapshots m requests s.client s.number (snapshot_call s)
    → snapshot_refusal l.names s ≡ None → IsMove m (after m (Lock s.client)) requests snapshots (snapshots ++ s ∷ []) (λ x. x)
lock_move l snapshots m requests s h new free =
    let n : Machine = after m (Lock s.client) in
    let none : IsNew [] m requests s.client s.number (snapshot_call s) = record { current = new.current; waiting = new.waiting; call_is = new.call_is; untaken = new.untaken; alone = refl } in
    let later : OpenCall = record new.current { has_locks = true; has_begun = true } in
    let g : GoesOn m n s.client new.current later = step_goes_on m m s.client new.current (λ c. record c { has_locks = true }) refl new.waiting.is_open (λ o has. has) in
    record {
      run = one_action m (Lock s.client) (locks_are_taken l snapshots m requests s h new free).0 refl refl;
      alike = λ x a. (locks_are_taken x snapshots m requests s a new (as_free x snapshots a)).1;
      alone = λ x a. locks_go_back x (s ∷ []) n requests (λ _. false) (locks_are_taken x [] m requests s a none (as_free x [] a)).1;
      told = λ x t. told_stays m n requests s.client new.current later g x t;
      kept_on = λ x ss a. kept_same requests x.kept;
    }
  where
    as_free : (x : Logged) (ss : List PendingSnapshot) → AreAlike x ss m requests → snapshot_refusal x.names s ≡ None
    as_free x ss a = ap (λ (names : Names). snapshot_refusal names s) (a.names ∙ sym h.names) ∙ free

-- a Look
look_runs : (s : MasterState) (m : Machine) (requests : Requests) (client : ℕ) (c : Call) (current : OpenCall) → AreAlike s.logged s.snapshots m requests → m.config ≡ s.config → IsOpen m client current
    → current.asked.call ≡ c → is_look c ≡ true → (let n : Machine = with_outcome m client (outcome_by s.logged.names c (master_refusal s c)) in RunsTo m n × RunsQuietly m n)
look_runs s m requests client c current h settings is same look = elim (refusals_are_the_machines s c) [
  | inl equal ↦
      let outcome : Outcome = outcome_by s.logged.names c (master_refusal s c) in
      let at_names : outcome ≡ outcome_of m.config m.names c =
      ap (λ (o : Option Refusal). outcome_by s.logged.names c o) equal ∙ ap (λ (n : Names). outcome_of s.config n c) h.names ∙ ap (λ (g : Config). outcome_of g m.names c) (sym settings) in
      let effect = look_effect m c look 0 in
      let base : Machine = cond (is_refused outcome) m (performed m c 0) in
      let allowed : Allows m (Step client 0 outcome) = (current, is, may_step m 0 outcome current c same (look_is_name c look) (inl (ap is_look same ∙ look)) at_names (λ plain. effect.1)) in
      let run : RunsTo m (after m (Step client 0 outcome)) = one_action m (Step client 0 outcome) allowed refl refl in
      let at : (after m (Step client 0 outcome)) ≡ with_outcome m client outcome =
      stepped_at (λ (n : Machine). n ≡ with_outcome m client outcome) m client 0 outcome current c is same (ap (λ (b : Machine). with_outcome b client outcome) (either (is_refused outcome) m (performed m c 0) effect.0)) in
      (subst (λ (n : Machine). RunsTo m n) at run, (Step client 0 outcome ∷ [], (allowed, (c, (current, is, same), look), at)))
  | inr busy ↦
      let others = none_of_call m requests client current s.snapshots is (λ t e. no_look c look t (sym same ∙ e)) h.locks in
      let found = find_holder m requests client c s.snapshots h.locks others busy.1 in
      let allowed : Allows m (FindBusy client (found.0).client) = busy_allowed m requests client c current found.0 is same (inl (ap is_look same ∙ look)) (ap (λ (g : Config). first_refusal (path_tests g c)) settings ∙ busy.2) found.1 in
      let run : RunsTo m (after m (FindBusy client (found.0).client)) = one_action m (FindBusy client (found.0).client) allowed refl refl in
      subst (λ (o : Outcome). RunsTo m (with_outcome m client o) × RunsQuietly m (with_outcome m client o)) (ap (λ (o : Option Refusal). outcome_by s.logged.names c o) (sym busy.0))
      (run, (FindBusy client (found.0).client ∷ [], (allowed, tt, refl)))
]

reply_tells : (t : ChunkTable) (o : Outcome) → outcome_told (reply_by t o) ≡ o
reply_tells t (Opens file) = refl
reply_tells t (Replies reply) = refl

module _ (requests : Requests) (P : Machine → Logged → LogDisk → List LogChange → List Message → List PendingSnapshot → Type 0) (k : Keeps requests P) where
  tells_at : (m : Machine) (d : MasterDoing) (receiver : Node) (b : _) → IsTold m requests (message node.Master receiver b) → At requests P k m d → At requests P k m (tells d receiver b)
  tells_at m d receiver b told h = k.tells m d.master.logged d.master.disk d.changes d.sent d.master.snapshots (message node.Master receiver b) told h

  answers_at : (n : Machine) (d : MasterDoing) (client number : ℕ) (refusal : Option Refusal) → HasOutcome n client (Replies (reply_of refusal)) → At requests P k n d → At requests P k n (answers_name d client number refusal)
  answers_at n d client number refusal told h =
      tells_at n d (the_client client) (body.Named number (Answered (reply_of refusal)))
      (λ c w. subst (λ (x : OpenCall). Contains x.outcomes (Replies (reply_of refusal))) (one_call n client told.0 c told.1 w.is_open) told.2) h

  pub settles_at : (m n : Machine) (d : MasterDoing) (client number : ℕ) (entry : Record) (refusal : Option Refusal) → IsAnswered m n requests d.master.snapshots client entry refusal → At requests P k m d
      → Reaches requests P k m (settles_name d client number entry refusal)
  settles_at m n d client number entry refusal a h = logs_at requests P k m n d entry (λ e. answers_name e client number refusal) a.move a.change (λ e g. answers_at n e client number refusal a.told g) h

  pub changes_at : (m : Machine) (d : MasterDoing) (client number moment : ℕ) (c : Call) (entry : Record) → AreNamedFilesThere d.master.logged → IsNew d.master.snapshots m requests client number c
      → record_of m.config d.master.logged client number moment c ≡ Some entry → refusal_of m.config d.master.logged.names c ≡ None → MayTakeEffect m c moment → At requests P k m d → Reaches requests P k m (changes_names d client number c entry)
  changes_at m d client number moment c entry there new is free may h =
      let a : AreAlike d.master.logged d.master.snapshots m requests = alike_at requests P k m d h in
      let tried : MasterDoing = record d { refused = all_but_first d.refused } in
      let done : IsAnswered m (after m (Step client moment (Replies answer.Done))) requests d.master.snapshots client entry None = effect_move d.master.logged d.master.snapshots m requests client number moment c entry a there new is free may in
      let good : MasterDoing → Type 0 = λ x. Reaches requests P k m x in
      on_test good (needs_room c) (cond (first_is_true d.refused) (refuses_name tried client number NamesFull) (settles_name tried client number entry None)) (settles_name d client number entry None)
      (λ room. on_test good (first_is_true d.refused) (refuses_name tried client number NamesFull) (settles_name tried client number entry None)
      (λ _. settles_at m _ tried client number (log.Refused (client_id client) number NamesFull) (Some NamesFull) (full_move d.master.logged d.master.snapshots m requests client number c a new room free) h)
      (λ _. settles_at m _ tried client number entry None done h))
      (λ _. settles_at m _ d client number entry None done h)

  -- orders to servers tell clients nothing of names
  revokes_row_at : (m : Machine) (d : MasterDoing) (handle : ℕ) (o : Option ChunkRow) → At requests P k m d → At requests P k m (revokes_row d handle o)
  revokes_row_at m d handle None h = h
  revokes_row_at m d handle (Some row) h =
      on_test (λ (x : MasterDoing). At requests P k m x) (has_lease d.master row) (orders d row.primary (revoke_order handle row)) d
      (λ _. k.tells m d.master.logged d.master.disk d.changes d.sent d.master.snapshots _ tt h) (λ _. h)

  revokes_all_at : (m : Machine) (d : MasterDoing) (handles : List ℕ) → At requests P k m d → At requests P k m (revokes_all d handles)
  revokes_all_at m d [] h = h
  revokes_all_at m d (handle ∷ rest) h = revokes_all_at m (revokes d handle) rest (revokes_row_at m d handle (chunk_of d.master.logged.table handle) h)

  begins_at : (m : Machine) (d : MasterDoing) (s : PendingSnapshot) → IsNew d.master.snapshots m requests s.client s.number (snapshot_call s) → snapshot_refusal d.master.logged.names s ≡ None
      → At requests P k m d → Reaches requests P k m (begins_snapshot d s)
  begins_at m d s new free h =
      let a : AreAlike d.master.logged d.master.snapshots m requests = alike_at requests P k m d h in
      let n : Machine = after m (Lock s.client) in
      let move = lock_move d.master.logged d.master.snapshots m requests s a new free in
      let locked : At requests P k n (takes_locks d s) = k.moves m n d.master.logged d.master.disk d.changes d.sent d.master.snapshots (d.master.snapshots ++ s ∷ []) move (Lock s.client ∷ [], ((locks_are_taken d.master.logged d.master.snapshots m requests s a new free).0, tt, refl)) h in
      let handles : List ℕ = snapshot_handles d.master s in
      let copies : List ℕ = copies_for_files d.master.logged (snapshot_files d.master s) in
      let left : MasterDoing = gives_up_copies (without_attempts (takes_locks d s) handles) copies in
      let less : At requests P k n left = k.less n d.master.logged d.master.disk d.changes d.sent (d.master.snapshots ++ s ∷ []) copies locked in
      (n, move.run, revokes_all_at n left handles less)

  performs_at : (m : Machine) (d : MasterDoing) (client number deadline : ℕ) (c : Call) → AreNamedFilesThere d.master.logged → m.config ≡ d.master.config → IsTimely m d.master.now → IsNew d.master.snapshots m requests client number c
      → refusal_of m.config d.master.logged.names c ≡ None → At requests P k m d → Reaches requests P k m (performs d client number deadline c)
  performs_at m d client number deadline (call.Mkdir p) there settings timely new free h = changes_at m d client number d.master.now (call.Mkdir p) _ there new refl free tt h
  performs_at m d client number deadline (call.Rmdir p) there settings timely new free h = changes_at m d client number d.master.now (call.Rmdir p) _ there new refl free tt h
  performs_at m d client number deadline (call.Create p shape) there settings timely new free h =
      changes_at m d client number d.master.now (call.Create p shape) _ there new (ap (λ (g : Config). record_of g d.master.logged client number d.master.now (call.Create p shape)) settings) free tt h
  performs_at m d client number deadline (call.Delete p) there settings timely new free h = changes_at m d client number d.master.now (call.Delete p) _ there new refl free timely h
  performs_at m d client number deadline (call.Rename p q) there settings timely new free h = changes_at m d client number d.master.now (call.Rename p q) _ there new refl free tt h
  performs_at m d client number deadline (call.Snapshot p q) there settings timely new free h =
      begins_at m d (record { client = client; number = number; deadline = deadline; from = p; to = q }) new free h
  performs_at m d client number deadline other there settings timely new free h = here requests P k m d h

  by_at : (m : Machine) (d : MasterDoing) (client number deadline : ℕ) (c : Call) (o : Option Refusal) → master_refusal d.master c ≡ o → AreNamedFilesThere d.master.logged → m.config ≡ d.master.config → IsTimely m d.master.now
      → IsNew d.master.snapshots m requests client number c → At requests P k m d → Reaches requests P k m (names_by d client number deadline c o)
  by_at m d client number deadline c (Some refusal) is there settings timely new h =
      let refused = refused_move d.master m requests client number c refusal (alike_at requests P k m d h) settings new is in
      settles_at m refused.0 d client number (log.Refused (client_id client) number refusal) (Some refusal) refused.1 h
  by_at m d client number deadline c None is there settings timely new h =
      performs_at m d client number deadline c there settings timely new (elim (refusals_are_the_machines d.master c) [ inl equal ↦ ap (λ (g : Config). refusal_of g d.master.logged.names c) settings ∙ sym equal ∙ is | inr busy ↦ absurd (none-some Busy (sym is ∙ busy.0)) ]) h

  anew_at : (m : Machine) (d : MasterDoing) (client number deadline : ℕ) (c : Call) → AreNamedFilesThere d.master.logged → m.config ≡ d.master.config → IsTimely m d.master.now
      → (d.master.now < deadline → (current : OpenCall) × IsWaiting m requests client number current × (current.asked.call ≡ c) × (current.outcomes ≡ [])) → At requests P k m d
      → Reaches requests P k m (names_anew d client number deadline c)
  anew_at m d client number deadline c there settings timely opened h =
      let good : MasterDoing → Type 0 = λ x. Reaches requests P k m x in
      on_test good (nat_le deadline d.master.now) d _ (λ _. here requests P k m d h)
      (λ early. on_test good (is_waiting_call d.master client number) d (names_by d client number deadline c (master_refusal d.master c)) (λ _. here requests P k m d h)
      (λ alone. let o = opened (leb-false deadline d.master.now early) in
      by_at m d client number deadline c (master_refusal d.master c) refl there settings timely (record { current = o.0; waiting = o.1; call_is = o.2; untaken = o.3; alone = alone }) h))

  -- the open call that a request is of took no step
  opened_at : (m : Machine) (d : MasterDoing) (client number deadline : ℕ) (c : Call) → IsRequest d m requests client number deadline c → ((x : KeptCall) → table.get d.master.logged.kept client ≡ Some x → x.number < number)
      → At requests P k m d → d.master.now < deadline → (current : OpenCall) × IsWaiting m requests client number current × (current.asked.call ≡ c) × (current.outcomes ≡ [])
  opened_at m d client number deadline c request later h early =
      let r = request early later in
      let untaken : (r.1).outcomes ≡ [] = elim ((alike_at requests P k m d h).untaken client number r.1 r.2 (ap is_look r.3 ∙ r.0)) [
        | inl none ↦ none
        | inr found ↦
            let less = later found.0 found.1 in
            let same = found.2 in
            absurd (omega (arith, less, same))
      ] in
      (r.1, r.2, r.3, untaken)

  kept_at : (m : Machine) (d : MasterDoing) (client number deadline : ℕ) (c : Call) (o : Option KeptCall) → table.get d.master.logged.kept client ≡ o → AreNamedFilesThere d.master.logged → m.config ≡ d.master.config → IsTimely m d.master.now
      → IsRequest d m requests client number deadline c → At requests P k m d → Reaches requests P k m (names_kept d client number deadline c o)
  kept_at m d client number deadline c None is there settings timely request h =
      anew_at m d client number deadline c there settings timely (opened_at m d client number deadline c request (λ x at. absurd (none-some x (sym is ∙ at))) h) h
  kept_at m d client number deadline c (Some x) is there settings timely request h =
      let good : MasterDoing → Type 0 = λ e. Reaches requests P k m e in
      let a : AreAlike d.master.logged d.master.snapshots m requests = alike_at requests P k m d h in
      on_test good (x.number == number) (answers_name d client number x.refusal) _
      (λ same. here requests P k m (answers_name d client number x.refusal)
      (tells_at m d (the_client client) (body.Named number (Answered (reply_of x.refusal)))
      (λ cur w. a.kept client x is cur (record { is_open = w.is_open; number_is = w.number_is ∙ ap Some (sym (eqb-true x.number number same)) })) h))
      (λ other. on_test good (nat_lt number x.number) d (names_anew d client number deadline c) (λ _. here requests P k m d h)
      (λ late. anew_at m d client number deadline c there settings timely
      (opened_at m d client number deadline c request (λ y at. below x.number y.number (ap (λ (q : KeptCall). q.number) (from_some (sym is ∙ at))) (eqb-false x.number number other) (ltb-false number x.number late)) h) h))
    where
      below : (p q : ℕ) → p ≡ q → (p ≡ number → ⊥) → p ≤ number → q < number
      below p q same other least = elim (cases_lt q number) [ inl less ↦ less | inr more ↦ absurd (other (omega (arith, same, least, more))) ]

  pub name_at : (m : Machine) (d : MasterDoing) (client number deadline : ℕ) (c : Call) → AreNamedFilesThere d.master.logged → m.config ≡ d.master.config → IsTimely m d.master.now → IsRequest d m requests client number deadline c
      → At requests P k m d → Reaches requests P k m (takes_name d client number deadline c)
  name_at m d client number deadline c there settings timely request h = kept_at m d client number deadline c (table.get d.master.logged.kept client) refl there settings timely request h

  -- a Look of the open call
  look_of_open : (m : Machine) (d : MasterDoing) (sender : Node) (number : ℕ) (c : Call) (current : OpenCall) → m.config ≡ d.master.config
      → IsWaiting m requests (client_number sender) number current → current.asked.call ≡ c → is_look c ≡ true → At requests P k m d → Reaches requests P k m (takes_look d sender number c)
  look_of_open m d sender number c current settings w same look h =
      let client : ℕ = client_number sender in
      let outcome : Outcome = outcome_by d.master.logged.names c (master_refusal d.master c) in
      let a : AreAlike d.master.logged d.master.snapshots m requests = alike_at requests P k m d h in
      let n : Machine = with_outcome m client outcome in
      let later : OpenCall = record current { outcomes = outcome ∷ current.outcomes; has_begun = true } in
      let g : GoesOn m n client current later = outcome_goes_on m m client current outcome refl w.is_open in
      let reads : is_look current.asked.call ≡ true = ap is_look same ∙ look in
      let went : RunsTo m n × RunsQuietly m n = look_runs d.master m requests client c current a settings w.is_open same look in
      let move : IsMove m n requests d.master.snapshots d.master.snapshots (λ x. x) = record {
        run = went.0;
        alike = λ l b. (looked l d.master.snapshots m requests client current outcome b w.is_open reads).0;
        alone = λ l b. (looked l [] m requests client current outcome b w.is_open reads).0;
        told = λ x t. told_stays m n requests client current later g x t;
        kept_on = λ x ss b. kept_same requests x.kept;
      } in
      let has : HasOutcome n client outcome = (looked d.master.logged d.master.snapshots m requests client current outcome a w.is_open reads).1 in (
        n,
        move.run,
        tells_at n d sender (body.Named number (reply_by d.master.logged.table outcome))
            (λ x y. subst (λ (o : Outcome). Contains x.outcomes o) (sym (reply_tells d.master.logged.table outcome)) (subst (λ (q : OpenCall). Contains q.outcomes outcome) (one_call n client has.0 x has.1 y.is_open) has.2))
            (k.moves m n d.master.logged d.master.disk d.changes d.sent d.master.snapshots d.master.snapshots move went.1 h),
      )

  pub look_at : (m : Machine) (d : MasterDoing) (sender : Node) (number : ℕ) (c : Call) → m.config ≡ d.master.config → is_look c ≡ true → ((current : OpenCall) → IsWaiting m requests (client_number sender) number current → current.asked.call ≡ c)
      → At requests P k m d → Reaches requests P k m (takes_look d sender number c)
  look_at m d sender number c settings look asked h = by_call (m.clients (client_number sender)).open_call refl
    where
      nobody : ((current : OpenCall) → IsWaiting m requests (client_number sender) number current → ⊥) → Reaches requests P k m (takes_look d sender number c)
      nobody none = here requests P k m (takes_look d sender number c) (tells_at m d sender _ (λ x y. absurd (none x y)) h)

      by_number : (current : OpenCall) → IsOpen m (client_number sender) current → (o : Option ℕ) → requests (client_number sender) ≡ o → Reaches requests P k m (takes_look d sender number c)
      by_number current is None none = nobody (λ x y. none-some number (sym none ∙ y.number_is))
      by_number current is (Some other) at =
          elim (same_or_not other number) [
            | inl same ↦
                let w : IsWaiting m requests (client_number sender) number current = record { is_open = is; number_is = at ∙ ap Some same } in
                look_of_open m d sender number c current settings w (asked current w) look h
            | inr differ ↦ nobody (λ x y. differ (from_some (sym at ∙ y.number_is)))
          ]

      by_call : (o : Option OpenCall) → (m.clients (client_number sender)).open_call ≡ o → Reaches requests P k m (takes_look d sender number c)
      by_call None none = nobody (λ x y. none-some x (sym none ∙ y.is_open))
      by_call (Some current) is = by_number current is (requests (client_number sender)) refl
