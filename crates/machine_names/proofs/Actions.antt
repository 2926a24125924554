-- Each action on names that the one machine takes, the other may take.
use Rattle.std.proofs.Common.{◌≡◌, ℕ, suc, ◌+◌, ◌≤◌, Bool, true, false, cond, List, ◌∷◌, Option, Some, refl, sym, ap, subst, ◌∙◌, inl, inr}
use Rattle.std.specs.Prelude.{Contains, option_map, unwrap_or}
use Rattle.std.specs.FinMap as map
use Rattle.std.proofs.lemmas.Bool.{true≢false}
use Rattle.gfs_types.specs.declared.call.Call.{Call}
use Rattle.gfs_types.specs.declared.answer.Answer.{Answer}
use Rattle.gfs_types.specs.declared.answer.Answer.TheVariants as answer
use Rattle.gfs_types.specs.declared.refusal.Refusal.TheVariants.{Busy, NamesFull}
use Rattle.gfs_types.specs.declared.config.Config.{Config}
use Rattle.gfs_types.specs.Paths.{hidden_name}
use Rattle.relaxed_file.specs.Names.{Names, node_at}
use Rattle.relaxed_file.specs.Machine.{Machine, Client, OpenCall, Outcome, Replies, Opens}
use Rattle.relaxed_file.specs.NameStep.{is_name_call, is_look, needs_room, is_refused, outcome_of, refusal_of, first_refusal, path_tests, performed, stepped, with_outcome, HasNameStepLeft, MayTakeEffect}
use Rattle.relaxed_file.specs.Locks.{is_snapshot, conflict}
use Rattle.relaxed_file.specs.Answers.{returned}
use Rattle.relaxed_file.specs.Run.{Action, Invoke, Return, ReturnFd, Step, FindBusy, FindFull, Lock, Expire, Pass, Allows, after, asked_now}
use Rattle.relaxed_file.proofs.Tables.{put_same}
use Rattle.machine_names.specs.NameProjections.{IsSameCall, AreNamesOf, IsReady, NameActionsAreTaken}
use Rattle.machine_names.proofs.Calls.{all_same, put_both, with_same_clients, HasCall, its_call, both_step, called, answered, answered_fd, StaysSame}
use Rattle.machine_names.proofs.Effects.{gone_state, put_files, same_shape, performed_both, may_take_effect, named_no_file, may_return}

abbrev IsTaken : Machine → Machine → Action → Type 0
IsTaken m n action = Allows m action × AreNamesOf (after m action) (after n action)

-- what the open call's step leads to, where the call is known
pub on_call : (P : Machine → Type 0) (m : Machine) (f : OpenCall → Machine) (o : Option OpenCall) (c : OpenCall) → o ≡ Some c → P (f c) → P (unwrap_or (option_map f o) m)
on_call P m f o c is h = subst (λ (x : Option OpenCall). P (unwrap_or (option_map f x) m)) (sym is) h

come_to : (outcome : Outcome) → StaysSame (λ current. record current { outcomes = outcome ∷ current.outcomes })
come_to outcome state c d s = record { naming = s.naming; call_is = s.call_is; no_file = s.no_file; begun = refl; locks = s.locks; outcomes = ap (λ (os : List Outcome). outcome ∷ os) s.outcomes; no_offer = s.no_offer; listed = s.listed }

both_come_to : (m n : Machine) (client : ℕ) (outcome : Outcome) → AreNamesOf m n → AreNamesOf (with_outcome m client outcome) (with_outcome n client outcome)
both_come_to m n client outcome h = both_step m n client (λ current. record current { outcomes = outcome ∷ current.outcomes }) (λ c. refl) (come_to outcome) h

step_left : (state : Client) (c d : OpenCall) → IsSameCall state c d → HasNameStepLeft c → HasNameStepLeft d
step_left state c d s (inl look) = inl (ap is_look s.call_is ∙ look)
step_left state c d s (inr none) = inr (s.outcomes ∙ none)

module _ (m n : Machine) (h : AreNamesOf m n) where
  invokes : (client : ℕ) (c : Call) → IsReady m (Invoke client c) → IsTaken m n (Invoke client c)
  invokes client c ready = (
    ready.0,
    with_same_clients m n (after m (Invoke client c)) (after n (Invoke client c)) h refl refl refl refl (λ file. refl) refl refl refl refl (λ file. refl)
        (put_both m.clients n.clients client (called m client c) (called n client c) (all_same m n h) (
          record {
            naming = ready.1;
            call_is = refl;
            no_file = (named_no_file (n.clients client) c ready.1, named_no_file (m.clients client) c ready.1);
            begun = refl;
            locks = refl;
            outcomes = refl;
            no_offer = refl;
            listed = put_same (suc (m.clients client).call_count) (Some (asked_now m client c)) (m.clients client).calls;
          },
          h.fds client,
        )),
  )

  returns : (client : ℕ) (reply : Answer) → Allows n (Return client reply) → IsTaken m n (Return client reply)
  returns client reply may =
      let c : OpenCall = may.0 in
      let has : HasCall m client c = its_call m n client c h may.1 in (
        (has.d, has.is_open, may_return m n client c has.d (m.clients client) has.same reply may.2),
        on_call (λ (o : Machine). AreNamesOf o (after n (Return client reply))) m (λ (current : OpenCall). returned m client current reply) (m.clients client).open_call has.d has.is_open
            (on_call (λ (p : Machine). AreNamesOf (returned m client has.d reply) p) n (λ (current : OpenCall). returned n client current reply) (n.clients client).open_call c may.1
            (with_same_clients m n (returned m client has.d reply) (returned n client c reply) h refl refl refl refl (λ file. refl) refl refl refl refl (λ file. refl)
            (put_both m.clients n.clients client (answered m client has.d reply) (answered n client c reply) (all_same m n h) (tt, h.fds client)))),
      )

  returns_fd : (client fd file : ℕ) → Allows n (ReturnFd client fd file) → IsTaken m n (ReturnFd client fd file)
  returns_fd client fd file may =
      let has : HasCall m client may.0 = its_call m n client may.0 h may.1 in (
        (has.d, has.is_open, (subst (λ (os : List Outcome). Contains os (Opens file)) (sym has.same.outcomes) (may.2).0, (may.2).1 ∙ ap suc (h.fds client))),
        with_same_clients m n (after m (ReturnFd client fd file)) (after n (ReturnFd client fd file)) h refl refl refl refl (λ x. refl) refl refl refl refl (λ x. refl)
            (put_both m.clients n.clients client (answered_fd m client fd file) (answered_fd n client fd file) (all_same m n h) (tt, refl)),
      )

  steps : (client moment : ℕ) (outcome : Outcome) → Allows n (Step client moment outcome) → IsReady m (Step client moment outcome) → IsTaken m n (Step client moment outcome)
  steps client moment outcome may ready =
      let c : OpenCall = may.0 in
      let has : HasCall m client c = its_call m n client c h may.1 in
      let s = has.same in
      let step = may.2 in (
        (
          has.d,
          has.is_open,
          (
            ap is_name_call s.call_is ∙ s.naming,
            step_left (m.clients client) c has.d s step.1,
            step.2 ∙ ap (λ (x : Config). outcome_of x n.names c.asked.call) h.config ∙ ap (λ (x : Names). outcome_of m.config x c.asked.call) h.names ∙ ap (λ (k : Call). outcome_of m.config m.names k) (sym s.call_is),
            λ accepted. may_take_effect m n h has.d.asked.call moment (ready has.d has.is_open accepted) (subst (λ (k : Call). MayTakeEffect n k moment) (sym s.call_is) (step.3 accepted)),
          ),
        ),
        on_call (λ (o : Machine). AreNamesOf o (after n (Step client moment outcome))) m (λ (current : OpenCall). stepped m client moment outcome current) (m.clients client).open_call has.d has.is_open
            (on_call (λ (p : Machine). AreNamesOf (stepped m client moment outcome has.d) p) n (λ (current : OpenCall). stepped n client moment outcome current) (n.clients client).open_call c may.1
            (by_test (is_refused outcome) has.d.asked.call c.asked.call s.call_is)),
      )
    where
      by_test : (b : Bool) (j k : Call) → j ≡ k → AreNamesOf (with_outcome (cond b m (performed m j moment)) client outcome) (with_outcome (cond b n (performed n k moment)) client outcome)
      by_test true j k same = both_come_to m n client outcome h
      by_test false j k same =
          subst (λ (x : Call). AreNamesOf (with_outcome (performed m x moment) client outcome) (with_outcome (performed n k moment) client outcome)) (sym same)
          (both_come_to (performed m k moment) (performed n k moment) client outcome (performed_both m n h k moment))

  finds_busy : (client holder : ℕ) → Allows n (FindBusy client holder) → IsTaken m n (FindBusy client holder)
  finds_busy client holder may =
      let has : HasCall m client may.0 = its_call m n client may.0 h may.1 in
      let other = may.2 in
      let holds : HasCall m holder other.0 = its_call m n holder other.0 h other.1 in
      let busy = other.2 in (
        (
          has.d,
          has.is_open,
          (
            holds.d,
            holds.is_open,
            (
              busy.0,
              step_left (m.clients client) may.0 has.d has.same busy.1,
              holds.same.locks ∙ busy.2,
              holds.same.outcomes ∙ busy.3,
              ap (λ (k : Call). first_refusal (path_tests m.config k)) has.same.call_is ∙ ap (λ (x : Config). first_refusal (path_tests x (may.0).asked.call)) (sym h.config) ∙ busy.4,
              ap (λ (k : Call). conflict k holds.d.asked.call) has.same.call_is ∙ ap (λ (k : Call). conflict (may.0).asked.call k) holds.same.call_is ∙ busy.5,
            ),
          ),
        ),
        both_come_to m n client (Replies (answer.Refused Busy)) h,
      )

  finds_full : (client : ℕ) → Allows n (FindFull client) → IsTaken m n (FindFull client)
  finds_full client may =
      let has : HasCall m client may.0 = its_call m n client may.0 h may.1 in
      let full = may.2 in (
        (
          has.d,
          has.is_open,
          (
            ap needs_room has.same.call_is ∙ full.0,
            step_left (m.clients client) may.0 has.d has.same full.1,
            ap (λ (k : Call). refusal_of m.config m.names k) has.same.call_is ∙ ap (λ (x : Names). refusal_of m.config x (may.0).asked.call) (sym h.names) ∙ ap (λ (x : Config). refusal_of x n.names (may.0).asked.call) (sym h.config) ∙ full.2,
          ),
        ),
        both_come_to m n client (Replies (answer.Refused NamesFull)) h,
      )

  locks_too : StaysSame (λ current. record current { has_locks = true })
  locks_too state c d s = record { naming = s.naming; call_is = s.call_is; no_file = s.no_file; begun = refl; locks = refl; outcomes = s.outcomes; no_offer = s.no_offer; listed = s.listed }

  locks : (client : ℕ) → Allows n (Lock client) → IsTaken m n (Lock client)
  locks client may =
      let has : HasCall m client may.0 = its_call m n client may.0 h may.1 in
      let lock = may.2 in (
        (
          has.d,
          has.is_open,
          (
            ap is_snapshot has.same.call_is ∙ lock.0,
            has.same.outcomes ∙ lock.1,
            ap (λ (k : Call). refusal_of m.config m.names k) has.same.call_is ∙ ap (λ (x : Names). refusal_of m.config x (may.0).asked.call) (sym h.names) ∙ ap (λ (x : Config). refusal_of x n.names (may.0).asked.call) (sym h.config) ∙ lock.2,
          ),
        ),
        both_step m n client (λ current. record current { has_locks = true }) (λ c. refl) locks_too h,
      )

  expires : (file moment : ℕ) → Allows n (Expire file moment) → IsTaken m n (Expire file moment)
  expires file moment may = (
    (
      ap (λ (x : Names). node_at x (hidden_name moment file)) (sym h.names) ∙ may.0,
      subst (λ (t : ℕ). moment + m.config.keep_ms ≤ t) h.clock (subst (λ (c : Config). moment + c.keep_ms ≤ n.clock) h.config may.1),
    ),
    record {
      config = h.config;
      clock = h.clock;
      names = ap (λ (x : Names). map.remove x (hidden_name moment file)) h.names;
      count = h.count;
      files = put_files m.files n.files file (record (m.files file) { is_collected = true }) (record (n.files file) { is_collected = true }) h.files (ap gone_state (same_shape m n h file));
      calls = h.calls;
      fds = h.fds;
    },
  )

  passes : (moment : ℕ) → Allows n (Pass moment) → IsTaken m n (Pass moment)
  passes moment may = (
    subst (λ (t : ℕ). t ≤ moment) h.clock may,
    record { config = h.config; clock = refl; names = h.names; count = h.count; files = h.files; calls = h.calls; fds = h.fds },
  )

pub name_actions_are_taken : NameActionsAreTaken
name_actions_are_taken m n (Invoke client c) h is may ready = invokes m n h client c ready
name_actions_are_taken m n (Return client reply) h is may ready = returns m n h client reply may
name_actions_are_taken m n (ReturnFd client fd file) h is may ready = returns_fd m n h client fd file may
name_actions_are_taken m n (Step client moment outcome) h is may ready = steps m n h client moment outcome may ready
name_actions_are_taken m n (FindBusy client holder) h is may ready = finds_busy m n h client holder may
name_actions_are_taken m n (FindFull client) h is may ready = finds_full m n h client may
name_actions_are_taken m n (Lock client) h is may ready = locks m n h client may
name_actions_are_taken m n (Expire file moment) h is may ready = expires m n h file moment may
name_actions_are_taken m n (Pass moment) h is may ready = passes m n h moment may
name_actions_are_taken m n other h is may ready = absurd (true≢false (sym is))
