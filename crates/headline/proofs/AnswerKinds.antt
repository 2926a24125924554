-- A run of the machine answers a call what it asks for, or a refusal.
use Rattle.std.proofs.Common.{◌≡◌, ℕ, Bool, true, false, ◌⊎◌, List, [], ◌∷◌, ◌++◌, Option, Some, None, refl, sym, ◌∙◌, ap, subst, inl, inr}
use Rattle.std.specs.Prelude.{Contains, IsTrue, IsFalse}
use Rattle.std.specs.List.{cons_option}
use Rattle.std.proofs.lemmas.Bool.{true≢false, false≢true}
use Rattle.std.proofs.lemmas.Option.{none-some}
use Rattle.gfs_types.specs.declared.answer.Answer.{Answer}
use Rattle.gfs_types.specs.declared.answer.Answer.TheVariants as answer
use Rattle.gfs_types.specs.declared.call.Call.{Call}
use Rattle.gfs_types.specs.declared.call.Call.TheVariants as call
use Rattle.gfs_types.specs.declared.config.Config.{Config}
use Rattle.gfs_types.specs.declared.refusal.Refusal.{Refusal}
use Rattle.gfs_types.specs.declared.refusal.Refusal.TheVariants.{Busy, NotFile, NotFound, NamesFull, Unknown, NoMemory}
use Rattle.relaxed_file.specs.Names.{Names, Node, Dir, File}
use Rattle.relaxed_file.specs.Machine.{Machine, new_machine, OpenCall, IsOpen, Outcome, Replies, Opens}
use Rattle.relaxed_file.specs.NameStep.{is_name_call, opened, done_outcome, outcome_by}
use Rattle.relaxed_file.specs.Answers.{IsDone, MayReturn, MayReturnFd}
use Rattle.relaxed_file.specs.Run.{Action, Invoke, Return, ReturnFd, Pass, Visible, Answered, shown, visible, Allows, after_all, IsLawful, IsReached}
use Rattle.relaxed_file.specs.RunLaws.{ComesTo, by_names, by_lock, by_room}
use Rattle.relaxed_file.proofs.Tables.{from_some, contained}
use Rattle.relaxed_file.proofs.Reached.{kept_to}
use Rattle.relaxed_file.proofs.CallSteps.{GetsOutcome, Goes, CallStep, call_step}
use Rattle.relaxed_file.proofs.Effects.{IsPlain}
use Rattle.relaxed_file.proofs.Moments.{no_cons, who_of, said_of, called_not, passed_not}
use Rattle.relaxed_file.proofs.GivenReads.{name_calls_answer_one_moment, opens_find_their_file}
use Rattle.promises.specs.Answered.{waiting_call}
use Rattle.promises.specs.Promises.{InEachRun}
use Rattle.promises.proofs.WaitingCalls.{call_of, waiting_by_actions}
use Rattle.promises.proofs.AnswerMoments.{lawful_parts}
use Rattle.promises.proofs.Lists.{parts_of}
use Rattle.promises.proofs.Opens.{CutIn}
use Rattle.headline.specs.AnswerKinds.{IsAnswerTo, CallsHaveTheirAnswers}

-- only a name call comes to something
abbrev ArePlain : Option OpenCall → Type 0
ArePlain current = (c : OpenCall) → current ≡ Some c → IsPlain c

still_none : (m : Machine) (client : ℕ) (c d : OpenCall) → GetsOutcome m client c d → IsFalse (is_name_call c.asked.call) → c.outcomes ≡ [] → d.outcomes ≡ []
still_none m client c d (inl same) unnamed none = same ∙ none
still_none m client c d (inr more) unnamed none = absurd (true≢false (sym more.0 ∙ unnamed))

plain_step : (m : Machine) (client : ℕ) (v : Option Visible) (old new : Option OpenCall) → CallStep m client v old new → ArePlain old → ArePlain new
plain_step m client v old new (inl made) h d is = λ unnamed. ap (λ (x : OpenCall). x.outcomes) (from_some (sym is ∙ made.3))
plain_step m client v old new (inr (inl ended)) h d is = absurd (none-some d (sym ended.4 ∙ is))
plain_step m client v old new (inr (inr (other, inl going))) h d is = λ unnamed.
    let on : Goes m client going.0 going.1 = going.4 in
    let same : d ≡ going.1 = from_some (sym is ∙ going.3) in
    let was : IsFalse (is_name_call (going.0).asked.call) = subst (λ a. IsFalse (is_name_call a.call)) (sym on.1) (subst (λ (x : OpenCall). IsFalse (is_name_call x.asked.call)) same unnamed) in
    ap (λ (x : OpenCall). x.outcomes) same ∙ still_none m client going.0 going.1 on.4 was (h going.0 going.2 was)
plain_step m client v old new (inr (inr (other, inr none))) h d is = absurd (none-some d (sym none.1 ∙ is))

plain_reached : (config : Config) (client : ℕ) (m : Machine) → IsReached config m → ArePlain (m.clients client).open_call
plain_reached config client m way =
    kept_to (λ k. ArePlain (k.clients client).open_call) (λ k action allowed h. plain_step k client (shown action) _ _ (call_step k client action allowed) h)
    (new_machine config) m way (λ c is. absurd (none-some c is))

-- and so another call has nothing that it came to
nothing_came : (config : Config) (m : Machine) (client : ℕ) (current : OpenCall) (outcome : Outcome) → IsReached config m → IsOpen m client current → IsFalse (is_name_call current.asked.call)
    → Contains current.outcomes outcome → ⊥
nothing_came config m client current outcome reached is unnamed came =
    contained (λ o. ⊥) [] outcome tt (subst (λ (o : List Outcome). Contains o outcome) (plain_reached config client m reached current is unnamed) came)

-- what a name call comes to
abbrev IsOutcomeOf : Call → Outcome → Type 0
IsOutcomeOf asked (Replies reply) = IsAnswerTo asked reply
IsOutcomeOf asked (Opens file) = (fd : ℕ) → IsAnswerTo asked (answer.Fd (record { 0 = fd }))

opened_kind : (path : List ℕ) (node : Option Node) → IsOutcomeOf (call.Open path) (opened node)
opened_kind path None = inr (NotFound, refl)
opened_kind path (Some Dir) = inr (NotFile, refl)
opened_kind path (Some (File id)) = λ fd. inl refl

done_kind : (names : Names) (c : Call) → IsTrue (is_name_call c) → IsOutcomeOf c (done_outcome names c)
done_kind names (call.Open path) named = opened_kind path _
done_kind names (call.List path) named = inl refl
done_kind names (call.Length fd) named = absurd (false≢true named)
done_kind names (call.Append fd bytes) named = absurd (false≢true named)
done_kind names (call.Read fd offset count) named = absurd (false≢true named)
done_kind names other named = inl refl

outcome_kind : (names : Names) (c : Call) (refused : Option Refusal) → IsTrue (is_name_call c) → IsOutcomeOf c (outcome_by names c refused)
outcome_kind names c (Some refusal) named = inr (refusal, refl)
outcome_kind names c None named = done_kind names c named

came_kind : (m : Machine) (client : ℕ) (c : Call) (outcome : Outcome) → IsTrue (is_name_call c) → ComesTo m client c outcome → IsOutcomeOf c outcome
came_kind m client c outcome named (by_names is) = subst (IsOutcomeOf c) (sym is) (outcome_kind m.names c _ named)
came_kind m client c outcome named (by_lock holder snapshot other is_open has none conflicts is) = subst (IsOutcomeOf c) (sym is) (inr (Busy, refl))
came_kind m client c outcome named (by_room room none is) = subst (IsOutcomeOf c) (sym is) (inr (NamesFull, refl))

-- what another call is answered
file_kind : (m : Machine) (client : ℕ) (current : OpenCall) (c : Call) (reply : Answer) → IsDone m client current c reply → Contains current.outcomes (Replies reply) ⊎ IsAnswerTo c reply
file_kind m client current (call.Close fd) answer.Done done = inr (inl refl)
file_kind m client current (call.Write fd offset bytes) answer.Done done = inr (inl refl)
file_kind m client current (call.Append fd bytes) (answer.At x) done = inr (inl refl)
file_kind m client current (call.Read fd offset count) (answer.Bytes bytes rounds) done = inr (inl refl)
file_kind m client current (call.Length fd) (answer.Length n) done = inr (inl refl)
file_kind m client current other reply done = inl done

module _ (config : Config) (m : Machine) (client : ℕ) (current : OpenCall) (reached : IsReached config m) (is : IsOpen m client current) where
  unnamed_kind : IsFalse (is_name_call current.asked.call) → (reply : Answer) → MayReturn m client current reply → IsAnswerTo current.asked.call reply
  unnamed_kind unnamed (answer.Refused reason) may = inr (reason, refl)
  unnamed_kind unnamed other may = elim (file_kind m client current current.asked.call other may) [
    | inl came ↦ absurd (nothing_came config m client current (Replies other) reached is unnamed came)
    | inr kind ↦ kind
  ]

  named_kind : IsTrue (is_name_call current.asked.call) → (reply : Answer) → MayReturn m client current reply → IsAnswerTo current.asked.call reply
  named_kind named reply may = elim (name_calls_answer_one_moment config m client current reply reached is named may) [
    | inl came ↦ came_kind came.0 client current.asked.call (Replies reply) named came.4
    | inr (inl unknown) ↦ inr (Unknown, unknown)
    | inr (inr none) ↦ inr (NoMemory, none)
  ]

  reply_kind : (reply : Answer) → MayReturn m client current reply → IsAnswerTo current.asked.call reply
  reply_kind reply may = by_name (is_name_call current.asked.call) refl
    where
      by_name : (b : Bool) → is_name_call current.asked.call ≡ b → IsAnswerTo current.asked.call reply
      by_name true named = named_kind named reply may
      by_name false unnamed = unnamed_kind unnamed reply may

  descriptor_kind : (fd file : ℕ) → MayReturnFd m client current fd file → IsAnswerTo current.asked.call (answer.Fd (record { 0 = fd }))
  descriptor_kind fd file may = by_name (is_name_call current.asked.call) refl
    where
      by_name : (b : Bool) → is_name_call current.asked.call ≡ b → IsAnswerTo current.asked.call (answer.Fd (record { 0 = fd }))
      by_name true named =
          let came = opens_find_their_file config m client current fd file reached is may in
          came_kind came.0 client current.asked.call (Opens file) named came.4 fd
      by_name false unnamed = absurd (nothing_came config m client current (Opens file) reached is unnamed may.0)

-- the action by which a call is answered
module _ (config : Config) (m : Machine) (client : ℕ) (asked : Call) (reached : IsReached config m) (waits : call_of (m.clients client).open_call ≡ Some asked) where
  its_call : (current : OpenCall) → IsOpen m client current → current.asked.call ≡ asked
  its_call current is = from_some (sym (ap call_of is) ∙ waits)

  action_kind : (action : Action) (reply : Answer) → shown action ≡ Some (Answered client reply) → Allows m action → IsAnswerTo asked reply
  action_kind (Return who said) reply is allowed =
      let here : Allows m (Return client reply) =
      subst (λ k. Allows m (Return k reply)) (who_of who client said reply (from_some is)) (subst (λ a. Allows m (Return who a)) (said_of who client said reply (from_some is)) allowed) in
      subst (λ c. IsAnswerTo c reply) (its_call here.0 here.1) (reply_kind config m client here.0 reached here.1 reply here.2)
  action_kind (ReturnFd who fd file) reply is allowed =
      let here : Allows m (ReturnFd client fd file) = subst (λ k. Allows m (ReturnFd k fd file)) (who_of who client _ reply (from_some is)) allowed in
      subst (λ c. IsAnswerTo c reply) (its_call here.0 here.1)
      (subst (IsAnswerTo (here.0).asked.call) (said_of who client _ reply (from_some is)) (descriptor_kind config m client here.0 reached here.1 fd file here.2))
  action_kind (Invoke who made) reply is allowed = absurd (called_not who client made reply (from_some is))
  action_kind (Pass moment) reply is allowed = absurd (passed_not moment client reply (from_some is))
  action_kind other reply is allowed = absurd (none-some _ is)

-- a run is cut where something is seen
past_unseen : (x : Action) (xs : List Action) (before : List Visible) (v : Visible) (rest : List Visible) → shown x ≡ None → CutIn xs before v rest → CutIn (x ∷ xs) before v rest
past_unseen x xs before v rest is c = (x ∷ c.0, c.1, c.2, ap (λ l. x ∷ l) c.3, ap (λ o. cons_option o (visible c.0)) is ∙ c.4, c.5, c.6)

past_seen : (x : Action) (xs : List Action) (w b : Visible) (before : List Visible) (v : Visible) (rest : List Visible) → shown x ≡ Some w → w ≡ b → CutIn xs before v rest
    → CutIn (x ∷ xs) (b ∷ before) v rest
past_seen x xs w b before v rest is same c = (x ∷ c.0, c.1, c.2, ap (λ l. x ∷ l) c.3, ap (λ o. cons_option o (visible c.0)) is ∙ (λ i. same i ∷ c.4 i), c.5, c.6)

cut_at : (actions : List Action) (before : List Visible) (v : Visible) (rest : List Visible) → visible actions ≡ before ++ v ∷ rest → CutIn actions before v rest
cut_at [] [] v rest seen = absurd (no_cons v rest seen)
cut_at [] (b ∷ before) v rest seen = absurd (no_cons b (before ++ v ∷ rest) seen)
cut_at (x ∷ xs) [] v rest seen = elim (shown x) as (λ o. shown x ≡ o → cons_option o (visible xs) ≡ v ∷ rest → CutIn (x ∷ xs) [] v rest) [
  | None ↦ λ is more. past_unseen x xs [] v rest is (cut_at xs [] v rest more)
  | Some w ↦ λ is more. let heads = parts_of w v (visible xs) rest more in ([], x, xs, refl, refl, is ∙ ap Some heads.0, heads.1)
] refl seen
cut_at (x ∷ xs) (b ∷ before) v rest seen = elim (shown x) as (λ o. shown x ≡ o → cons_option o (visible xs) ≡ b ∷ (before ++ v ∷ rest) → CutIn (x ∷ xs) (b ∷ before) v rest) [
  | None ↦ λ is more. past_unseen x xs (b ∷ before) v rest is (cut_at xs (b ∷ before) v rest more)
  | Some w ↦ λ is more. let heads = parts_of w b (visible xs) (before ++ v ∷ rest) more in past_seen x xs w b before v rest is heads.0 (cut_at xs before v rest heads.1)
] refl seen

pub calls_have_their_answers : InEachRun CallsHaveTheirAnswers
calls_have_their_answers config trace m run client asked reply w =
    let start : Machine = new_machine config in
    let c : CutIn run.0 w.before (Answered client reply) w.rest = cut_at run.0 w.before (Answered client reply) w.rest (run.2 ∙ w.is) in
    let parts = lawful_parts start c.0 (c.1 ∷ c.2) (subst (IsLawful start) c.3 run.1) in
    let then : Machine = after_all start c.0 in
    let waits : call_of (then.clients client).open_call ≡ Some asked = waiting_by_actions client start c.0 parts.0 ∙ ap (waiting_call client None) c.4 ∙ w.waited in
    action_kind config then client asked (c.0, parts.0, refl) waits c.1 reply c.5 (parts.1).0
