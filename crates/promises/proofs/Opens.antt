-- The moment of a run at which an Open that is seen to be answered is answered.
use Rattle.std.proofs.Common.{◌≡◌, ℕ, List, [], ◌∷◌, ◌++◌, append_assoc, Option, Some, None, refl, sym, ◌∙◌, ap, subst, inl, inr}
use Rattle.std.specs.Prelude.{Contains, IsTrue}
use Rattle.std.specs.List.{cons_option}
use Rattle.std.proofs.lemmas.Option.{none-some}
use Rattle.gfs_types.specs.declared.call.Call.{Call}
use Rattle.gfs_types.specs.declared.call.Call.TheVariants as call
use Rattle.gfs_types.specs.declared.answer.Answer.{Answer}
use Rattle.gfs_types.specs.declared.answer.Answer.TheVariants as answer
use Rattle.gfs_types.specs.declared.refusal.Refusal.{Refusal}
use Rattle.gfs_types.specs.declared.ids.Fd.{Fd}
use Rattle.gfs_types.specs.declared.config.Config.{Config}
use Rattle.gfs_types.specs.Paths.{Path}
use Rattle.relaxed_file.specs.Names.{Names, Node, Dir, File}
use Rattle.relaxed_file.specs.Machine.{Machine, new_machine, Outcome, Replies, Opens}
use Rattle.relaxed_file.specs.NameStep.{is_name_call, opened, outcome_by}
use Rattle.relaxed_file.specs.Run.{Action, Invoke, Return, ReturnFd, Pass, Visible, Answered, shown, visible, Allows, after, after_all, IsLawful, IsRunTo, LeadsTo, IsReached}
use Rattle.relaxed_file.specs.RunLaws.{ComesTo, by_names, by_lock, by_room}
use Rattle.relaxed_file.proofs.Tables.{from_some}
use Rattle.relaxed_file.proofs.Reached.{lawful_after, after_all-append, leads_on}
use Rattle.relaxed_file.proofs.Moments.{no_cons, who_of, said_of, called_not, passed_not}
use Rattle.relaxed_file.proofs.InCall.{IsNoFd}
use Rattle.relaxed_file.proofs.GivenReads.{name_calls_answer_one_moment}
use Rattle.promises.specs.Answered.{waiting_call, WasAnswered, IsOf}
use Rattle.promises.proofs.Lists.{parts_of, in_first, in_back}
use Rattle.promises.proofs.WaitingCalls.{call_of, waiting_by_actions, waiting_since}
use Rattle.promises.proofs.AnswerMoments.{AnsweredIn, at, past, reached_past, to_answer, to_answer_lawful, to_answer_ends, lawful_parts, descriptors_are_of_one_file}

-- actions that are cut where something is seen
abbrev pub CutIn : List Action → List Visible → Visible → List Visible → Type 0
CutIn actions before v rest =
    (front : List Action) × (action : Action) × (back : List Action) × (actions ≡ front ++ action ∷ back)
    × (visible front ≡ before) × (shown action ≡ Some v) × (visible back ≡ rest)

unseen_too : (x : Action) (xs : List Action) (before : List Visible) (v : Visible) (rest : List Visible) → shown x ≡ None → CutIn xs before v rest → CutIn (x ∷ xs) before v rest
unseen_too x xs before v rest is c = (x ∷ c.0, c.1, c.2, ap (λ l. x ∷ l) c.3, ap (λ o. cons_option o (visible c.0)) is ∙ c.4, c.5, c.6)

seen_too : (x : Action) (xs : List Action) (w b : Visible) (before : List Visible) (v : Visible) (rest : List Visible) → shown x ≡ Some w → w ≡ b → CutIn xs before v rest
    → CutIn (x ∷ xs) (b ∷ before) v rest
seen_too x xs w b before v rest is same c =
    (x ∷ c.0, c.1, c.2, ap (λ l. x ∷ l) c.3, ap (λ o. cons_option o (visible c.0)) is ∙ (λ i. same i ∷ c.4 i), c.5, c.6)

cut_in : (actions : List Action) (before : List Visible) (v : Visible) (rest : List Visible) → visible actions ≡ before ++ v ∷ rest → CutIn actions before v rest
cut_in [] [] v rest seen = absurd (no_cons v rest seen)
cut_in [] (b ∷ before) v rest seen = absurd (no_cons b (before ++ v ∷ rest) seen)
cut_in (x ∷ xs) [] v rest seen = elim (shown x) as (λ o. shown x ≡ o → cons_option o (visible xs) ≡ v ∷ rest → CutIn (x ∷ xs) [] v rest) [
  | None ↦ λ is more. unseen_too x xs [] v rest is (cut_in xs [] v rest more)
  | Some w ↦ λ is more. let heads = parts_of w v (visible xs) rest more in ([], x, xs, refl, refl, is ∙ ap Some heads.0, heads.1)
] refl seen
cut_in (x ∷ xs) (b ∷ before) v rest seen = elim (shown x) as (λ o. shown x ≡ o → cons_option o (visible xs) ≡ b ∷ (before ++ v ∷ rest) → CutIn (x ∷ xs) (b ∷ before) v rest) [
  | None ↦ λ is more. unseen_too x xs (b ∷ before) v rest is (cut_in xs (b ∷ before) v rest more)
  | Some w ↦ λ is more. let heads = parts_of w b (visible xs) (before ++ v ∷ rest) more in seen_too x xs w b before v rest is heads.0 (cut_in xs before v rest heads.1)
] refl seen

-- no call of Open comes to an answer that is a descriptor: that answer comes with its file
abbrev HasNoFd : Outcome → Type 0
HasNoFd (Replies reply) = IsNoFd reply
HasNoFd (Opens file) = Unit {0}

opened_has_none : (node : Option Node) → HasNoFd (opened node)
opened_has_none None = tt
opened_has_none (Some Dir) = tt
opened_has_none (Some (File id)) = tt

open_has_none : (names : Names) (path : Path) (refused : Option Refusal) → HasNoFd (outcome_by names (call.Open path) refused)
open_has_none names path None = opened_has_none _
open_has_none names path (Some reason) = tt

comes_to_none : (m : Machine) (client : ℕ) (path : Path) (fd : Fd) → ComesTo m client (call.Open path) (Replies (answer.Fd fd)) → ⊥
comes_to_none m client path fd (by_names is) = subst HasNoFd (sym is) (open_has_none m.names path _)
comes_to_none m client path fd (by_lock holder snapshot other is_open has none conflicts is) = subst HasNoFd (sym is) tt
comes_to_none m client path fd (by_room room none is) = subst HasNoFd (sym is) tt

no_plain_return : (config : Config) (m : Machine) (client : ℕ) (path : Path) (fd : Fd) → IsReached config m → call_of (m.clients client).open_call ≡ Some (call.Open path)
    → Allows m (Return client (answer.Fd fd)) → ⊥
no_plain_return config m client path fd reached waits (c, is_open, may) =
    let asked : c.asked.call ≡ call.Open path = from_some (sym (ap call_of is_open) ∙ waits) in
    elim (name_calls_answer_one_moment config m client c (answer.Fd fd) reached is_open (subst (λ a. IsTrue (is_name_call a)) (sym asked) refl) may) [
      | inl came ↦ comes_to_none came.0 client path fd (subst (λ a. ComesTo came.0 client a (Replies (answer.Fd fd))) asked came.4)
      | inr (inl is) ↦ subst IsNoFd (sym is) tt
      | inr (inr is) ↦ subst IsNoFd (sym is) tt
    ]

abbrev number_of : Answer → ℕ
number_of (answer.Fd fd) = fd.0
number_of other = 0

-- so the action behind it is one that opens a file
opens_file : (m : Machine) (action : Action) (client : ℕ) (fd : Fd) → (Allows m (Return client (answer.Fd fd)) → ⊥) → shown action ≡ Some (Answered client (answer.Fd fd)) → Allows m action
    → (file : ℕ) × (action ≡ ReturnFd client fd.0 file)
opens_file m (Return who said) client fd never is allowed =
    absurd (never (subst (λ k. Allows m (Return k (answer.Fd fd))) (who_of who client said _ (from_some is)) (subst (λ a. Allows m (Return who a)) (said_of who client said _ (from_some is)) allowed)))
opens_file m (ReturnFd who k file) client fd never is allowed =
    (file, λ i. ReturnFd (who_of who client _ _ (from_some is) i) (number_of (said_of who client _ _ (from_some is) i)) file)
opens_file m (Invoke who asked) client fd never is allowed = absurd (called_not who client asked _ (from_some is))
opens_file m (Pass moment) client fd never is allowed = absurd (passed_not moment client _ (from_some is))
opens_file m other client fd never is allowed = absurd (none-some _ is)

-- where in a run the client's Open is answered, in a state to which another one led
pub record OpenAnswer (config : Config) (actions : List Action) (from : Machine) (client fd file : ℕ) (rest : List Visible) : Type 0 where
  pub front : List Action
  pub back : List Action
  pub is : actions ≡ front ++ ReturnFd client fd file ∷ back
  pub lawful : IsLawful (new_machine config) front
  pub way : LeadsTo from (after_all (new_machine config) front)
  pub allowed : Allows (after_all (new_machine config) front) (ReturnFd client fd file)
  pub lawful_back : IsLawful (after (after_all (new_machine config) front) (ReturnFd client fd file)) back
  pub then : visible back ≡ rest

-- an Open that is answered after another call was answered no descriptor
module _ (config : Config) (trace : List Visible) (m : Machine) (run : IsRunTo config trace m) (client : ℕ) (asked : Call) (reply : Answer) (plain : IsNoFd reply)
    (one : WasAnswered trace client asked reply) (reader file : ℕ) (path : Path) (fd : Fd)
    (two : WasAnswered one.rest reader (call.Open path) (answer.Fd fd)) (two_of : IsOf run.0 reader fd file) where
  abbrev at_one : AnsweredIn (new_machine config) run.0 client asked reply one.before one.rest
  at_one = at config trace m run client asked reply plain one

  abbrev past_one : Machine
  past_one = past config trace m run client asked reply plain one

  abbrev up_to_one : List Action
  up_to_one = to_answer config trace m run client asked reply plain one

  cut : CutIn at_one.back two.before (Answered reader (answer.Fd fd)) two.rest
  cut = cut_in at_one.back two.before (Answered reader (answer.Fd fd)) two.rest (at_one.then ∙ two.is)

  -- the state that answers it, and what is done before
  abbrev state : Machine
  state = after_all past_one cut.0

  abbrev done : List Action
  done = up_to_one ++ cut.0

  parts : IsLawful past_one cut.0 × IsLawful state (cut.1 ∷ cut.2)
  parts = lawful_parts past_one cut.0 (cut.1 ∷ cut.2) (subst (IsLawful past_one) cut.3 at_one.lawful_back)

  done_ends : after_all (new_machine config) done ≡ state
  done_ends = after_all-append (new_machine config) up_to_one cut.0 ∙ ap (λ k. after_all k cut.0) (to_answer_ends config trace m run client asked reply plain one)

  whole : run.0 ≡ done ++ cut.1 ∷ cut.2
  whole = at_one.is ∙ ap (λ l. at_one.front ++ Return client reply ∷ l) cut.3 ∙ sym (append_assoc at_one.front (Return client reply ∷ []) (cut.0 ++ cut.1 ∷ cut.2))
      ∙ sym (append_assoc up_to_one cut.0 (cut.1 ∷ cut.2))

  found : (f : ℕ) × (cut.1 ≡ ReturnFd reader fd.0 f)
  found =
      let here : IsReached config state = leads_on (new_machine config) past_one state (reached_past config trace m run client asked reply plain one) (cut.0, parts.0, refl) in
      let waits : call_of (state.clients reader).open_call ≡ Some (call.Open path) =
      waiting_by_actions reader past_one cut.0 parts.0 ∙ ap (waiting_call reader (call_of (past_one.clients reader).open_call)) cut.4 ∙ waiting_since reader _ _ two.before two.waited in
      opens_file state cut.1 reader fd (no_plain_return config state reader path fd here waits) cut.5 (parts.1).0

  opens : cut.1 ≡ ReturnFd reader fd.0 file
  opens =
      let there : Contains run.0 (ReturnFd reader fd.0 found.0) = subst (λ l. Contains l (ReturnFd reader fd.0 found.0)) (sym whole)
      (in_back done (cut.1 ∷ cut.2) _ (subst (λ a. Contains (a ∷ cut.2) (ReturnFd reader fd.0 found.0)) (sym found.1) (in_first _ cut.2))) in
      found.1 ∙ ap (λ f. ReturnFd reader fd.0 f) (descriptors_are_of_one_file config trace m run reader fd found.0 file there two_of)

  pub open_answer : OpenAnswer config run.0 past_one reader fd.0 file two.rest
  open_answer = record {
    front = done;
    back = cut.2;
    is = whole ∙ ap (λ a. done ++ a ∷ cut.2) opens;
    lawful = lawful_after (new_machine config) up_to_one cut.0 (to_answer_lawful config trace m run client asked reply plain one)
        (subst (λ k. IsLawful k cut.0) (sym (to_answer_ends config trace m run client asked reply plain one)) parts.0);
    way = subst (LeadsTo past_one) (sym done_ends) (cut.0, parts.0, refl);
    allowed = subst (λ k. Allows k (ReturnFd reader fd.0 file)) (sym done_ends) (subst (Allows state) opens (parts.1).0);
    lawful_back = subst (λ k. IsLawful (after k (ReturnFd reader fd.0 file)) cut.2) (sym done_ends) (subst (λ a. IsLawful (after state a) cut.2) opens (parts.1).1);
    then = cut.6;
  }
