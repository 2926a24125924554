-- The moment of a run at which a call that is seen to be answered is answered.
use Rattle.std.proofs.Common.{◌≡◌, ℕ, List, [], ◌∷◌, ◌++◌, append_assoc, Some, None, refl, sym, ◌∙◌, ap, subst}
use Rattle.std.specs.Prelude.{Contains}
use Rattle.std.specs.List.{cons_option}
use Rattle.gfs_types.specs.declared.call.Call.{Call}
use Rattle.gfs_types.specs.declared.answer.Answer.{Answer}
use Rattle.gfs_types.specs.declared.ids.Fd.{Fd}
use Rattle.gfs_types.specs.declared.config.Config.{Config}
use Rattle.relaxed_file.specs.Machine.{Machine, new_machine, OpenCall, IsOpen}
use Rattle.relaxed_file.specs.Answers.{MayReturn}
use Rattle.relaxed_file.specs.Run.{Action, Return, ReturnFd, Visible, Answered, shown, visible, Allows, after, after_all, IsLawful, IsRunTo, LeadsTo, IsReached}
use Rattle.relaxed_file.proofs.Tables.{from_some}
use Rattle.relaxed_file.proofs.Reached.{lawful_after, after_all-append, leads_on, leads_by}
use Rattle.relaxed_file.proofs.GoingOn.{visible-append}
use Rattle.relaxed_file.proofs.Grows.{known_at_first}
use Rattle.relaxed_file.proofs.Moments.{no_cons}
use Rattle.relaxed_file.proofs.InCall.{IsNoFd, is_return_of}
use Rattle.promises.specs.Answered.{waiting_call, WasAnswered, IsOf, fd_of}
use Rattle.promises.specs.Promises.{InEachRun, DescriptorsAreOfOneFile}
use Rattle.promises.proofs.Lists.{parts_of, in_front}
use Rattle.promises.proofs.WaitingCalls.{call_of, waiting_by_actions}
use Rattle.promises.proofs.Descriptors.{file_opened, one_file}

pub descriptors_are_of_one_file : InEachRun DescriptorsAreOfOneFile
descriptors_are_of_one_file config trace m run client fd one two a b = one_file (new_machine config) run.0 (known_at_first config) run.1 client fd.0 one two a b

-- actions that are cut at something that is seen
record Cut (actions : List Action) (before : List Visible) (v : Visible) (rest : List Visible) : Type 0 where
  front : List Action
  action : Action
  back : List Action
  is : actions ≡ front ++ action ∷ back
  seen : visible front ≡ before
  shows : shown action ≡ Some v
  then : visible back ≡ rest

cut : (actions : List Action) (before : List Visible) (v : Visible) (rest : List Visible) → visible actions ≡ before ++ v ∷ rest → Cut actions before v rest
cut [] [] v rest seen = absurd (no_cons v rest seen)
cut [] (w ∷ before) v rest seen = absurd (no_cons w (before ++ v ∷ rest) seen)
cut (x ∷ xs) [] v rest seen =
    elim (shown x) as (λ o. shown x ≡ o → cons_option o (visible xs) ≡ v ∷ rest → Cut (x ∷ xs) [] v rest) [
      | None ↦ λ is more.
          let c : Cut xs [] v rest = cut xs [] v rest more in
          record { front = x ∷ c.front; action = c.action; back = c.back; is = ap (λ l. x ∷ l) c.is; seen = ap (λ o. cons_option o (visible c.front)) is ∙ c.seen; shows = c.shows; then = c.then }
      | Some w ↦ λ is more.
          let heads = parts_of w v (visible xs) rest more in
          record { front = []; action = x; back = xs; is = refl; seen = refl; shows = is ∙ ap Some heads.0; then = heads.1 }
    ] refl seen
cut (x ∷ xs) (b ∷ before) v rest seen =
    elim (shown x) as (λ o. shown x ≡ o → cons_option o (visible xs) ≡ b ∷ (before ++ v ∷ rest) → Cut (x ∷ xs) (b ∷ before) v rest) [
      | None ↦ λ is more.
          let c : Cut xs (b ∷ before) v rest = cut xs (b ∷ before) v rest more in
          record { front = x ∷ c.front; action = c.action; back = c.back; is = ap (λ l. x ∷ l) c.is; seen = ap (λ o. cons_option o (visible c.front)) is ∙ c.seen; shows = c.shows; then = c.then }
      | Some w ↦ λ is more.
          let heads = parts_of w b (visible xs) (before ++ v ∷ rest) more in
          let c : Cut xs before v rest = cut xs before v rest heads.1 in
          record {
            front = x ∷ c.front;
            action = c.action;
            back = c.back;
            is = ap (λ l. x ∷ l) c.is;
            seen = ap (λ o. cons_option o (visible c.front)) is ∙ (λ i. heads.0 i ∷ c.seen i);
            shows = c.shows;
            then = c.then;
          }
    ] refl seen

pub lawful_parts : (m : Machine) (xs ys : List Action) → IsLawful m (xs ++ ys) → IsLawful m xs × IsLawful (after_all m xs) ys
lawful_parts m [] ys lawful = (tt, lawful)
lawful_parts m (x ∷ xs) ys lawful = let more = lawful_parts (after m x) xs ys lawful.1 in ((lawful.0, more.0), more.1)

-- the moment of an answer, in actions from a state on
pub record AnsweredIn (s : Machine) (actions : List Action) (client : ℕ) (asked : Call) (reply : Answer) (before rest : List Visible) : Type 0 where
  pub front : List Action
  pub back : List Action
  pub is : actions ≡ front ++ Return client reply ∷ back
  pub lawful : IsLawful s front
  pub seen : visible front ≡ before
  pub current : OpenCall
  pub open_now : IsOpen (after_all s front) client current
  pub call_is : current.asked.call ≡ asked
  pub may : MayReturn (after_all s front) client current reply
  pub lawful_back : IsLawful (after (after_all s front) (Return client reply)) back
  pub then : visible back ≡ rest

pub answered_in : (s : Machine) (actions : List Action) (client : ℕ) (asked : Call) (reply : Answer) (before rest : List Visible) → IsLawful s actions → IsNoFd reply
    → visible actions ≡ before ++ Answered client reply ∷ rest → waiting_call client (call_of (s.clients client).open_call) before ≡ Some asked → AnsweredIn s actions client asked reply before rest
answered_in s actions client asked reply before rest lawful plain seen waited =
    let c : Cut actions before (Answered client reply) rest = cut actions before (Answered client reply) rest seen in
    let parts = lawful_parts s c.front (c.action ∷ c.back) (subst (IsLawful s) c.is lawful) in
    let same : c.action ≡ Return client reply = is_return_of c.action client reply plain c.shows in
    let allowed : Allows (after_all s c.front) (Return client reply) = subst (Allows (after_all s c.front)) same (parts.1).0 in
    let waits : call_of ((after_all s c.front).clients client).open_call ≡ Some asked =
    waiting_by_actions client s c.front parts.0 ∙ ap (waiting_call client (call_of (s.clients client).open_call)) c.seen ∙ waited in
    record {
      front = c.front;
      back = c.back;
      is = c.is ∙ ap (λ a. c.front ++ a ∷ c.back) same;
      lawful = parts.0;
      seen = c.seen;
      current = allowed.0;
      open_now = allowed.1;
      call_is = from_some (sym (ap call_of allowed.1) ∙ waits);
      may = allowed.2;
      lawful_back = subst (λ a. IsLawful (after (after_all s c.front) a) c.back) same (parts.1).1;
      then = c.then;
    }

-- in a whole run
pub answered_at : (config : Config) (trace : List Visible) (m : Machine) (run : IsRunTo config trace m) (client : ℕ) (asked : Call) (reply : Answer) → IsNoFd reply
    → (w : WasAnswered trace client asked reply) → AnsweredIn (new_machine config) run.0 client asked reply w.before w.rest
answered_at config trace m run client asked reply plain w = answered_in (new_machine config) run.0 client asked reply w.before w.rest run.1 plain (run.2 ∙ w.is) w.waited

-- an answer that is no descriptor, in a whole run
module _ (config : Config) (trace : List Visible) (m : Machine) (run : IsRunTo config trace m) (client : ℕ) (asked : Call) (reply : Answer) (plain : IsNoFd reply)
    (w : WasAnswered trace client asked reply) where
  abbrev pub at : AnsweredIn (new_machine config) run.0 client asked reply w.before w.rest
  at = answered_in (new_machine config) run.0 client asked reply w.before w.rest run.1 plain (run.2 ∙ w.is) w.waited

  abbrev pub then : Machine
  then = after_all (new_machine config) at.front

  abbrev pub past : Machine
  past = after then (Return client reply)

  pub reached : IsReached config then
  reached = (at.front, at.lawful, refl)

  pub allowed : Allows then (Return client reply)
  allowed = (at.current, at.open_now, at.may)

  pub to_past : LeadsTo then past
  to_past = leads_by then (Return client reply) allowed

  pub reached_past : IsReached config past
  reached_past = leads_on (new_machine config) then past reached to_past

  pub ends : after_all past at.back ≡ m
  ends = sym (after_all-append (new_machine config) at.front (Return client reply ∷ at.back)) ∙ ap (after_all (new_machine config)) (sym at.is) ∙ run.3

  pub to_end : LeadsTo past m
  to_end = (at.back, at.lawful_back, ends)

  pub way : LeadsTo then m
  way = leads_on then past m to_past to_end

  -- the descriptor of the call is of its file
  pub its_file : (fd : Fd) (file : ℕ) → fd_of asked ≡ Some fd → (at.current).asked.file ≡ Some file → IsOf run.0 client fd file
  its_file fd file on is =
      subst (λ l. Contains l (ReturnFd client fd.0 file)) (sym at.is)
      (in_front at.front (Return client reply ∷ at.back) (ReturnFd client fd.0 file) (file_opened config at.front at.lawful client at.current fd file at.open_now (ap fd_of at.call_is ∙ on) is))

  -- what was done up to the answer
  abbrev pub to_answer : List Action
  to_answer = at.front ++ Return client reply ∷ []

  pub to_answer_lawful : IsLawful (new_machine config) to_answer
  to_answer_lawful = lawful_after (new_machine config) at.front (Return client reply ∷ []) at.lawful (allowed, tt)

  pub to_answer_ends : after_all (new_machine config) to_answer ≡ past
  to_answer_ends = after_all-append (new_machine config) at.front (Return client reply ∷ [])

  pub to_answer_seen : visible to_answer ≡ w.before ++ visible (Return client reply ∷ [])
  to_answer_seen = visible-append at.front (Return client reply ∷ []) ∙ ap (λ l. l ++ visible (Return client reply ∷ [])) at.seen

  -- and so it is of a call that is answered later
  pub later_file : (other : ℕ) (later_asked : Call) (later_reply : Answer) (mid rest : List Visible) (b : AnsweredIn past at.back other later_asked later_reply mid rest) (fe : Fd) (f : ℕ)
      → fd_of later_asked ≡ Some fe → (b.current).asked.file ≡ Some f → IsOf run.0 other fe f
  later_file other later_asked later_reply mid rest b fe f on is =
      let lawful : IsLawful (new_machine config) (to_answer ++ b.front) =
      lawful_after (new_machine config) to_answer b.front to_answer_lawful (subst (λ n. IsLawful n b.front) (sym to_answer_ends) b.lawful) in
      let ends_then : after_all (new_machine config) (to_answer ++ b.front) ≡ after_all past b.front =
      after_all-append (new_machine config) to_answer b.front ∙ ap (λ n. after_all n b.front) to_answer_ends in
      let opened : Contains (to_answer ++ b.front) (ReturnFd other fe.0 f) =
      file_opened config (to_answer ++ b.front) lawful other b.current fe f (subst (λ n. IsOpen n other b.current) (sym ends_then) b.open_now) (ap fd_of b.call_is ∙ on) is in
      let whole : run.0 ≡ (to_answer ++ b.front) ++ Return other later_reply ∷ b.back =
      at.is ∙ ap (λ l. at.front ++ Return client reply ∷ l) b.is
      ∙ sym (append_assoc at.front (Return client reply ∷ []) (b.front ++ Return other later_reply ∷ b.back))
      ∙ sym (append_assoc to_answer b.front (Return other later_reply ∷ b.back)) in
      subst (λ l. Contains l (ReturnFd other fe.0 f)) (sym whole) (in_front (to_answer ++ b.front) _ _ opened)
