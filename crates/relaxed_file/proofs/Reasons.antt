-- A call on a descriptor is refused for a reason.
use Rattle.std.proofs.Common.{◌≡◌, ℕ, ◌⊎◌, List, [], ◌∷◌, refl, sym, ◌∙◌, ap, subst, inl, inr}
use Rattle.std.specs.Prelude.{IsTrue, IsFalse, Contains}
use Rattle.std.proofs.lemmas.Bool.{true≢false, false≢true}
use Rattle.gfs_types.specs.declared.call.Call.{Call}
use Rattle.gfs_types.specs.declared.call.Call.TheVariants as call
use Rattle.gfs_types.specs.declared.answer.Answer.TheVariants as answer
use Rattle.gfs_types.specs.declared.refusal.Refusal.{Refusal}
use Rattle.gfs_types.specs.declared.refusal.Refusal.TheVariants.{BadFd, TooLong, Collected, NoReplica, Failed, Unknown, NoMemory}
use Rattle.relaxed_file.specs.Machine.{Machine, OpenCall, IsOpen, Outcome, Replies, chunk_size}
use Rattle.relaxed_file.specs.NameStep.{is_name_call}
use Rattle.relaxed_file.specs.Answers.{IsCause, MayReturn, may_give_up, is_too_long, uses_chunks}
use Rattle.relaxed_file.specs.Run.{Action, Invoke, after, after_all, IsLawful, asked_now}
use Rattle.relaxed_file.specs.RunLaws.{Puts, AsksWhatItHolds, IsReason, MayEndIn, FileCallsAreRefusedForAReason}
use Rattle.relaxed_file.proofs.Tables.{contained, from_some}
use Rattle.relaxed_file.proofs.CallSteps.{fresh_call}
use Rattle.relaxed_file.proofs.InCall.{made_by_call}
use Rattle.relaxed_file.proofs.Effects.{IsPlain, plain_goes, GoesOn, goes_on, Unanswered}

-- a call on a descriptor comes to nothing until its answer
still_plain : (m : Machine) (actions : List Action) (client : ℕ) (c : OpenCall) → IsLawful m actions → Unanswered client actions → IsOpen m client c → IsPlain c
    → (d : OpenCall) × IsOpen (after_all m actions) client d × (c.asked ≡ d.asked) × IsPlain d
still_plain m [] client c lawful others is plain = (c, is, refl, plain)
still_plain m (x ∷ xs) client c lawful others is plain =
    let on : GoesOn m (after m x) client c = goes_on m x client c lawful.0 others.0 is in
    let rest = still_plain (after m x) xs client on.0 lawful.1 others.1 on.1 (plain_goes m client c on.0 (on.2).1 (on.2).4 plain) in
    (rest.0, rest.1, (on.2).1 ∙ rest.2, rest.3)

-- a refusal that a call on a descriptor may give up with
given_up : (m n : Machine) (client : ℕ) (c : Call) (reason : Refusal) → IsFalse (is_name_call c) → IsTrue (may_give_up c reason) → IsReason m n client c reason
given_up m n client (call.Close fd) reason unnamed h = absurd (false≢true h)
given_up m n client (call.Length fd) NoReplica unnamed h = inr tt
given_up m n client (call.Length fd) Unknown unnamed h = tt
given_up m n client (call.Length fd) other unnamed h = absurd (false≢true h)
given_up m n client (call.Read fd offset count) NoReplica unnamed h = inr tt
given_up m n client (call.Read fd offset count) Unknown unnamed h = tt
given_up m n client (call.Read fd offset count) other unnamed h = absurd (false≢true h)
given_up m n client (call.Write fd offset bytes) NoReplica unnamed h = inl tt
given_up m n client (call.Write fd offset bytes) Failed unnamed h = tt
given_up m n client (call.Write fd offset bytes) other unnamed h = absurd (false≢true h)
given_up m n client (call.Append fd bytes) NoReplica unnamed h = inl tt
given_up m n client (call.Append fd bytes) Failed unnamed h = tt
given_up m n client (call.Append fd bytes) other unnamed h = absurd (false≢true h)
given_up m n client name_call reason unnamed h = absurd (true≢false unnamed)

uses_bytes : (c : Call) → IsTrue (uses_chunks c) → Puts c ⊎ AsksWhatItHolds c
uses_bytes (call.Length fd) h = inr tt
uses_bytes (call.Read fd offset count) h = inr tt
uses_bytes (call.Write fd offset bytes) h = inl tt
uses_bytes (call.Append fd bytes) h = inl tt
uses_bytes other h = absurd (false≢true h)

-- a refusal with a cause of its own, of a call that was made so
causes : (m n : Machine) (client : ℕ) (asked : Call) (c : OpenCall) (reason : Refusal) → asked_now m client asked ≡ c.asked → IsCause n client c reason → IsReason m n client asked reason
causes m n client asked c BadFd same cause = ap (λ a. a.file) same ∙ cause.1
causes m n client asked c TooLong same cause = (
  cause.0,
  ap (λ a. a.file) same ∙ cause.1,
  subst (λ a. IsTrue (is_too_long (chunk_size n cause.0) a.chunks_before a.call)) (sym same) cause.2,
)
causes m n client asked c Collected same cause = (
  cause.0,
  ap (λ a. a.file) same ∙ cause.1,
  cause.2,
  uses_bytes asked (subst (λ a. IsTrue (uses_chunks a.call)) (sym same) cause.3),
)
causes m n client asked c NoMemory same cause = tt
causes m n client asked c other same cause = absurd cause

module _ (m : Machine) (client : ℕ) (asked : Call) (actions : List Action) (reason : Refusal) (unnamed : IsFalse (is_name_call asked)) (ends : MayEndIn m client asked actions (answer.Refused reason)) where
  abbrev end : Machine
  end = after_all (after m (Invoke client asked)) actions

  later : (d : OpenCall) × IsOpen end client d × (asked_now m client asked ≡ d.asked) × IsPlain d
  later = still_plain (after m (Invoke client asked)) actions client (fresh_call (m.clients client) (asked_now m client asked)) (ends.1).0 (ends.1).1
      (made_by_call m (Invoke client asked) client asked ends.0 refl) (λ h. refl)

  by_kind : MayReturn end client later.0 (answer.Refused reason) → IsReason m end client asked reason
  by_kind (inl came) =
      let none : (later.0).outcomes ≡ [] = later.3 (subst (λ a. IsFalse (is_name_call a.call)) later.2 unnamed) in
      absurd (contained (λ o. ⊥) [] (Replies (answer.Refused reason)) tt (subst (λ (o : List Outcome). Contains o (Replies (answer.Refused reason))) none came))
  by_kind (inr (inl gives)) = given_up m end client asked reason unnamed (subst (λ a. IsTrue (may_give_up a.call reason)) (sym later.2) gives)
  by_kind (inr (inr cause)) = causes m end client asked later.0 reason later.2 cause

  reason_is : IsReason m end client asked reason
  reason_is = by_kind (subst (λ d. MayReturn end client d (answer.Refused reason)) (from_some (sym (ends.2).1 ∙ later.1)) (ends.2).2)

pub file_calls_are_refused_for_a_reason : FileCallsAreRefusedForAReason
file_calls_are_refused_for_a_reason m client asked actions reason unnamed ends = reason_is m client asked actions reason unnamed ends
