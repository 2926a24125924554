-- What a client was told of its open name call may be its answer.
use Rattle.std.proofs.Common.{◌≡◌, ℕ, suc, Bool, true, false, refl, sym, subst, ap, ◌∙◌, inl, inr}
use Rattle.std.specs.Prelude.{Contains}
use Rattle.std.proofs.lemmas.Bool.{true≢false}
use Rattle.gfs_types.specs.declared.ids.FileId.{FileId}
use Rattle.gfs_types.specs.declared.call.Call.{Call}
use Rattle.gfs_types.specs.declared.call.Call.TheVariants as call
use Rattle.gfs_types.specs.declared.answer.Answer.{Answer}
use Rattle.gfs_types.specs.declared.answer.Answer.TheVariants as answer
use Rattle.gfs_types.specs.declared.refusal.Refusal.TheVariants.{Unknown, NoMemory}
use Rattle.messages.specs.declared.message.Body.{Body}
use Rattle.messages.specs.declared.message.Body.TheVariants as body
use Rattle.messages.specs.declared.message.NameReply.TheVariants.{Opened, Answered}
use Rattle.relaxed_file.specs.Machine.{Machine, OpenCall, Replies}
use Rattle.relaxed_file.specs.NameStep.{is_name_call}
use Rattle.relaxed_file.specs.Answers.{IsDone, may_give_up, MayReturn}
use Rattle.laws_names.specs.Alike.{Requests, IsWaiting}
use Rattle.laws_names.specs.Followed.{IsToldTo}
use Rattle.laws_names.specs.NameClients.{ToldAnswersAreAllowed, NameCallsMayGiveUp}

module _ (m : Machine) (client : ℕ) (current : OpenCall) where
  done_by : (c : Call) (reply : Answer) → is_name_call c ≡ true → Contains current.outcomes (Replies reply) → IsDone m client current c reply
  done_by (call.Close fd) reply name has = absurd (true≢false (sym name))
  done_by (call.Length fd) reply name has = absurd (true≢false (sym name))
  done_by (call.Write fd offset bytes) reply name has = absurd (true≢false (sym name))
  done_by (call.Append fd bytes) reply name has = absurd (true≢false (sym name))
  done_by (call.Read fd offset count) reply name has = absurd (true≢false (sym name))
  done_by other reply name has = has

  may_return : (reply : Answer) → is_name_call current.asked.call ≡ true → Contains current.outcomes (Replies reply) → MayReturn m client current reply
  may_return (answer.Refused reason) name has = inl has
  may_return reply name has = done_by current.asked.call reply name has

pub told_answers_are_allowed : ToldAnswersAreAllowed
told_answers_are_allowed m requests x client number current told to w name = (
  λ reply is. (current, w.is_open, may_return m client current reply name (at (body.Named number (Answered reply)) is current w)),
  λ file shape is. (current, w.is_open, (at (body.Named number (Opened file shape)) is current w, refl)),
)
  where
    at : (b : Body) → x.body ≡ b → IsToldTo m requests client b
    at b is = subst (λ (y : Body). IsToldTo m requests client y) is (subst (λ (q : ℕ). IsToldTo m requests q x.body) to told)

unknown_given : (c : Call) → is_name_call c ≡ true → may_give_up c Unknown ≡ true
unknown_given (call.Close fd) name = absurd (true≢false (sym name))
unknown_given (call.Length fd) name = absurd (true≢false (sym name))
unknown_given (call.Write fd offset bytes) name = absurd (true≢false (sym name))
unknown_given (call.Append fd bytes) name = absurd (true≢false (sym name))
unknown_given (call.Read fd offset count) name = absurd (true≢false (sym name))
unknown_given other name = refl

pub name_calls_may_give_up : NameCallsMayGiveUp
name_calls_may_give_up m client current is name =
    ((current, is, inr (inl (unknown_given current.asked.call name))), λ unbegun. (current, is, inr (inr unbegun)))
