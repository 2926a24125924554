-- A step of a client whose name call is open, by what comes in.
use Rattle.std.proofs.Common.{◌≡◌, ◌⊎◌, ℕ, suc, ◌+◌, ◌≤◌, Bool, true, false, cond, Option, Some, None, refl, sym, ap, subst, ◌∙◌, inl, inr}
use Rattle.std.specs.Prelude.{◌==◌, nat_lt, max}
use Rattle.std.proofs.lemmas.Bool.{eqb-true, ltb-false}
use Rattle.std.specs.FinMap as table
use Rattle.gfs_types.specs.declared.call.Call.{Call}
use Rattle.gfs_types.specs.declared.answer.Answer.TheVariants as answer
use Rattle.gfs_types.specs.declared.refusal.Refusal.TheVariants.{Unknown}
use Rattle.messages.specs.declared.event.NodeInput.{NodeInput}
use Rattle.messages.specs.declared.event.NodeInput.TheVariants as input
use Rattle.messages.specs.declared.message.Body.{Body}
use Rattle.messages.specs.declared.message.Body.TheVariants as body
use Rattle.messages.specs.declared.message.Message.{Message}
use Rattle.messages.specs.declared.message.NameReply.{NameReply}
use Rattle.messages.specs.declared.message.NameReply.TheVariants.{Opened, Answered}
use Rattle.relaxed_file.specs.NameStep.{is_name_call}
use Rattle.client_state.specs.declared.call.CurrentCall.{CurrentCall}
use Rattle.client_state.specs.declared.call.Stage.{Stage}
use Rattle.client_state.specs.declared.call.Stage.TheVariants.{AskedNames}
use Rattle.protocol.specs.Sending.{moment_of}
use Rattle.protocol.specs.Client.{ClientState, ClientDoing, client_begins, answers}
use Rattle.protocol.specs.ClientAttempts.{attempts_names, ended, is_last_attempt}
use Rattle.protocol.specs.ClientTakes.{takes_reply, client_takes}
use Rattle.protocol.specs.ClientStep.{client_at, client_goes, client_call_goes, client_does, takes_at, ticks_at, ticks_names, new_call, calls_names, calls_on, fd_of}
use Rattle.laws_names.specs.NameAnswers.{IsWaiting, Tells, IsOver, NameCallsBegin, NameCallsAreAnsweredAsTold}

on_test : {A : Type 0} (P : A → Type 0) (b : Bool) (x y : A) → (b ≡ true → P x) → (b ≡ false → P y) → P (cond b x y)
on_test P true x y f g = f refl
on_test P false x y f g = g refl

-- the next attempt waits too
asks_again : (d : ClientDoing) (c : CurrentCall) → d.answer ≡ None → IsWaiting (attempts_names d c) c.number c.asked
asks_again d c none = record { current = record c { deadline = moment_of (d.client.now + d.client.config.attempt_ms); stage = AskedNames }; is_open = refl; number_is = refl; asked_is = refl; stage_is = refl; unanswered = none }

abbrev once_more : ClientState → ℕ → ClientDoing
once_more s moment = client_begins (record (client_at s moment) { call_count = suc s.call_count })

pub name_calls_begin : NameCallsBegin
name_calls_begin s moment c name =
    on_test (λ (d : ClientDoing). IsWaiting d (suc s.call_count) c × (d.client.fd_count ≡ s.fd_count)) (is_name_call c) (calls_names (client_begins (client_at s moment)) c)
    (calls_on (client_begins (client_at s moment)) c (table.get s.descriptors (fd_of c))) (λ _. (asks_again (once_more s moment) (new_call s.config.attempts (suc s.call_count) c 0 0 None) refl, refl)) (λ other. absurd (let both : true ≡ false = sym name ∙ other in cc))

module _ (s : ClientState) (moment : ℕ) (c : CurrentCall) (is_open : s.current ≡ Some c) (stage_is : c.stage ≡ AskedNames) where
  abbrev begun : ClientDoing
  begun = client_begins (client_at s moment)

  abbrev Good : NodeInput → ClientDoing → Type 0
  Good i d = (IsWaiting d c.number c.asked × (d.client.fd_count ≡ s.fd_count)) ⊎ IsOver s moment i d c

  -- nothing happened
  waits : (i : NodeInput) → Good i begun
  waits i = inl (record { current = c; is_open = is_open; number_is = refl; asked_is = refl; stage_is = stage_is; unanswered = refl }, refl)

  replied : (m : Message) (reply : NameReply) → m.body ≡ body.Named c.number reply → Good (input.Deliver m) (takes_reply begun reply)
  replied m (Opened file shape) told = inr (record { reply = answer.Fd (record { 0 = suc s.fd_count }); answer_is = refl; none_open = refl; caused = inr (inl (file, (shape, told), refl, refl)) })
  replied m (Answered reply) told = inr (record { reply = reply; answer_is = refl; none_open = refl; caused = inl (told, refl) })

  -- a call that waits for the master takes a Named under its number, and nothing else
  takes : (m : Message) (b : Body) → m.body ≡ b → Good (input.Deliver m) (client_takes begun (record c { stage = AskedNames }) b)
  takes m (body.Named number reply) told =
      on_test (λ (d : ClientDoing). Good (input.Deliver m) d) (c.number == number) (takes_reply begun reply) begun
      (λ same. replied m reply (subst (λ (n : ℕ). m.body ≡ body.Named n reply) (sym (eqb-true c.number number same)) told)) (λ _. waits (input.Deliver m))
  takes m other told = waits (input.Deliver m)

  ticks : Good input.Tick (ticks_names begun c)
  ticks =
      on_test (λ (d : ClientDoing). Good input.Tick d) (nat_lt (max s.now moment) (c.deadline.0 + s.config.skew_ms)) begun _ (λ _. waits input.Tick)
      (λ late. on_test (λ (d : ClientDoing). Good input.Tick d) (is_last_attempt c) (answers begun (answer.Refused Unknown)) (attempts_names begun (ended c))
      (λ _. inr (record { reply = answer.Refused Unknown; answer_is = refl; none_open = refl; caused = inr (inr (refl, ltb-false (max s.now moment) (c.deadline.0 + s.config.skew_ms) late, refl)) }))
      (λ _. inl (asks_again begun (ended c) refl, refl)))

  at_input : (i : NodeInput) → Good i (client_does begun i (Some c))
  at_input (input.Deliver m) =
      let same : record c { stage = AskedNames } ≡ c = ap (λ (t : Stage). record c { stage = t }) (sym stage_is) in
      subst (λ (t : Stage). Good (input.Deliver m) (takes_at begun c m t)) (sym stage_is)
      (subst (λ (e : CurrentCall). Good (input.Deliver m) (client_takes begun e m.body)) same (takes m m.body refl))
  at_input input.Tick = subst (λ (t : Stage). Good input.Tick (ticks_at begun c t)) (sym stage_is) ticks

pub name_calls_are_answered_as_told : NameCallsAreAnsweredAsTold
name_calls_are_answered_as_told s moment i c is_open stage_is =
    subst (λ (o : Option CurrentCall). Good s moment c is_open stage_is i (client_does (client_begins (client_at s moment)) i o)) (sym is_open) (at_input s moment c is_open stage_is i)
