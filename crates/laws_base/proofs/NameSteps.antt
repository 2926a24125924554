-- A name call asks for itself.
use Rattle.std.proofs.Common.{◌≡◌, ℕ, suc, ◌+◌, Option, Some, None, refl, sym, ap, subst, ◌∙◌}
use Rattle.std.specs.Prelude.{◌==◌, nat_lt, max}
use Rattle.std.proofs.lemmas.Bool.{true≢false}
use Rattle.std.specs.FinMap as table
use Rattle.gfs_types.specs.declared.ids.Moment.{Moment}
use Rattle.gfs_types.specs.declared.answer.Answer.TheVariants as answer
use Rattle.gfs_types.specs.declared.refusal.Refusal.TheVariants.{Unknown}
use Rattle.messages.specs.declared.event.NodeInput.{NodeInput}
use Rattle.messages.specs.declared.event.NodeInput.TheVariants as input
use Rattle.messages.specs.declared.message.Body.{Body}
use Rattle.messages.specs.declared.message.Body.TheVariants as body
use Rattle.messages.specs.declared.message.Message.{Message}
use Rattle.messages.specs.declared.message.NameReply.{NameReply}
use Rattle.messages.specs.declared.message.NameReply.TheVariants.{Opened, Answered}
use Rattle.relaxed_file.specs.NameStep.{is_name_call, is_look}
use Rattle.client_state.specs.declared.call.CurrentCall.{CurrentCall}
use Rattle.client_state.specs.declared.call.Stage.{Stage}
use Rattle.client_state.specs.declared.call.Stage.TheVariants.{AskedNames}
use Rattle.protocol.specs.Sending.{moment_of}
use Rattle.protocol.specs.Client.{ClientState, ClientDoing, client_begins, answers}
use Rattle.protocol.specs.ClientAttempts.{attempts_names, ended, is_last_attempt}
use Rattle.protocol.specs.ClientTakes.{takes_reply, client_takes}
use Rattle.protocol.specs.ClientStep.{client_at, client_does, takes_at, ticks_at, ticks_names, new_call, calls_names, calls_on, fd_of}
use Rattle.laws_base.proofs.Steps.{on_cond, none_some, same_some}
use Rattle.laws_base.specs.FileCalls.{IsForTheCall, IsNameStep, NameCallsAskFirst, NameCallsAskAgain}

module _ (s : ClientState) (moment : ℕ) where
  abbrev Asks : ClientDoing → Type 0
  Asks d = IsNameStep s moment d

  quiet : (d : ClientDoing) → d.client.config ≡ s.config → d.client.now ≡ max s.now moment → d.sent ≡ None → Asks d
  quiet d config now silent = record { config = config; now = now; says = λ m is. none_some m (sym silent ∙ is) }

  asks_names : (d : ClientDoing) (c : CurrentCall) → d.client.config ≡ s.config → d.client.now ≡ max s.now moment → Asks (attempts_names d c)
  asks_names d c config now =
      let until : Moment = moment_of (d.client.now + d.client.config.attempt_ms) in
      let e : CurrentCall = record c { deadline = until; stage = AskedNames } in
      let t : ClientState = (attempts_names d c).client in
      record {
        config = config;
        now = now;
        says = λ m is. subst (λ (x : Message). IsForTheCall t x.body) (same_some _ m is)
            (on_cond (λ (b : Body). IsForTheCall t b) (is_look c.asked) (body.Look c.number c.asked) (body.Name c.number until c.asked)
            (λ look. (look, (e, refl, refl, refl, refl))) (λ plain. (plain, (e, refl, refl, refl, refl))));
      }

  abbrev begun : ClientDoing
  begun = client_begins (client_at s moment)

  nothing : Asks begun
  nothing = quiet begun refl refl refl

  replied : (reply : NameReply) → Asks (takes_reply begun reply)
  replied (Opened file shape) = quiet (takes_reply begun (Opened file shape)) refl refl refl
  replied (Answered reply) = quiet (takes_reply begun (Answered reply)) refl refl refl

  takes : (c : CurrentCall) (b : Body) → Asks (client_takes begun (record c { stage = AskedNames }) b)
  takes c (body.Named number reply) = on_cond Asks (c.number == number) (takes_reply begun reply) begun (λ _. replied reply) (λ _. nothing)
  takes c other = nothing

  ticks : (c : CurrentCall) → Asks (ticks_names begun c)
  ticks c =
      on_cond Asks (nat_lt (max s.now moment) (c.deadline.0 + s.config.skew_ms)) begun _ (λ _. nothing)
      (λ _. on_cond Asks (is_last_attempt c) (answers begun (answer.Refused Unknown)) (attempts_names begun (ended c)) (λ _. quiet (answers begun (answer.Refused Unknown)) refl refl refl) (λ _. asks_names begun (ended c) refl refl))

  at_input : (i : NodeInput) (c : CurrentCall) → c.stage ≡ AskedNames → Asks (client_does begun i (Some c))
  at_input (input.Deliver m) c stage_is =
      let same : record c { stage = AskedNames } ≡ c = ap (λ (t : Stage). record c { stage = t }) (sym stage_is) in
      subst (λ (t : Stage). Asks (takes_at begun c m t)) (sym stage_is) (subst (λ (e : CurrentCall). Asks (client_takes begun e m.body)) same (takes c m.body))
  at_input input.Tick c stage_is = subst (λ (t : Stage). Asks (ticks_at begun c t)) (sym stage_is) (ticks c)

pub name_calls_ask_again : NameCallsAskAgain
name_calls_ask_again s moment i c is_open stage_is = subst (λ (o : Option CurrentCall). IsNameStep s moment (client_does (client_begins (client_at s moment)) i o)) (sym is_open) (at_input s moment i c stage_is)

pub name_calls_ask_first : NameCallsAskFirst
name_calls_ask_first s moment c name =
    on_cond (IsNameStep s moment) (is_name_call c) (calls_names (client_begins (client_at s moment)) c) (calls_on (client_begins (client_at s moment)) c (table.get s.descriptors (fd_of c)))
    (λ _. asks_names s moment (client_begins (record (client_at s moment) { call_count = suc s.call_count })) (new_call s.config.attempts (suc s.call_count) c 0 0 None) refl refl)
    (λ other. absurd (true≢false (sym name ∙ other)))
