-- What a step or a call leaves of a client.
use Rattle.std.proofs.Common.{◌≡◌, ℕ, ◌+◌, Bool, true, false, cond, Option, Some, None, refl, sym, ap, ◌∙◌, arith}
use Rattle.std.specs.Prelude.{◌&&◌, is_none, is_some}
use Rattle.std.proofs.lemmas.Bool.{true≢false}
use Rattle.gfs_types.specs.declared.call.Call.{Call}
use Rattle.gfs_types.specs.declared.answer.Answer.{Answer}
use Rattle.gfs_types.specs.declared.answer.Answer.TheVariants as answer
use Rattle.gfs_types.specs.declared.refusal.Refusal.TheVariants.{NoMemory}
use Rattle.messages.specs.declared.event.NodeInput.{NodeInput}
use Rattle.client_state.specs.declared.call.CurrentCall.{CurrentCall}
use Rattle.protocol.specs.Choice.{Choice, Ending, Goes, Lost, Stops}
use Rattle.protocol.specs.Seen.{Taken, no_step}
use Rattle.protocol.specs.Client.{ClientState, ClientDoing, client_begins, answers}
use Rattle.protocol.specs.ClientStep.{client_at, client_goes, client_call_goes, has_room_to_count, may_call, may_step, client_ends, client_call, client_step}
use Rattle.protocol.specs.MasterSnapshots.{first_is_true}
use Rattle.laws_base.specs.Answered.{one_if, is_open, is_up, Counts, CountsIfUp}
use Rattle.laws_base.proofs.Walk.{on_cond, One, step_one, call_one}

clash : {A : Type 0} (b : Bool) → b ≡ true → b ≡ false → A
clash b was now = absurd (true≢false (sym was ∙ now))

-- what a client's state and the answer given come to
abbrev CountsSo : ClientState → Bool → Taken ClientState → Type 0
CountsSo s taken t = CountsIfUp (Some s) (Some t.state) (is_some t.out.answer) taken

-- whether a client takes steps doesn't matter for one that does
open_of : (s : ClientState) → may_step s ≡ true → one_if (is_open (Some s)) ≡ one_if (is_some s.current)
open_of s up = ap (λ b. one_if (b && is_some s.current)) up

ended_so : (s : ClientState) (d : ClientDoing) (taken : Bool) (e : Ending) → may_step s ≡ true → one_if (is_some d.client.current) + one_if (is_some d.answer) ≡ one_if (is_some s.current) + one_if taken → CountsSo s taken (client_ends s d e)
ended_so s d taken Goes up sums now = record {
  was_up = up;
  sums = ap (λ n. n + one_if (is_some d.answer)) (open_of d.client now) ∙ (sums ∙ sym (ap (λ n. n + one_if taken) (open_of s up)));
}
ended_so s d taken Lost up sums now = absurd (true≢false (sym now))
ended_so s d taken (Stops made) up sums now = absurd (true≢false (sym now))

plus_none : (n : ℕ) → n ≡ n + one_if false
plus_none n = omega arith

pub step_counts : (s : ClientState) (moment : ℕ) (i : NodeInput) (choice : Choice) → CountsSo s false (client_step s moment i choice)
step_counts s moment i choice =
    on_cond (CountsSo s false) (may_step s) (client_ends s (client_goes s moment i) choice.ending) (no_step s)
    (λ up. ended_so s (client_goes s moment i) false choice.ending up (step_one (client_at s moment) i s.current refl ∙ plus_none (one_if (is_some s.current))))
    (λ down now. clash (may_step s) now down)

may_call_by : (up room : Bool) (o : Option CurrentCall) → up && (is_none o && room) ≡ true → (up && room ≡ true) × (is_some o ≡ false)
may_call_by true true None h = (refl, refl)
may_call_by true false None h = absurd (true≢false (sym h))
may_call_by true room (Some c) h = absurd (true≢false (sym h))
may_call_by false room o h = absurd (true≢false (sym h))

pub call_counts : (s : ClientState) (moment : ℕ) (c : Call) (choice : Choice) → may_call s ≡ true → CountsSo s true (client_call s moment c choice)
call_counts s moment c choice may =
    let k = may_call_by s.up (has_room_to_count s) s.current may in
    let refused : ClientDoing = answers (client_begins (client_at s moment)) (answer.Refused NoMemory) in
    let was : 1 ≡ one_if (is_some s.current) + 1 = sym (ap (λ b. one_if b + 1) k.1) in
    on_cond (CountsSo s true) (first_is_true choice.refused) (client_ends s refused choice.ending) (client_ends s (client_call_goes s moment c) choice.ending)
    (λ _. ended_so s refused true choice.ending k.0 was)
    (λ _. ended_so s (client_call_goes s moment c) true choice.ending k.0 (call_one (client_begins (client_at s moment)) c refl ∙ was))
