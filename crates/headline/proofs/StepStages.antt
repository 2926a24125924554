-- What a step of a client's open call makes of its stage: nothing changed, or what it waits for then has a number that is new, or is its data that were pushed.
use Rattle.std.proofs.Common.{◌≡◌, ◌⊎◌, ℕ, suc, ◌<◌, Option, Some, None, refl, sym, ap, subst, ◌∙◌, inl, inr, arith}
use Rattle.gfs_types.specs.declared.call.Call.{Call}
use Rattle.messages.specs.declared.event.NodeInput.{NodeInput}
use Rattle.messages.specs.declared.event.NodeInput.TheVariants as input
use Rattle.client_state.specs.declared.call.CurrentCall.{CurrentCall}
use Rattle.client_state.specs.declared.call.Stage.{Stage}
use Rattle.client_state.specs.declared.call.Stage.TheVariants.{AskedNames, AskedWhere, MustAskAgain, SentData, SentMutate, SentRead, IsOver, HasAnswer}
use Rattle.protocol.specs.Client.{ClientState, ClientDoing, client_begins}
use Rattle.protocol.specs.ClientStep.{client_at, client_goes, client_call_goes}
use Rattle.laws_base.proofs.ServerMoves.{IsCameIn}
use Rattle.laws_base.specs.Attempts.{waited_data, data_number}
use Rattle.laws_base.proofs.ClientWalk.{IsIdle, HoldsAt, KeepsClient, KeepsCalls, step_kept, call_kept}

-- it waits for nothing, or under a number that is new, or for the data that were pushed
abbrev pub IsNewStage : ClientState → Stage → Type 0
IsNewStage s (AskedWhere number) = s.number < number
IsNewStage s (SentMutate chunk number) = waited_data s.current ≡ Some number
IsNewStage s (SentRead chunk left number) = s.number < number
IsNewStage s other = Unit {0}

abbrev pub IsNewCall : ClientState → Option CurrentCall → Type 0
IsNewCall s None = Unit {0}
IsNewCall s (Some c) = IsNewStage s c.stage

abbrev pub IsNextStep : ClientState → ClientDoing → Type 0
IsNextStep s d = (d ≡ client_begins s) ⊎ ((d.client.id ≡ s.id) × IsNewCall s d.client.current)

abbrev IsSameHand : ClientState → ClientDoing → CurrentCall → Type 0
IsSameHand s d c = (d.client.id ≡ s.id) × (d.client.number ≡ s.number)

idle_new : (s : ClientState) (st : Stage) → IsIdle st → IsNewStage s st
idle_new s (HasAnswer reply) is = tt
idle_new s MustAskAgain is = tt
idle_new s IsOver is = tt
idle_new s AskedNames is = absurd is
idle_new s (AskedWhere number) is = absurd is
idle_new s (SentData chunk primary number) is = absurd is
idle_new s (SentMutate chunk number) is = absurd is
idle_new s (SentRead chunk left number) is = absurd is

module _ (s : ClientState) where
  later : (d : ClientDoing) (c : CurrentCall) → IsSameHand s d c → s.number < suc d.client.number
  later d c h = let same = h.1 in omega (arith, same)

  in_steps : KeepsClient s (λ b. Unit {0}) (IsSameHand s) (IsSameHand s) (λ d c l. Unit {0}) (λ d c chunk left. Unit {0}) (IsNextStep s)
  in_steps =
      record {
        changes = λ d c e same h. h;
        name_changes = λ d c e same h. h;
        begins = λ d c e same end h. h;
        drops = λ d c chunk h. h;
        notes = λ d c index h. h;
        looks = λ d c index h. h;
        finds = λ d c index e end is h. tt;
        hears = λ c number l now at came h. (h, tt);
        holders = λ d c l fit. tt;
        left = λ c chunk rest number now at fresh h. tt;
        answered = λ d c reply h. inr (h.0, tt);
        name_answered = λ d c reply h. inr (h.0, tt);
        opened = λ c number file shape now at came h. inr (h.0, tt);
        waits = λ d c idle h. inr (h.0, idle_new s c.stage idle);
        waits_again = λ d c h. inr (h.0, tt);
        asking = λ d c h. inr (h.0, later d c h);
        reads = λ d c chunk x rest r h. inr (h.0, later d c h);
        pushes = λ d c l g first is hop fit h. inr (h.0, tt);
        mutates = λ c chunk primary number now is fresh h. inr (refl, ap waited_data now ∙ ap data_number is);
        naming = λ d c end h. inr (h.0, tt);
      }

  in_calls : KeepsCalls s (IsSameHand s) (IsSameHand s) (IsNextStep s)
  in_calls =
      record {
        replies = λ reply. inr (refl, tt);
        closes = λ fd file there. inr (refl, tt);
        named = λ c. (refl, refl);
        filed = λ c file index last there. (refl, refl);
      }

  at_stage : (c : CurrentCall) (st : Stage) → HoldsAt s (IsSameHand s) (IsSameHand s) c st
  at_stage c AskedNames = (refl, refl)
  at_stage c (AskedWhere number) = (refl, refl)
  at_stage c MustAskAgain = (refl, refl)
  at_stage c (SentData chunk primary number) = (refl, refl)
  at_stage c (SentMutate chunk number) = (refl, refl)
  at_stage c (SentRead chunk left number) = (refl, refl)
  at_stage c IsOver = (refl, refl)
  at_stage c (HasAnswer reply) = (refl, refl)

all_came : (i : NodeInput) → IsCameIn (λ b. Unit {0}) i
all_came (input.Deliver m) = tt
all_came input.Tick = tt

pub next_step : (s : ClientState) (moment : ℕ) (i : NodeInput) → IsNextStep (client_at s moment) (client_goes s moment i)
next_step s moment i =
    let now : ClientState = client_at s moment in
    step_kept now (λ b. Unit {0}) (IsSameHand now) (IsSameHand now) (λ d c l. Unit {0}) (λ d c chunk left. Unit {0}) (IsNextStep now) (in_steps now) i s.current refl (all_came i) (λ c is. at_stage now c c.stage) (inl refl)

-- so it is of a call that begins where none is open
pub next_call : (s : ClientState) (moment : ℕ) (c : Call) → s.current ≡ None → ((client_call_goes s moment c).client.id ≡ s.id) × IsNewCall s (client_call_goes s moment c).client.current
next_call s moment c none =
    let now : ClientState = client_at s moment in
    elim (call_kept now (λ b. Unit {0}) (IsSameHand now) (IsSameHand now) (λ d e l. Unit {0}) (λ d e chunk left. Unit {0}) (IsNextStep now) (in_steps now) (in_calls now) c (inl refl)) [
      | inl same ↦ subst (λ (d : ClientDoing). (d.client.id ≡ s.id) × IsNewCall s d.client.current) (sym same) (refl, subst (λ (o : Option CurrentCall). IsNewCall s o) (sym none) tt)
      | inr new ↦ new
    ]
