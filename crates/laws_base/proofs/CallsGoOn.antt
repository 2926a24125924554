-- What a client's step makes of its open call, and asks of names.
use Rattle.std.proofs.Common.{◌≡◌, ◌⊎◌, ⊎_elim, ℕ, suc, ◌+◌, ◌≤◌, ◌<◌, false, List, Some, None, refl, sym, ap, subst, ◌∙◌, inl, inr, arith}
use Rattle.std.specs.Prelude.{max, IsTrue, IsFalse}
use Rattle.std.proofs.Math.Nat.{le-max_left}
use Rattle.gfs_types.specs.declared.config.Config.{Config}
use Rattle.gfs_types.specs.declared.ids.Moment.{Moment}
use Rattle.gfs_types.specs.declared.call.Call.{Call}
use Rattle.messages.specs.declared.event.NodeInput.{NodeInput}
use Rattle.messages.specs.declared.event.NodeInput.TheVariants as input
use Rattle.messages.specs.declared.message.Body.{Body}
use Rattle.messages.specs.declared.message.Body.TheVariants as body
use Rattle.messages.specs.declared.message.Message.{Message}
use Rattle.messages.specs.declared.message.Holder.{Holder}
use Rattle.relaxed_file.specs.NameStep.{is_look}
use Rattle.client_state.specs.declared.call.CurrentCall.{CurrentCall}
use Rattle.client_state.specs.declared.call.ToldChunk.{ToldChunk}
use Rattle.client_state.specs.declared.call.Stage.{Stage}
use Rattle.client_state.specs.declared.call.Stage.TheVariants.{AskedNames, AskedWhere, MustAskAgain, SentData, SentMutate, SentRead, IsOver, HasAnswer}
use Rattle.protocol.specs.Client.{file_chunk, ClientState, ClientDoing, client_begins, committed, with_current, answers}
use Rattle.protocol.specs.ClientAttempts.{is_length, read_start, read_count, asks, read_planned, push_planned_to, mutate_planned, name_planned, chunk_of}
use Rattle.protocol.specs.ClientStep.{client_at, client_goes, client_call_goes}
use Rattle.laws_base.proofs.Steps.{on_cond, none_some, same_some}
use Rattle.laws_base.proofs.ServerMoves.{IsCameIn}
use Rattle.laws_base.proofs.ClientWalk.{IsIdle, KeepsClient, KeepsCalls, HoldsAt, step_kept, call_kept}
use Rattle.laws_base.specs.NameCalls.{AsksForTheCall}

-- a call on a file has no number of its own; a name call waits under its number
abbrev pub IsStaged : ClientState → CurrentCall → Stage → Type 0
IsStaged s c AskedNames = (1 ≤ c.number) × (c.number ≤ s.call_count) × (c.deadline.0 ≤ s.now + s.config.attempt_ms)
IsStaged s c other = c.number ≡ 0

-- the call goes on, or is a later one
abbrev GoesOn : ClientState → CurrentCall → Type 0
GoesOn s c = ((e : CurrentCall) × (s.current ≡ Some e) × (c.number ≡ e.number) × (c.asked ≡ e.asked) × (e.deadline.0 ≤ c.deadline.0)) ⊎ (s.call_count < c.number)

-- what is asked of names, for the call that is open then
abbrev IsAskedNow : ClientState → Body → Type 0
IsAskedNow t (body.Name number deadline c) =
    (1 ≤ number) × (number ≤ t.call_count) × IsFalse (is_look c) × (e : CurrentCall) × (t.current ≡ Some e) × (e.asked ≡ c) × (e.deadline ≡ deadline)
IsAskedNow t (body.Look number c) = (1 ≤ number) × (number ≤ t.call_count) × IsTrue (is_look c) × (e : CurrentCall) × (t.current ≡ Some e) × (e.asked ≡ c)
IsAskedNow t other = Unit {0}

abbrev IsLater : ClientState → ClientDoing → Type 0
IsLater s d = (d.client.config ≡ s.config) × (d.client.now ≡ s.now) × (s.call_count ≤ d.client.call_count)

-- what a step or a call made of a client that began it in state s
pub record IsNext (s : ClientState) (d : ClientDoing) : Type 0 where
  pub later : IsLater s d
  pub staged : (c : CurrentCall) → d.client.current ≡ Some c → IsStaged d.client c c.stage
  pub from : (c : CurrentCall) → d.client.current ≡ Some c → (c.number ≡ 0) ⊎ GoesOn s c
  pub says : (m : Message) → d.sent ≡ Some m → IsAskedNow d.client m.body

-- a call on a file, and a name call, in hand
abbrev InHand : ClientState → ClientDoing → CurrentCall → Type 0
InHand s d c = IsLater s d × (d.sent ≡ None) × (c.number ≡ 0)

abbrev IsFrom : ClientState → CurrentCall → Type 0
IsFrom s c = ((e : CurrentCall) × (s.current ≡ Some e) × (c.number ≡ e.number) × (c.asked ≡ e.asked) × (e.deadline.0 ≤ s.now + s.config.attempt_ms)) ⊎ (s.call_count < c.number)

abbrev NameInHand : ClientState → ClientDoing → CurrentCall → Type 0
NameInHand s d c = IsLater s d × (d.sent ≡ None) × (1 ≤ c.number) × (c.number ≤ d.client.call_count) × IsFrom s c

idle_staged : (t : ClientState) (c : CurrentCall) (st : Stage) → IsIdle st → c.number ≡ 0 → IsStaged t c st
idle_staged t c (HasAnswer reply) idle none = none
idle_staged t c MustAskAgain idle none = none
idle_staged t c IsOver idle none = none
idle_staged t c AskedNames idle none = absurd idle
idle_staged t c (AskedWhere number) idle none = absurd idle
idle_staged t c (SentData chunk primary number) idle none = absurd idle
idle_staged t c (SentMutate chunk number) idle none = absurd idle
idle_staged t c (SentRead chunk left number) idle none = absurd idle

module _ (s : ClientState) where
  -- nothing is open any more, and nothing sent
  quiet : (d : ClientDoing) → IsLater s d → d.client.current ≡ None → d.sent ≡ None → IsNext s d
  quiet d later none silent =
      record {
        later = later;
        staged = λ c is. none_some c (sym none ∙ is);
        from = λ c is. none_some c (sym none ∙ is);
        says = λ m is. none_some m (sym silent ∙ is);
      }

  -- a call on a file stands so
  of_file : (d : ClientDoing) (e : CurrentCall) → IsLater s d → d.client.current ≡ Some e → e.number ≡ 0 → IsStaged d.client e e.stage → ((m : Message) → d.sent ≡ Some m → IsAskedNow d.client m.body) → IsNext s d
  of_file d e later is none staged says =
      record {
        later = later;
        staged = λ c at. subst (λ (x : CurrentCall). IsStaged d.client x x.stage) (same_some e c (sym is ∙ at)) staged;
        from = λ c at. inl (subst (λ (x : CurrentCall). x.number ≡ 0) (same_some e c (sym is ∙ at)) none);
        says = says;
      }

  sent_none : (d : ClientDoing) → d.sent ≡ None → (m : Message) → d.sent ≡ Some m → IsAskedNow d.client m.body
  sent_none d none m is = none_some m (sym none ∙ is)

  same_from : (c e : CurrentCall) → e.number ≡ c.number → e.asked ≡ c.asked → IsFrom s c → IsFrom s e
  same_from c e number asked from = ⊎_elim
      (λ on. inl (on.0, on.1, number ∙ on.2, asked ∙ on.3, on.4))
      (λ new. inr (subst (λ (n : ℕ). s.call_count < n) (sym number) new)) from

  names_now : (d : ClientDoing) (c : CurrentCall) → c.deadline.0 ≡ d.client.now + d.client.config.attempt_ms → NameInHand s d c → IsNext s (committed d c (name_planned d.client c))
  names_now d c end h =
      let t : ClientState = (committed d c (name_planned d.client c)).client in
      let e : CurrentCall = record c { stage = AskedNames } in
      let bound : c.deadline.0 ≤ d.client.now + d.client.config.attempt_ms = omega (arith, end) in
      let same : d.client.now + d.client.config.attempt_ms ≡ s.now + s.config.attempt_ms = ap (λ (n : ℕ). n + d.client.config.attempt_ms) (h.0).1 ∙ ap (λ (g : Config). s.now + g.attempt_ms) (h.0).0 in
      record {
        later = h.0;
        staged = λ x at. subst (λ (y : CurrentCall). IsStaged t y y.stage) (same_some e x at) (h.2, h.3, bound);
        from = λ x at. subst (λ (y : CurrentCall). (y.number ≡ 0) ⊎ GoesOn s y) (same_some e x at)
            (inr (⊎_elim (λ on. inl (on.0, on.1, on.2, on.3, let low = on.4 in omega (arith, low, same, end))) (λ new. inr new) h.4));
        says = λ m at. subst (λ (x : Message). IsAskedNow t x.body) (same_some _ m at)
            (on_cond (λ (b : Body). IsAskedNow t b) (is_look c.asked) (body.Look c.number c.asked) (body.Name c.number c.deadline c.asked)
            (λ look. (h.2, h.3, look, e, refl, refl)) (λ plain. (h.2, h.3, plain, e, refl, refl, refl)));
      }

  calls_kept : KeepsClient s (λ b. Unit {0}) (NameInHand s) (InHand s) (λ d c l. Unit {0}) (λ d c chunk left. Unit {0}) (IsNext s)
  calls_kept =
      record {
        changes = λ d c e same h. (h.0, h.1, same.0 ∙ h.2);
        name_changes = λ d c e same h. (h.0, h.1, subst (λ (n : ℕ). 1 ≤ n) (sym same.0) h.2, subst (λ (n : ℕ). n ≤ d.client.call_count) (sym same.0) h.3, same_from c e same.0 same.1 h.4);
        begins = λ d c e same end h. (h.0, h.1, same.0 ∙ h.2);
        drops = λ d c chunk h. h;
        notes = λ d c index h. h;
        looks = λ d c index h. h;
        finds = λ d c index e end is h. tt;
        hears = λ c number l now at came h. (h, tt);
        holders = λ d c l fit. tt;
        left = λ c chunk rest number now at fresh h. tt;
        answered = λ d c reply h. quiet (answers d reply) h.0 refl h.1;
        name_answered = λ d c reply h. quiet (answers d reply) h.0 refl h.1;
        opened = λ c number file shape now at came h. quiet _ h.0 refl h.1;
        waits = λ d c idle h. of_file (with_current d c) c h.0 refl h.2 (idle_staged d.client c c.stage idle h.2) (λ m is. none_some m (sym h.1 ∙ is));
        waits_again = λ d c h. of_file _ (record c { stage = MustAskAgain }) h.0 refl h.2 h.2 (λ m is. none_some m is);
        asking = λ d c h. of_file _ (record c { lost_lease = false; stage = AskedWhere (suc d.client.number) }) h.0 refl h.2 h.2 (λ m is. subst (λ (x : Message). IsAskedNow (asks d c).client x.body) (same_some _ m is) tt);
        reads = λ d c chunk x rest r h. reads_now d c chunk x rest h;
        pushes = λ d c l g first is hop fit h. of_file _ (record c { stage = SentData (chunk_of l) g.primary (suc d.client.number) }) h.0 refl h.2 h.2 (λ m is. subst (λ (x : Message). IsAskedNow (committed d c (push_planned_to d.client c (chunk_of l) g (Some first))).client x.body) (same_some _ m is) tt);
        mutates = λ c chunk primary number now at fresh h. of_file _ (record c { stage = SentMutate chunk number }) h.0 refl h.2 h.2 (λ m is. subst (λ (x : Message). IsAskedNow (committed (client_begins s) c (mutate_planned s c chunk primary number)).client x.body) (same_some _ m is) tt);
        naming = λ d c end h. names_now d c (ap (λ (m : Moment). m.0) end) h;
      }
    where
      reads_now : (d : ClientDoing) (c : CurrentCall) (chunk : ToldChunk) (x : Holder) (rest : List Holder) → InHand s d c → IsNext s (committed d c (read_planned d.client c chunk x rest))
      reads_now d c chunk x rest h =
          let e : ClientDoing = committed d c (read_planned d.client c chunk x rest) in
          of_file e (record c { stage = SentRead chunk rest (suc d.client.number) }) h.0 refl h.2 h.2
          (λ m is. subst (λ (y : Message). IsAskedNow e.client y.body) (same_some _ m is)
          (on_cond (λ (b : Body). IsAskedNow e.client b) (is_length c.asked) (body.Len (suc d.client.number) chunk.handle x.version)
          (body.Read (suc d.client.number) chunk.handle x.version (read_start (file_chunk d.client c.file.0) c.index c.asked) (read_count (file_chunk d.client c.file.0) c.index c.asked)) (λ _. tt) (λ _. tt)))

  -- nothing happened
  begun : ((c : CurrentCall) → s.current ≡ Some c → IsStaged s c c.stage) → IsNext s (client_begins s)
  begun staged =
      record {
        later = (refl, refl, omega arith);
        staged = staged;
        from = λ c is. inr (inl (c, is, refl, refl, omega arith));
        says = λ m is. none_some m is;
      }

  at_stage : (c : CurrentCall) (st : Stage) → s.current ≡ Some c → IsStaged s c st → HoldsAt s (NameInHand s) (InHand s) c st
  at_stage c AskedNames is h = ((refl, refl, omega arith), refl, h.0, h.1, inl (c, is, refl, refl, h.2))
  at_stage c (AskedWhere number) is h = ((refl, refl, omega arith), refl, h)
  at_stage c MustAskAgain is h = ((refl, refl, omega arith), refl, h)
  at_stage c (SentData chunk primary number) is h = ((refl, refl, omega arith), refl, h)
  at_stage c (SentMutate chunk number) is h = ((refl, refl, omega arith), refl, h)
  at_stage c (SentRead chunk left number) is h = ((refl, refl, omega arith), refl, h)
  at_stage c IsOver is h = ((refl, refl, omega arith), refl, h)
  at_stage c (HasAnswer reply) is h = ((refl, refl, omega arith), refl, h)

  file_calls : KeepsCalls s (NameInHand s) (InHand s) (IsNext s)
  file_calls =
      record {
        replies = λ reply. quiet (answers (client_begins s) reply) (refl, refl, omega arith) refl refl;
        closes = λ fd file is. quiet _ (refl, refl, omega arith) refl refl;
        named = λ c. ((refl, refl, omega arith), refl, omega arith, omega arith, inr (omega arith));
        filed = λ c file index last is. ((refl, refl, omega arith), refl, refl);
      }

all_came : (i : NodeInput) → IsCameIn (λ b. Unit {0}) i
all_came (input.Deliver m) = tt
all_came input.Tick = tt

-- a client at a later moment
pub later_staged : (s : ClientState) (moment : ℕ) (c : CurrentCall) (st : Stage) → IsStaged s c st → IsStaged (client_at s moment) c st
later_staged s moment c AskedNames h =
    let low = h.2 in
    let passed : s.now ≤ max s.now moment = le-max_left s.now moment in
    (h.0, h.1, omega (arith, low, passed))
later_staged s moment c (AskedWhere number) h = h
later_staged s moment c MustAskAgain h = h
later_staged s moment c (SentData chunk primary number) h = h
later_staged s moment c (SentMutate chunk number) h = h
later_staged s moment c (SentRead chunk left number) h = h
later_staged s moment c IsOver h = h
later_staged s moment c (HasAnswer reply) h = h

abbrev pub AreStaged : ClientState → Type 0
AreStaged s = (c : CurrentCall) → s.current ≡ Some c → IsStaged s c c.stage

pub goes_next : (s : ClientState) (moment : ℕ) (i : NodeInput) → AreStaged s → IsNext (client_at s moment) (client_goes s moment i)
goes_next s moment i staged =
    let at : ClientState = client_at s moment in
    let later : AreStaged at = λ c is. later_staged s moment c c.stage (staged c is) in
    step_kept at (λ b. Unit {0}) (NameInHand at) (InHand at) (λ d c l. Unit {0}) (λ d c chunk left. Unit {0}) (IsNext at) (calls_kept at) i s.current refl (all_came i) (λ c is. at_stage at c c.stage is (later c is)) (begun at later)

pub call_next : (s : ClientState) (moment : ℕ) (c : Call) → AreStaged s → IsNext (client_at s moment) (client_call_goes s moment c)
call_next s moment c staged =
    let at : ClientState = client_at s moment in
    let later : AreStaged at = λ e is. later_staged s moment e e.stage (staged e is) in
    call_kept at (λ b. Unit {0}) (NameInHand at) (InHand at) (λ d c l. Unit {0}) (λ d c chunk left. Unit {0}) (IsNext at) (calls_kept at) (file_calls at) c (begun at later)

pub refused_next : (s : ClientState) (moment : ℕ) (d : ClientDoing) → d.client.config ≡ s.config → d.client.now ≡ max s.now moment → d.client.call_count ≡ s.call_count → d.client.current ≡ None → d.sent ≡ None → IsNext (client_at s moment) d
refused_next s moment d config now count none silent = quiet (client_at s moment) d (config, now, omega (arith, count)) none silent

-- what was asked before, and what is asked now

abbrev pub IsOwn : ClientState → Body → Type 0
IsOwn s (body.Name number deadline c) = AsksForTheCall s (body.Name number deadline c) × (1 ≤ number) × (number ≤ s.call_count)
IsOwn s (body.Look number c) = AsksForTheCall s (body.Look number c) × (1 ≤ number) × (number ≤ s.call_count)
IsOwn s other = Unit {0}

-- the open call of this number is the one that was open before
same_call : (s : ClientState) (d : ClientDoing) (number : ℕ) → IsNext s d → 1 ≤ number → number ≤ s.call_count → (c : CurrentCall) → d.client.current ≡ Some c → c.number ≡ number
    → (e : CurrentCall) × (s.current ≡ Some e) × (e.number ≡ number) × (c.asked ≡ e.asked) × (e.deadline.0 ≤ c.deadline.0)
same_call s d number next low high c is same = elim (next.from c is) [
  | inl none ↦ absurd (omega (arith, none, same, low))
  | inr on ↦ ⊎_elim (λ before. (before.0, before.1, sym before.2 ∙ same, before.3, before.4)) (λ new. absurd (omega (arith, new, same, high))) on
]

pub still_own : (s : ClientState) (d : ClientDoing) (b : Body) → IsNext s d → IsOwn s b → IsOwn d.client b
still_own s d (body.Name number deadline c) next h =
    let more = (next.later).2 in
    let high = h.2 in (
      (
        (h.0).0,
        λ e is same.
            let before = same_call s d number next h.1 h.2 e is same in
            let old = (h.0).1 before.0 before.1 before.2 in
            let one = old.1 in
            let two = before.4 in
            (before.3 ∙ old.0, omega (arith, one, two)),
      ),
      h.1,
      omega (arith, high, more),
    )
still_own s d (body.Look number c) next h =
    let more = (next.later).2 in
    let high = h.2 in (
      (
        (h.0).0,
        λ e is same.
            let before = same_call s d number next h.1 h.2 e is same in
            before.3 ∙ (h.0).1 before.0 before.1 before.2,
      ),
      h.1,
      omega (arith, high, more),
    )
still_own s d other next h = tt

pub asked_own : (t : ClientState) (b : Body) → IsAskedNow t b → IsOwn t b
asked_own t (body.Name number deadline c) h = (
  (
    h.2,
    λ e is same.
        subst (λ (x : CurrentCall). (x.asked ≡ c) × (deadline.0 ≤ x.deadline.0)) (same_some h.3 e (sym h.4 ∙ is))
        (h.5, let at : (h.3).deadline.0 ≡ deadline.0 = ap (λ (m : Moment). m.0) h.6 in omega (arith, at)),
  ),
  h.0,
  h.1,
)
asked_own t (body.Look number c) h = ((h.2, λ e is same. subst (λ (x : CurrentCall). x.asked ≡ c) (same_some h.3 e (sym h.4 ∙ is)) h.5), h.0, h.1)
asked_own t other h = tt
