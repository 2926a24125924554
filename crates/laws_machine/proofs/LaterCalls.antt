-- What stands of a client's call and of its attempts goes on while messages are added and moments pass; and who waits, in a trace that goes on.
use Rattle.std.proofs.Common.{◌≡◌, ◌⊎◌, ℕ, zero, suc, ◌≤◌, Bool, true, false, true≢false, List, [], ◌∷◌, ◌++◌, length, Option, Some, None, refl, sym, ap, subst, ◌∙◌, inl, inr, arith}
use Rattle.std.specs.Prelude.{◌==◌, nat_lt, cond}
use Rattle.std.specs.Option.{option_to_list}
use Rattle.gfs_types.specs.declared.config.Config.{Config}
use Rattle.gfs_types.specs.declared.ids.DataId.{DataId}
use Rattle.gfs_types.specs.declared.ids.Handle.{Handle}
use Rattle.gfs_types.specs.declared.ids.Version.{Version}
use Rattle.gfs_types.specs.declared.ids.Moment.{Moment}
use Rattle.gfs_types.specs.declared.answer.Answer.{Answer}
use Rattle.gfs_types.specs.declared.refusal.Refusal.{Refusal}
use Rattle.gfs_types.specs.declared.refusal.Refusal.TheVariants.{NoLease, NoChunk}
use Rattle.messages.specs.declared.message.Body.{Body}
use Rattle.messages.specs.declared.message.Message.{Message}
use Rattle.client_state.specs.declared.call.CurrentCall.{CurrentCall}
use Rattle.client_state.specs.declared.call.LiveAttempt.{LiveAttempt}
use Rattle.client_state.specs.declared.call.ToldChunk.{ToldChunk}
use Rattle.client_state.specs.declared.call.Stage.{Stage}
use Rattle.client_state.specs.declared.call.Stage.TheVariants.{AskedNames, AskedWhere, MustAskAgain, SentData, SentMutate, SentRead, IsOver as IsOverStage, HasAnswer}
use Rattle.relaxed_file.specs.NotRuns.{waits}
use Rattle.relaxed_file.specs.Run.{Visible, Called, Answered, Passed}
use Rattle.protocol.specs.Tables.{element_at, with_at}
use Rattle.protocol.specs.Sending.{data_id, the_client}
use Rattle.protocol.specs.Observer.{Observer, is_call_of, observed_moment, observed_answer, calls_made}
use Rattle.protocol.specs.Client.{ClientState}
use Rattle.protocol.specs.World.{stamped}
use Rattle.laws_base.proofs.Steps.{on_cond, none_some, same_some, count-append, count-cons}
use Rattle.laws_base.proofs.Entries.{AllOf}
use Rattle.laws_base.proofs.MembersRecorded.{kept_place, all_at}
use Rattle.laws_base.specs.Attempts.{is_from_client}
use Rattle.laws_base.proofs.RequestsOnce.{from_itself, later_cases}
use Rattle.laws_base.specs.Entries.{IsAmong, IsPushed}
use Rattle.laws_base.proofs.Budget.{IsNoMutate}
use Rattle.laws_base.specs.AnsweredAttempts.{IsFinal}
use Rattle.laws_machine.proofs.CallWalk.{AnyUsed, IsDenial, StandsAt, StandsNow}
use Rattle.laws_machine.specs.OpenAttempts.{AsksBy, WasAnswered, IsOver}
use Rattle.laws_machine.proofs.OpenStages.{AnyLive, map_any, HasPushed, IsTimely, IsCounted, IsOpen, HasData, IsUnderWay, AllOver, AnyReply}

-- while messages are added

module _ (sent more : List Message) where
  pub among_later : (m : Message) → IsAmong sent m → IsAmong (sent ++ more) m
  among_later m h = (h.0, kept_place sent more h.0 m h.1)

  pub asks_later : (id : DataId) (handle : Handle) (version : Version) (deadline : Moment) → AsksBy sent id handle version deadline → AsksBy (sent ++ more) id handle version deadline
  asks_later id handle version deadline h = record { asked = h.asked; aim = h.aim; sent_is = among_later h.asked h.sent_is; sender_is = h.sender_is; body_is = h.body_is }

  pub answered_later : (id : DataId) → WasAnswered sent id → WasAnswered (sent ++ more) id
  answered_later id h = record { server = h.server; answer = h.answer; sent_is = among_later h.answer h.sent_is; sender_is = h.sender_is; answers = h.answers }

  pub pushed_later : (id : DataId) (bytes : List ℕ) → IsPushed sent id bytes → IsPushed (sent ++ more) id bytes
  pushed_later id bytes h = record { push = h.push; rest = h.rest; sent_is = among_later h.push h.sent_is; sender_is = h.sender_is; body_is = h.body_is }

  -- and of attempts that were sent more are known
  module _ (G V : ℕ → ToldChunk → ℕ → Type 0) (go : (file : ℕ) (chunk : ToldChunk) (seq : ℕ) → G file chunk seq → V file chunk seq) where
    pub over_later : (skew greatest later : ℕ) → greatest ≤ later → (id : DataId) (version : Version) (deadline : Moment) → IsOver G sent skew greatest id version deadline → IsOver V (sent ++ more) skew later id version deadline
    over_later skew greatest later grows id version deadline h =
        elim (h) [
          | inl past ↦ inl (omega (arith, past, grows))
          | inr rest ↦ elim (rest) [
            | inl answered ↦ inr (inl (answered_later id answered))
            | inr passed ↦ inr (inr (record {
              later = passed.later;
              handle = passed.handle;
              higher = passed.higher;
              end = passed.end;
              asks = asks_later passed.later passed.handle passed.higher passed.end passed.asks;
              answered = answered_later passed.later passed.answered;
              pushed = ((passed.pushed).0, pushed_later passed.later (passed.pushed).0 (passed.pushed).1);
              same_client = passed.same_client;
              is_later = passed.is_later;
              beside = record { file = passed.beside.file; chunk = passed.beside.chunk; other = passed.beside.other; first_is = go passed.beside.file passed.beside.chunk id.seq passed.beside.first_is; later_is = go passed.beside.file passed.beside.other passed.later.seq passed.beside.later_is; same_index = passed.beside.same_index };
              not_lower = passed.not_lower;
              not_earlier = passed.not_earlier;
            }))
          ]
        ]

-- what stands of a call, with what is sent as it comes to stand so
abbrev pub CallStands : (ℕ → ToldChunk → ℕ → Type 0) → Config → List Message → ℕ → ℕ → ℕ → Option Message → Option CurrentCall → Type 0
CallStands G config sent greatest client now o None = AllOver G config sent greatest client
CallStands G config sent greatest client now o (Some c) =
    StandsAt AnyUsed (IsOpen G config sent greatest client now) (λ o c chunk number. HasData config sent greatest client o c chunk number) (IsUnderWay G config sent greatest client now) AnyReply o c c.stage

-- what is counted stays so
pub counted_later : (G V : ℕ → ToldChunk → ℕ → Type 0) → ((file : ℕ) (chunk : ToldChunk) (seq : ℕ) → G file chunk seq → V file chunk seq) → (config : Config) (sent all : List Message) (greatest later client file seq : ℕ) (version : Version) (deadline : Moment) (ls : List LiveAttempt)
    → AnyLive (IsCounted G config sent greatest client file seq version deadline) ls → AnyLive (IsCounted V config all later client file seq version deadline) ls
counted_later G V go config sent all greatest later client file seq version deadline ls h =
    map_any (IsCounted G config sent greatest client file seq version deadline) (IsCounted V config all later client file seq version deadline)
    (λ l counted. (counted.0, counted.1, ((counted.2).0, go file (counted.2).0 seq (counted.2).1, (counted.2).2))) ls h

-- no attempt of the client is new
abbrev pub NoNew : List Message → List Message → ℕ → Type 0
NoNew sent all client = (id : DataId) (handle : Handle) (version : Version) (deadline : Moment) → id.client.0 ≡ client → AsksBy all id handle version deadline → AsksBy sent id handle version deadline

module _ (G V : ℕ → ToldChunk → ℕ → Type 0) (go : (file : ℕ) (chunk : ToldChunk) (seq : ℕ) → G file chunk seq → V file chunk seq) (config : Config) (sent more : List Message) (client greatest later : ℕ) (grows : greatest ≤ later) (none : NoNew sent (sent ++ more) client) where
  pub timely_later : (now then_ : ℕ) → now ≤ then_ → (c : CurrentCall) → IsTimely config sent greatest client now c → IsTimely config (sent ++ more) later client then_ c
  timely_later now then_ rises c h = record { early = let low = h.early in omega (arith, low, rises); lives = h.lives; plain = h.plain }

  pub open_later : (now then_ : ℕ) → now ≤ then_ → (c : CurrentCall) → IsOpen G config sent greatest client now c → IsOpen V config (sent ++ more) later client then_ c
  open_later now then_ rises c h =
      record {
        each = λ id handle version deadline own a. elim (h.each id handle version deadline own (none id handle version deadline own a)) [
          | inl over ↦ inl (over_later sent more G V go config.skew_ms greatest later grows id version deadline over)
          | inr live ↦ inr (counted_later G V go config sent (sent ++ more) greatest later client c.file.0 id.seq version deadline c.live live)
        ];
        timely = timely_later now then_ rises c h.timely;
      }

  pub pushes_later : (number : ℕ) → HasPushed sent client number → HasPushed (sent ++ more) client number
  pushes_later number h = (h.0, pushed_later sent more (data_id client number) h.0 h.1)

  pub way_later : (now then_ : ℕ) → now ≤ then_ → (c : CurrentCall) (chunk : ToldChunk) (number : ℕ) → IsUnderWay G config sent greatest client now c chunk number → IsUnderWay V config (sent ++ more) later client then_ c chunk number
  way_later now then_ rises c chunk number h =
      record {
        each = λ id handle version deadline own a. elim (h.each id handle version deadline own (none id handle version deadline own a)) [
          | inl over ↦ inl (over_later sent more G V go config.skew_ms greatest later grows id version deadline over)
          | inr rest ↦ elim (rest) [ inl live ↦ inr (inl (counted_later G V go config sent (sent ++ more) greatest later client c.file.0 id.seq version deadline c.live live)) | inr this ↦ inr (inr this) ]
        ];
        timely = timely_later now then_ rises c h.timely;
        last = λ id handle version deadline own a. h.last id handle version deadline own (none id handle version deadline own a);
        asks = asks_later sent more (data_id client number) chunk.handle chunk.round c.deadline h.asks;
        placed = go c.file.0 chunk number h.placed;
        pushed = pushes_later number h.pushed;
        mutates = h.mutates;
      }

  -- what is pushed now is among the messages then
  pub data_later : (o : Option Message) → ((m : Message) → o ≡ Some m → (x : Message) × IsAmong (sent ++ more) x × (x.sender ≡ m.sender) × (x.body ≡ m.body)) → (c : CurrentCall) (chunk : ToldChunk) (number : ℕ)
      → HasData config sent greatest client o c chunk number → HasData config (sent ++ more) later client None c chunk number
  data_later o there c chunk number h = (
    λ id handle version deadline own a. h.0 id handle version deadline own (none id handle version deadline own a),
    elim (h.1) [
      | inl before ↦ inl (pushes_later number before)
      | inr now ↦ let x = there now.0 now.1 in
          inl ((now.2).bytes, record { push = x.0; rest = (now.2).rest; sent_is = x.1; sender_is = x.2 ∙ (now.2).sender_is; body_is = x.3 ∙ (now.2).body_is })
    ],
  )

  pub over_all_later : AllOver G config sent greatest client → AllOver V config (sent ++ more) later client
  over_all_later h id handle version deadline own a = over_later sent more G V go config.skew_ms greatest later grows id version deadline (h id handle version deadline own (none id handle version deadline own a))

  pub stands_later : (o : Option Message) → ((m : Message) → o ≡ Some m → (x : Message) × IsAmong (sent ++ more) x × (x.sender ≡ m.sender) × (x.body ≡ m.body)) → (now then_ : ℕ) → now ≤ then_ → (call : Option CurrentCall)
      → CallStands G config sent greatest client now o call → CallStands V config (sent ++ more) later client then_ None call
  stands_later o there now then_ rises None h = over_all_later h
  stands_later o there now then_ rises (Some c) h = by_stage c.stage h
    where
      by_stage : (st : Stage)
          → StandsAt AnyUsed (IsOpen G config sent greatest client now) (λ o c chunk number. HasData config sent greatest client o c chunk number) (IsUnderWay G config sent greatest client now) AnyReply o c st
          → StandsAt AnyUsed (IsOpen V config (sent ++ more) later client then_) (λ o c chunk number. HasData config (sent ++ more) later client o c chunk number) (IsUnderWay V config (sent ++ more) later client then_) AnyReply None c st
      by_stage AskedNames g = (g.0, open_later now then_ rises c g.1)
      by_stage (AskedWhere number) g = open_later now then_ rises c g
      by_stage MustAskAgain g = open_later now then_ rises c g
      by_stage (SentData chunk primary number) g = (g.0, open_later now then_ rises c g.1, data_later o there c chunk number g.2)
      by_stage (SentMutate chunk number) g = (g.0, way_later now then_ rises c chunk number g.1)
      by_stage (SentRead chunk left number) g = (g.0, open_later now then_ rises c g.1, tt)
      by_stage IsOverStage g = open_later now then_ rises c g
      by_stage (HasAnswer reply) g = (open_later now then_ rises c g.0, tt)

-- messages that ask for nothing new

pub new_among : (sent : List Message) (k client : ℕ) (ms : List Message) → ((x : Message) → (place : ℕ) → element_at ms place ≡ Some x → x.sender ≡ the_client client → IsNoMutate x.body) → NoNew sent (sent ++ stamped k ms) client
new_among sent k client ms none id handle version deadline own a =
    elim (later_cases sent k ms (a.sent_is).0 a.asked (a.sent_is).1) [
      | inl before ↦ record { asked = a.asked; aim = a.aim; sent_is = ((a.sent_is).0, before); sender_is = a.sender_is; body_is = a.body_is }
      | inr new ↦ absurd (subst (λ (b : Body). IsNoMutate b) ((new.2).2 ∙ a.body_is) (none new.0 (new.1).0 (new.1).1 ((new.2).0 ∙ a.sender_is ∙ ap (λ (n : ℕ). the_client n) own)))
    ]

pub from_others : (sent : List Message) (k client : ℕ) (ms : List Message) → AllOf (λ m. is_from_client client m.sender ≡ false) ms → NoNew sent (sent ++ stamped k ms) client
from_others sent k client ms all =
    new_among sent k client ms (λ x place at from. absurd (true≢false (sym (from_itself client x.sender from) ∙ all_at (λ (m : Message). is_from_client client m.sender ≡ false) ms place x all at)))

pub one_message : (o : Option Message) (x : Message) (place : ℕ) → element_at (option_to_list o) place ≡ Some x → o ≡ Some x
one_message None x place at = none_some x at
one_message (Some m) x zero at = at
one_message (Some m) x (suc place) at = none_some x at

pub from_silent : (sent : List Message) (k client : ℕ) (o : Option Message) → ((m : Message) → o ≡ Some m → IsNoMutate m.body) → NoNew sent (sent ++ stamped k (option_to_list o)) client
from_silent sent k client o silent = new_among sent k client (option_to_list o) (λ x place at from. silent x (one_message o x place at))

pub last_at : (xs : List Message) (y : Message) → element_at (xs ++ y ∷ []) (length xs) ≡ Some y
last_at [] y = refl
last_at (x ∷ xs) y = last_at xs y

pub sent_there : (sent : List Message) (k : ℕ) (o : Option Message) (m : Message) → o ≡ Some m → (x : Message) × IsAmong (sent ++ stamped k (option_to_list o)) x × (x.sender ≡ m.sender) × (x.body ≡ m.body)
sent_there sent k o m is = subst (λ (p : Option Message). (x : Message) × IsAmong (sent ++ stamped k (option_to_list p)) x × (x.sender ≡ m.sender) × (x.body ≡ m.body)) (sym is) (record m { number = k }, (length sent, last_at sent (record m { number = k })), refl, refl)

pub append-[] : (xs : List Message) → xs ++ [] ≡ xs
append-[] [] = refl
append-[] (y ∷ xs) = ap (λ (ys : List Message). y ∷ ys) (append-[] xs)

-- who waits, in a trace that goes on

abbrev pub waits_after : ℕ → Bool → Visible → Bool
waits_after client now (Called who asked) = cond (client == who) true now
waits_after client now (Answered who reply) = cond (client == who) false now
waits_after client now (Passed moment) = now

pub waits_joined : (client : ℕ) (now : Bool) (trace : List Visible) (v : Visible) → waits client now (trace ++ v ∷ []) ≡ waits_after client (waits client now trace) v
waits_joined client now [] (Called who asked) = refl
waits_joined client now [] (Answered who reply) = refl
waits_joined client now [] (Passed moment) = refl
waits_joined client now (Called who asked ∷ rest) v = waits_joined client (cond (client == who) true now) rest v
waits_joined client now (Answered who reply ∷ rest) v = waits_joined client (cond (client == who) false now) rest v
waits_joined client now (Passed moment ∷ rest) v = waits_joined client now rest v

pub waits_passed : (skew : ℕ) (o : Observer) (moment client : ℕ) → waits client false (observed_moment skew o moment).trace ≡ waits client false o.trace
waits_passed skew o moment client =
    on_cond (λ (trace : List Visible). waits client false trace ≡ waits client false o.trace) (nat_lt o.greatest moment) (o.trace ++ Passed moment ∷ []) o.trace (λ _. waits_joined client false o.trace (Passed moment)) (λ _. refl)

pub waits_others : (o : Observer) (who client : ℕ) (a : Option Answer) → (client == who) ≡ false → waits client false (observed_answer o who a).trace ≡ waits client false o.trace
waits_others o who client None other = refl
waits_others o who client (Some reply) other = waits_joined client false o.trace (Answered who reply) ∙ ap (λ (b : Bool). cond b false (waits client false o.trace)) other

pub calls_joined : (client : ℕ) (trace : List Visible) (v : Visible) → is_call_of client v ≡ false → calls_made (trace ++ v ∷ []) client ≡ calls_made trace client
calls_joined client trace v other =
    let both = count-append (is_call_of client) trace (v ∷ []) in
    let one = count-cons (is_call_of client) v [] in
    let none = ap {B = ℕ} (λ (b : Bool). cond b 1 0) other in
    omega (arith, both, one, none)

pub calls_passed : (skew : ℕ) (o : Observer) (moment client : ℕ) → calls_made (observed_moment skew o moment).trace client ≡ calls_made o.trace client
calls_passed skew o moment client =
    on_cond (λ (trace : List Visible). calls_made trace client ≡ calls_made o.trace client) (nat_lt o.greatest moment) (o.trace ++ Passed moment ∷ []) o.trace (λ _. calls_joined client o.trace (Passed moment) refl) (λ _. refl)

pub calls_answered : (o : Observer) (who client : ℕ) (a : Option Answer) → calls_made (observed_answer o who a).trace client ≡ calls_made o.trace client
calls_answered o who client None = refl
calls_answered o who client (Some reply) = calls_joined client o.trace (Answered who reply) refl

pub greatest_answered : (o : Observer) (who : ℕ) (a : Option Answer) → (observed_answer o who a).greatest ≡ o.greatest
greatest_answered o who None = refl
greatest_answered o who (Some reply) = refl

pub put_at : (t : ClientState) (xs : List ClientState) (i : ℕ) (s : ClientState) → element_at (with_at xs i t) i ≡ Some s → s ≡ t
put_at t [] i s e = none_some s e
put_at t (y ∷ xs) zero s e = sym (same_some t s e)
put_at t (y ∷ xs) (suc i) s e = put_at t xs i s e

pub denial_final : (refusal : Refusal) → IsDenial refusal → IsFinal refusal
denial_final NoLease is = absurd is
denial_final NoChunk is = absurd is
denial_final other is = tt

-- what a step leaves of a call: nothing is answered, or all attempts are over
module _ (G : ℕ → ToldChunk → ℕ → Type 0) (config : Config) (sent : List Message) (greatest client now : ℕ) (s : ClientState) where
  pub split_now : (o : Option Message) (a : Option Answer) (c : Option CurrentCall)
      → StandsNow s AnyUsed (IsOpen G config sent greatest client now) (λ o c chunk number. HasData config sent greatest client o c chunk number) (IsUnderWay G config sent greatest client now) AnyReply (λ reply. AllOver G config sent greatest client) (AllOver G config sent greatest client) o a c
      → ((a ≡ None) × CallStands G config sent greatest client now o c) ⊎ ((c ≡ None) × AllOver G config sent greatest client)
  split_now o None None h = inl (refl, h)
  split_now o (Some reply) None h = inr (refl, h)
  split_now o a (Some c) h = inl (h.0, h.1)

  pub to_now : (c : Option CurrentCall) → CallStands G config sent greatest client now None c
      → StandsNow s AnyUsed (IsOpen G config sent greatest client now) (λ o c chunk number. HasData config sent greatest client o c chunk number) (IsUnderWay G config sent greatest client now) AnyReply (λ reply. AllOver G config sent greatest client) (AllOver G config sent greatest client) None None c
  to_now None h = h
  to_now (Some c) h = (refl, h)
