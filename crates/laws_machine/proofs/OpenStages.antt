-- Of each attempt of a client that is up: it is over, or its call counts it as live or waits for it. A step of the client keeps this.
use Rattle.std.proofs.Common.{◌≡◌, ◌⊎◌, ℕ, suc, ◌+◌, ◌≤◌, ◌<◌, Bool, true, false, true≢false, List, [], ◌∷◌, ◌++◌, Option, Some, None, refl, sym, ap, subst, ◌∙◌, inl, inr, arith}
use Rattle.std.specs.Prelude.{filter, nat_lt, nat_le, ◌==◌, ◌&&◌, ◌||◌, not, IsTrue}
use Rattle.std.specs.List.{list_any}
use Rattle.std.proofs.lemmas.Bool.{and_parts, eqb-true, ltb-true, ltb-false, leb-true}
use Rattle.gfs_types.specs.declared.config.Config.{Config}
use Rattle.gfs_types.specs.declared.ids.DataId.{DataId}
use Rattle.gfs_types.specs.declared.ids.FileId.{FileId}
use Rattle.gfs_types.specs.declared.ids.Handle.{Handle}
use Rattle.gfs_types.specs.declared.ids.Version.{Version}
use Rattle.gfs_types.specs.declared.ids.Moment.{Moment}
use Rattle.gfs_types.specs.declared.ids.ServerId.{ServerId}
use Rattle.gfs_types.specs.declared.call.Call.{Call}
use Rattle.gfs_types.specs.declared.answer.Answer.{Answer}
use Rattle.messages.specs.declared.message.Body.{Body}
use Rattle.messages.specs.declared.message.Body.TheVariants as body
use Rattle.messages.specs.declared.message.Message.{Message}
use Rattle.messages.specs.declared.message.Group.{Group}
use Rattle.messages.specs.declared.event.NodeInput.{NodeInput}
use Rattle.client_state.specs.declared.call.CurrentCall.{CurrentCall}
use Rattle.client_state.specs.declared.call.LiveAttempt.{LiveAttempt}
use Rattle.client_state.specs.declared.call.Stage.TheVariants.{SentData}
use Rattle.client_state.specs.declared.call.ToldChunk.{ToldChunk}
use Rattle.protocol.specs.Sending.{data_id, moment_of, the_client}
use Rattle.protocol.specs.PushBuffer.{hops_after}
use Rattle.protocol.specs.Client.{file_chunk, ClientState, ClientDoing, client_begins, answers}
use Rattle.protocol.specs.ClientAttempts.{is_mutation, bytes_to_send, is_live_at, push_planned_to}
use Rattle.protocol.specs.ClientTakes.{is_kept_beside, less_live, stays_live}
use Rattle.protocol.specs.ClientStep.{new_call, calls, client_does}
use Rattle.laws_base.proofs.Steps.{on_cond, same_or_not}
use Rattle.laws_base.proofs.Entries.{AllOf, all_joined}
use Rattle.laws_base.proofs.ServerMoves.{IsCameIn}
use Rattle.laws_base.specs.Attempts.{mutates_under}
use Rattle.laws_base.proofs.ClientWalk.{attempt_end, heard_at}
use Rattle.laws_base.proofs.Deadlines.{asks_for, asking, same_counted}
use Rattle.laws_base.specs.Entries.{IsPushed}
use Rattle.laws_base.proofs.AnsweredAttempts.{same_mutate}
use Rattle.laws_machine.proofs.CallWalk.{IsSamePart, IsDenial, AnyKept, AnyUsed, all_any, IsReady, KeepsCall, StandsNow, IsCalm, Leaves, does_leave, begun_calm, call_calm, at_once_calm}
use Rattle.laws_machine.specs.OpenAttempts.{AsksBy, WasAnswered, IsOver}

-- lists of live attempts

abbrev pub AnyLive : (LiveAttempt → Type 0) → List LiveAttempt → Type 0
AnyLive P [] = ⊥
AnyLive P (l ∷ ls) = P l ⊎ AnyLive P ls

module _ (P : LiveAttempt → Type 0) where
  before_any : (xs ys : List LiveAttempt) → AnyLive P xs → AnyLive P (xs ++ ys)
  before_any [] ys h = absurd h
  before_any (x ∷ xs) ys h = elim (h) [ inl now ↦ inl now | inr later ↦ inr (before_any xs ys later) ]

  last_any : (xs : List LiveAttempt) (y : LiveAttempt) → P y → AnyLive P (xs ++ y ∷ [])
  last_any [] y h = inl h
  last_any (x ∷ xs) y h = inr (last_any xs y h)

  kept_any : (t : LiveAttempt → Bool) (xs : List LiveAttempt) → AnyLive P xs → AnyLive P (filter t xs) ⊎ ((l : LiveAttempt) × P l × (t l ≡ false))
  kept_any t [] h = absurd h
  kept_any t (x ∷ xs) h =
      elim (h) [
        | inl now ↦ on_cond (λ (ys : List LiveAttempt). AnyLive P ys ⊎ ((l : LiveAttempt) × P l × (t l ≡ false))) (t x) (x ∷ filter t xs) (filter t xs) (λ _. inl (inl now)) (λ no. inr (x, now, no))
        | inr later ↦ elim (kept_any t xs later) [
          | inl kept ↦ on_cond (λ (ys : List LiveAttempt). AnyLive P ys ⊎ ((l : LiveAttempt) × P l × (t l ≡ false))) (t x) (x ∷ filter t xs) (filter t xs) (λ _. inl (inr kept)) (λ _. inl kept)
          | inr dropped ↦ inr dropped
        ]
      ]

  or_first : (a b : Bool) → a || b ≡ false → a ≡ false
  or_first true b h = absurd (true≢false h)
  or_first false b h = refl

  or_rest : (a b : Bool) → a || b ≡ false → b ≡ false
  or_rest true b h = absurd (true≢false h)
  or_rest false b h = h

  none_any : (t : LiveAttempt → Bool) (xs : List LiveAttempt) → list_any t xs ≡ false → AnyLive P xs → (l : LiveAttempt) × P l × (t l ≡ false)
  none_any t [] none h = absurd h
  none_any t (x ∷ xs) none h = elim (h) [ inl now ↦ (x, now, or_first (t x) (list_any t xs) none) | inr later ↦ none_any t xs (or_rest (t x) (list_any t xs) none) later ]

  all_kept : (t : LiveAttempt → Bool) (xs : List LiveAttempt) → AllOf P xs → AllOf P (filter t xs)
  all_kept t [] h = tt
  all_kept t (x ∷ xs) h = on_cond (λ (ys : List LiveAttempt). AllOf P ys) (t x) (x ∷ filter t xs) (filter t xs) (λ _. (h.0, all_kept t xs h.1)) (λ _. all_kept t xs h.1)

module _ (P Q : LiveAttempt → Type 0) where
  pub map_any : ((l : LiveAttempt) → P l → Q l) → (xs : List LiveAttempt) → AnyLive P xs → AnyLive Q xs
  map_any go [] h = absurd h
  map_any go (x ∷ xs) h = elim (h) [ inl now ↦ inl (go x now) | inr later ↦ inr (map_any go xs later) ]

  map_all : ((l : LiveAttempt) → P l → Q l) → (xs : List LiveAttempt) → AllOf P xs → AllOf Q xs
  map_all go [] h = tt
  map_all go (x ∷ xs) h = (go x h.0, map_all go xs h.1)

  both_any : (xs : List LiveAttempt) → AllOf Q xs → AnyLive P xs → AnyLive (λ l. P l × Q l) xs
  both_any [] all h = absurd h
  both_any (x ∷ xs) all h = elim (h) [ inl now ↦ inl (now, all.0) | inr later ↦ inr (both_any xs all.1 later) ]

pub strictly : (n m : ℕ) → n ≤ m → (n ≡ m → ⊥) → n < m
strictly n m low apart = by_test (nat_lt n m) refl
  where
    by_test : (b : Bool) → nat_lt n m ≡ b → n < m
    by_test true is = ltb-true n m is
    by_test false is = let high = ltb-false n m is in absurd (apart (omega (arith, low, high)))

-- a client pushed its data under this number
abbrev pub HasPushed : List Message → ℕ → ℕ → Type 0
HasPushed sent client number = (bytes : List ℕ) × IsPushed sent (data_id client number) bytes

-- its data are pushed now
pub record IsPushOf (client number : ℕ) (m : Message) : Type 0 where
  pub bytes : List ℕ
  pub rest : List ℕ
  pub sender_is : m.sender ≡ the_client client
  pub body_is : m.body ≡ body.Push (data_id client number) bytes rest

abbrev pub IsPushing : ℕ → ℕ → Option Message → Type 0
IsPushing client number o = (m : Message) × (o ≡ Some m) × IsPushOf client number m

module _ (config : Config) (sent : List Message) (greatest client : ℕ) where
  -- each attempt of the client
  abbrev pub EachOwn : (DataId → Handle → Version → Moment → Type 0) → Type 0
  EachOwn P = (id : DataId) (handle : Handle) (version : Version) (deadline : Moment) → id.client.0 ≡ client → AsksBy sent id handle version deadline → P id handle version deadline

  -- deadlines rise from attempt to attempt, and only a call that changes something has live ones
  pub record IsTimely (now : ℕ) (c : CurrentCall) : Type 0 where
    pub early : c.deadline.0 ≤ now + config.attempt_ms
    pub lives : AllOf (λ l. l.until.0 ≤ c.deadline.0 + config.skew_ms) c.live
    pub plain : is_mutation c.asked ≡ false → c.live ≡ []

  abbrev pub HasData : Option Message → CurrentCall → ToldChunk → ℕ → Type 0
  HasData o c chunk number = EachOwn (λ id handle version deadline. id.seq < number) × (HasPushed sent client number ⊎ IsPushing client number o)

-- this attempt was sent for the place in a file at which the live one stands
abbrev pub IsPlaced : (ℕ → ToldChunk → ℕ → Type 0) → ℕ → ℕ → LiveAttempt → Type 0
IsPlaced G file seq l = (chunk : ToldChunk) × G file chunk seq × (chunk.index ≡ l.index)

-- G: of the attempts that were sent for chunks of files
module _ (G : ℕ → ToldChunk → ℕ → Type 0) (config : Config) (sent : List Message) (greatest client : ℕ) where
  abbrev pub Over : DataId → Version → Moment → Type 0
  Over id version deadline = IsOver G sent config.skew_ms greatest id version deadline

  -- it counts as live until its deadline and the clock bound
  abbrev pub IsCounted : ℕ → ℕ → Version → Moment → LiveAttempt → Type 0
  IsCounted file seq version deadline l = (l.version ≡ version) × (l.until.0 ≡ deadline.0 + config.skew_ms) × IsPlaced G file seq l

  -- each attempt is over, or counted as live
  pub record IsOpen (now : ℕ) (c : CurrentCall) : Type 0 where
    pub each : EachOwn config sent greatest client (λ id handle version deadline. Over id version deadline ⊎ AnyLive (IsCounted c.file.0 id.seq version deadline) c.live)
    pub timely : IsTimely config sent greatest client now c

  -- so is each but the one that is under way, which is the last one
  pub record IsUnderWay (now : ℕ) (c : CurrentCall) (chunk : ToldChunk) (number : ℕ) : Type 0 where
    pub each : EachOwn config sent greatest client (λ id handle version deadline. Over id version deadline ⊎ (AnyLive (IsCounted c.file.0 id.seq version deadline) c.live ⊎ (id.seq ≡ number)))
    pub timely : IsTimely config sent greatest client now c
    pub last : EachOwn config sent greatest client (λ id handle version deadline. id.seq ≤ number)
    pub asks : AsksBy sent (data_id client number) chunk.handle chunk.round c.deadline
    pub placed : G c.file.0 chunk number
    pub pushed : HasPushed sent client number
    pub mutates : is_mutation c.asked ≡ true

  abbrev pub AllOver : Type 0
  AllOver = EachOwn config sent greatest client (λ id handle version deadline. Over id version deadline)

-- what comes in, where it answers an attempt whose data were pushed
abbrev pub CameAs : List Message → ℕ → Body → Type 0
CameAs sent client (body.Refused number refusal) = IsDenial refusal → HasPushed sent client number → WasAnswered sent (data_id client number)
CameAs sent client (body.Done id place) = (number : ℕ) → id.client.0 ≡ client → id.seq ≡ number → HasPushed sent client number → WasAnswered sent (data_id client number)
CameAs sent client other = Unit {0}

abbrev pub AnyReply : Call → Answer → Type 0
AnyReply asked reply = Unit {0}

-- a step of the client, in which the greatest moment comes to be this
module _ (G : ℕ → ToldChunk → ℕ → Type 0) (config : Config) (sent : List Message) (greatest : ℕ) (s : ClientState) (same_config : s.config ≡ config) (known : s.now ≤ greatest) (once : (client n : ℕ) → mutates_under client n sent ≤ 1)
    (used : EachOwn config sent greatest s.id (λ id handle version deadline. id.seq ≤ s.number)) where
  abbrev Open : CurrentCall → Type 0
  Open c = IsOpen G config sent greatest s.id s.now c

  abbrev UnderWay : CurrentCall → ToldChunk → ℕ → Type 0
  UnderWay c chunk number = IsUnderWay G config sent greatest s.id s.now c chunk number

  abbrev Ended : DataId → Version → Moment → Type 0
  Ended id version deadline = IsOver G sent config.skew_ms greatest id version deadline

  abbrev Counted : ℕ → ℕ → Version → Moment → LiveAttempt → Type 0
  Counted file seq version deadline l = (l.version ≡ version) × (l.until.0 ≡ deadline.0 + config.skew_ms) × IsPlaced G file seq l

  skew_is : s.config.skew_ms ≡ config.skew_ms
  skew_is = ap (λ (g : Config). g.skew_ms) same_config

  attempt_is : s.config.attempt_ms ≡ config.attempt_ms
  attempt_is = ap (λ (g : Config). g.attempt_ms) same_config

  same_open : (c e : CurrentCall) → e.asked ≡ c.asked → e.file ≡ c.file → e.live ≡ c.live → e.deadline ≡ c.deadline → Open c → Open e
  same_open c e asked file live deadline h =
      record {
        each = λ id handle version until own a. subst (λ (f : FileId). Ended id version until ⊎ AnyLive (Counted f.0 id.seq version until) e.live) (sym file)
            (subst (λ (ls : List LiveAttempt). Ended id version until ⊎ AnyLive (Counted c.file.0 id.seq version until) ls) (sym live) (h.each id handle version until own a));
        timely = record {
          early = let low = h.timely.early in let same = ap (λ (m : Moment). m.0) deadline in omega (arith, low, same);
          lives = subst (λ (ls : List LiveAttempt). AllOf (λ l. l.until.0 ≤ e.deadline.0 + config.skew_ms) ls) (sym live) (subst (λ (m : Moment). AllOf (λ l. l.until.0 ≤ m.0 + config.skew_ms) c.live) (sym deadline) h.timely.lives);
          plain = λ is. live ∙ h.timely.plain (sym (ap is_mutation asked) ∙ is);
        };
      }

  begins_open : (c e : CurrentCall) → IsSamePart c e → e.deadline ≡ attempt_end s → Open c → Open e
  begins_open c e same deadline h =
      record {
        each = λ id handle version until own a. subst (λ (f : FileId). Ended id version until ⊎ AnyLive (Counted f.0 id.seq version until) e.live) (sym same.1)
            (subst (λ (ls : List LiveAttempt). Ended id version until ⊎ AnyLive (Counted c.file.0 id.seq version until) ls) (sym same.3) (h.each id handle version until own a));
        timely = record {
          early = omega (arith, begun, attempt_is);
          lives = subst (λ (ls : List LiveAttempt). AllOf (λ l. l.until.0 ≤ e.deadline.0 + config.skew_ms) ls) (sym same.3)
              (map_all (λ l. l.until.0 ≤ c.deadline.0 + config.skew_ms) (λ l. l.until.0 ≤ e.deadline.0 + config.skew_ms) (λ l low. omega (arith, low, before, begun, attempt_is)) c.live h.timely.lives);
          plain = λ is. same.3 ∙ h.timely.plain (sym (ap is_mutation same.0) ∙ is);
        };
      }
    where
      begun : e.deadline.0 ≡ s.now + s.config.attempt_ms
      begun = ap (λ (m : Moment). m.0) deadline

      before : c.deadline.0 ≤ s.now + config.attempt_ms
      before = h.timely.early

  -- of the number that is under way there is one Mutate
  module _ (c : CurrentCall) (chunk : ToldChunk) (number : ℕ) (h : UnderWay c chunk number) where
    same_attempt : (id : DataId) (handle : Handle) (version : Version) (deadline : Moment) → id.client.0 ≡ s.id → AsksBy sent id handle version deadline → id.seq ≡ number → (handle ≡ chunk.handle) × (version ≡ chunk.round) × (deadline ≡ c.deadline)
    same_attempt id handle version deadline own a is = same_mutate id handle chunk.handle version chunk.round a.aim h.asks.aim deadline c.deadline (sym a.body_is ∙ ap (λ (m : Message). m.body) one ∙ own_body)
      where
        same_data : data_id s.id number ≡ id
        same_data = ap (λ (n : ℕ). data_id n number) (sym own) ∙ ap (λ (n : ℕ). data_id id.client.0 n) (sym is)

        own_sender : (h.asks.asked).sender ≡ the_client id.client.0
        own_sender = h.asks.sender_is ∙ ap (λ (n : ℕ). the_client n) (sym own)

        own_body : (h.asks.asked).body ≡ body.Mutate id chunk.handle chunk.round h.asks.aim c.deadline
        own_body = subst (λ (x : DataId). (h.asks.asked).body ≡ body.Mutate x chunk.handle chunk.round h.asks.aim c.deadline) same_data h.asks.body_is

        one : a.asked ≡ h.asks.asked
        one =
            same_counted (asks_for id) sent (a.sent_is).0 (h.asks.sent_is).0 a.asked h.asks.asked (once id.client.0 id.seq) (a.sent_is).1 (h.asks.sent_is).1 (asking id a.asked handle version a.aim deadline a.sender_is a.body_is)
            (asking id h.asks.asked chunk.handle chunk.round h.asks.aim c.deadline own_sender own_body)

    data_is : (id : DataId) → id.client.0 ≡ s.id → id.seq ≡ number → data_id s.id number ≡ id
    data_is id own is = ap (λ (n : ℕ). data_id n number) (sym own) ∙ ap (λ (n : ℕ). data_id id.client.0 n) (sym is)

    expires_open : nat_lt s.now (c.deadline.0 + s.config.skew_ms) ≡ false → Open c
    expires_open late =
        record {
          each = λ id handle version deadline own a. elim (h.each id handle version deadline own a) [
            | inl over ↦ inl over
            | inr rest ↦ elim (rest) [
              | inl live ↦ inr live
              | inr is ↦ let end = ltb-false s.now (c.deadline.0 + s.config.skew_ms) late in
                  let same = ap (λ (m : Moment). m.0) (same_attempt id handle version deadline own a is).2 in
                  inl (inl (omega (arith, end, same, known, skew_is)))
            ]
          ];
          timely = h.timely;
        }

    stays_open : Open (stays_live (client_begins s) c chunk)
    stays_open =
        record {
          each = λ id handle version deadline own a. elim (h.each id handle version deadline own a) [
            | inl over ↦ inl over
            | inr rest ↦ elim (rest) [
              | inl live ↦ inr (before_any (Counted c.file.0 id.seq version deadline) c.live (last ∷ []) live)
              | inr is ↦ let same = same_attempt id handle version deadline own a is in
                  let end = ap (λ (m : Moment). m.0) same.2 in
                  inr (last_any (Counted c.file.0 id.seq version deadline) c.live last (sym same.1, omega (arith, end, skew_is), (chunk, subst (λ (n : ℕ). G c.file.0 chunk n) (sym is) h.placed, refl)))
            ]
          ];
          timely = record {
            early = h.timely.early;
            lives = all_joined (λ l. l.until.0 ≤ c.deadline.0 + config.skew_ms) c.live (last ∷ []) h.timely.lives (omega (arith, skew_is), tt);
            plain = λ is. absurd (true≢false (sym h.mutates ∙ is));
          };
        }
      where
        last : LiveAttempt
        last = record { index = chunk.index; version = chunk.round; until = moment_of (c.deadline.0 + s.config.skew_ms) }

    -- what the answer leaves out
    left_out : (id : DataId) (handle : Handle) (version : Version) (deadline : Moment) → id.client.0 ≡ s.id → AsksBy sent id handle version deadline → (l : LiveAttempt) → Counted c.file.0 id.seq version deadline l → l.until.0 ≤ c.deadline.0 + config.skew_ms
        → is_kept_beside chunk l ≡ false → WasAnswered sent (data_id s.id number) → Ended id version deadline
    left_out id handle version deadline own a l counted low dropped answered =
        elim (same_or_not id.seq number) [
          | inl is ↦ inr (inl (subst (λ (x : DataId). WasAnswered sent x) (data_is id own is) answered))
          | inr apart ↦ inr (inr (record {
            later = data_id s.id number;
            handle = chunk.handle;
            higher = chunk.round;
            end = c.deadline;
            asks = h.asks;
            answered = answered;
            pushed = h.pushed;
            same_client = ap (λ (n : ℕ). (data_id n number).client) (sym own);
            is_later = strictly id.seq number (h.last id handle version deadline own a) apart;
            beside = record {
              file = c.file.0;
              chunk = (counted.2).0;
              other = chunk;
              first_is = (counted.2).1;
              later_is = h.placed;
              same_index = (counted.2).2 ∙ same_place;
            };
            not_lower = let same = ap (λ (v : Version). v.0) counted.0 in omega (arith, same, not_above);
            not_earlier = let until = counted.1 in omega (arith, until, low);
          }))
        ]
      where
        was_tested : (b : Bool) → not b ≡ false → b ≡ true
        was_tested true g = refl
        was_tested false g = absurd (true≢false g)

        tested : (IsTrue (l.index == chunk.index)) × IsTrue (nat_le l.version.0 chunk.round.0)
        tested = and_parts (l.index == chunk.index) (nat_le l.version.0 chunk.round.0) (was_tested ((l.index == chunk.index) && nat_le l.version.0 chunk.round.0) dropped)

        not_above : l.version.0 ≤ chunk.round.0
        not_above = leb-true l.version.0 chunk.round.0 tested.1

        same_place : l.index ≡ chunk.index
        same_place = eqb-true l.index chunk.index tested.0

    denied_open : WasAnswered sent (data_id s.id number) → Open (less_live c chunk)
    denied_open answered =
        record {
          each = λ id handle version deadline own a. elim (h.each id handle version deadline own a) [
            | inl over ↦ inl over
            | inr rest ↦ elim (rest) [
              | inl live ↦ elim (kept_any (λ l. Counted c.file.0 id.seq version deadline l × (l.until.0 ≤ c.deadline.0 + config.skew_ms)) (is_kept_beside chunk) c.live
                  (both_any (Counted c.file.0 id.seq version deadline) (λ l. l.until.0 ≤ c.deadline.0 + config.skew_ms) c.live h.timely.lives live)) [
                    | inl kept ↦ inr (map_any (λ l. Counted c.file.0 id.seq version deadline l × (l.until.0 ≤ c.deadline.0 + config.skew_ms)) (Counted c.file.0 id.seq version deadline) (λ l both. both.0) (filter (is_kept_beside chunk) c.live) kept)
                    | inr out ↦ inl (left_out id handle version deadline own a out.0 (out.1).0 (out.1).1 out.2 answered)
                  ]
              | inr is ↦ inl (inr (inl (subst (λ (x : DataId). WasAnswered sent x) (data_is id own is) answered)))
            ]
          ];
          timely = record {
            early = h.timely.early;
            lives = all_kept (λ l. l.until.0 ≤ c.deadline.0 + config.skew_ms) (is_kept_beside chunk) c.live h.timely.lives;
            plain = λ is. ap (filter (is_kept_beside chunk)) (h.timely.plain is);
          };
        }

  open_keeps : KeepsCall s (CameAs sent s.id) AnyKept AnyUsed Open (λ o c chunk number. HasData config sent greatest s.id o c chunk number) UnderWay (λ c chunk place. Open c) AnyReply
  open_keeps =
      record {
        keyed = all_any s.cache.entries;
        hears = λ d c l h. all_any (heard_at d c l).client.cache.entries;
        finds = λ t c index e h is part. tt;
        tells = λ c number l now at came. tt;
        fits = λ c e chunk asked index h. tt;
        same = λ c e same h. same_open c e same.0 same.1 same.3 same.4 h;
        begins = λ c e same deadline h. begins_open c e same deadline h;
        goes_on = λ c e plain asked file live deadline h. same_open c e asked file live deadline h;
        replies = λ asked reply plain. tt;
        refuses = λ asked refusal. tt;
        pushes = λ d c chunk g first r mutates x h. pushes_data d c chunk g first r;
        expires = λ c chunk number h late. expires_open c chunk number h late;
        stays = λ c chunk number h. stays_open c chunk number h;
        denied = λ c chunk number refusal h came is. denied_open c chunk number h (came is h.pushed);
        done = λ c chunk number id place h came own is. denied_open c chunk number h (came number own is h.pushed);
        passes = λ c chunk number e append m came asked file index live deadline h. same_open (less_live c chunk) e asked file live deadline h;
        appended = λ c chunk place append h. (h, tt);
        next = λ c e chunk place write more asked file index live deadline h. same_open c e asked file live deadline h;
        last = λ c chunk place write none h. (h, tt);
      }
    where
      pushes_data : (d : ClientDoing) (c : CurrentCall) (chunk : ToldChunk) (g : Group) (first : ServerId) → IsReady AnyKept s d
          → HasData config sent greatest s.id (push_planned_to d.client c chunk g (Some first)).sent (record c { stage = SentData chunk g.primary (suc d.client.number) }) chunk (suc d.client.number)
      pushes_data d c chunk g first r = (
        λ id handle version deadline own a. let most = used id handle version deadline own a in let same = r.3 in omega (arith, most, same),
        inr (
          _,
          refl,
          record {
            bytes = bytes_to_send (file_chunk d.client c.file.0) c.index c.asked;
            rest = hops_after g.members first.0;
            sender_is = ap (λ (n : ℕ). the_client n) r.2;
            body_is = ap (λ (n : ℕ). body.Push (data_id n (suc d.client.number)) (bytes_to_send (file_chunk d.client c.file.0) c.index c.asked) (hops_after g.members first.0)) r.2;
          },
        ),
      )

  -- a call that is answered has no attempt that isn't over
  open_ends : (c : CurrentCall) (reply : Answer) → Open c → AnyReply c.asked reply → (is_mutation c.asked ≡ true → list_any (is_live_at s.now) c.live ≡ false) → AllOver G config sent greatest s.id
  open_ends c reply h any none id handle version deadline own a =
      elim (h.each id handle version deadline own a) [
        | inl over ↦ over
        | inr live ↦ by_kind (is_mutation c.asked) refl live
      ]
    where
      by_kind : (b : Bool) → is_mutation c.asked ≡ b → AnyLive (Counted c.file.0 id.seq version deadline) c.live → Ended id version deadline
      by_kind false is live = absurd (subst (λ (ls : List LiveAttempt). AnyLive (Counted c.file.0 id.seq version deadline) ls) (h.timely.plain is) live)
      by_kind true is live =
          let out = none_any (Counted c.file.0 id.seq version deadline) (is_live_at s.now) c.live (none is) live in
          let end = ltb-false s.now (out.0).until.0 out.2 in
          let until = (out.1).1 in
          inl (omega (arith, end, until, known))

  abbrev pub Leaving : ClientDoing → Type 0
  Leaving d = Leaves s AnyUsed Open (λ o c chunk number. HasData config sent greatest s.id o c chunk number) UnderWay AnyReply (λ reply. AllOver G config sent greatest s.id) (AllOver G config sent greatest s.id) d

  abbrev pub Standing : Option Message → Option Answer → Option CurrentCall → Type 0
  Standing o a c = StandsNow s AnyUsed Open (λ o c chunk number. HasData config sent greatest s.id o c chunk number) UnderWay AnyReply (λ reply. AllOver G config sent greatest s.id) (AllOver G config sent greatest s.id) o a c

  pub step_leaves : (i : NodeInput) → IsCameIn (CameAs sent s.id) i → Standing None None s.current → Leaving (client_does (client_begins s) i s.current)
  step_leaves i came h =
      does_leave s (CameAs sent s.id) AnyKept AnyUsed Open (λ o c chunk number. HasData config sent greatest s.id o c chunk number) UnderWay (λ c chunk place. Open c) AnyReply (λ reply. AllOver G config sent greatest s.id) (AllOver G config sent greatest s.id) open_keeps open_ends i s.current refl came h
      (begun_calm s (CameAs sent s.id) AnyKept AnyUsed Open (λ o c chunk number. HasData config sent greatest s.id o c chunk number) UnderWay (λ c chunk place. Open c) AnyReply (λ reply. AllOver G config sent greatest s.id) (AllOver G config sent greatest s.id) open_keeps open_ends h)

  -- a call that is made where all attempts are over
  module _ (all : AllOver G config sent greatest s.id) where
    new_open : (attempts number : ℕ) (c : Call) (file index : ℕ) (last : Option ℕ) → Open (new_call attempts number c file index last)
    new_open attempts number c file index last =
        record {
          each = λ id handle version deadline own a. inl (all id handle version deadline own a);
          timely = record { early = omega arith; lives = tt; plain = λ is. refl };
        }

    pub call_leaves : (c : Call) → Standing None None s.current → IsCalm s AnyUsed Open (λ o c chunk number. HasData config sent greatest s.id o c chunk number) UnderWay AnyReply (λ reply. AllOver G config sent greatest s.id) (AllOver G config sent greatest s.id) (calls (client_begins s) c)
    call_leaves c h =
        call_calm s (CameAs sent s.id) AnyKept AnyUsed Open (λ o c chunk number. HasData config sent greatest s.id o c chunk number) UnderWay (λ c chunk place. Open c) AnyReply (λ reply. AllOver G config sent greatest s.id) (AllOver G config sent greatest s.id) open_keeps open_ends
        (λ c. Unit {0}) (λ c file index last plain at asks first. new_open s.config.attempts 0 c file index last) (λ c name asks. new_open s.config.attempts (suc s.call_count) c 0 0 None) (λ reply. all) c tt
        (begun_calm s (CameAs sent s.id) AnyKept AnyUsed Open (λ o c chunk number. HasData config sent greatest s.id o c chunk number) UnderWay (λ c chunk place. Open c) AnyReply (λ reply. AllOver G config sent greatest s.id) (AllOver G config sent greatest s.id) open_keeps open_ends h)

    pub refusal_leaves : (reply : Answer) → IsCalm s AnyUsed Open (λ o c chunk number. HasData config sent greatest s.id o c chunk number) UnderWay AnyReply (λ reply. AllOver G config sent greatest s.id) (AllOver G config sent greatest s.id) (answers (client_begins s) reply)
    refusal_leaves reply =
        at_once_calm s (CameAs sent s.id) AnyKept AnyUsed Open (λ o c chunk number. HasData config sent greatest s.id o c chunk number) UnderWay (λ c chunk place. Open c) AnyReply (λ reply. AllOver G config sent greatest s.id) (AllOver G config sent greatest s.id) open_keeps open_ends
        (λ c. Unit {0}) (λ c file index last plain at asks first. new_open s.config.attempts 0 c file index last) (λ c name asks. new_open s.config.attempts (suc s.call_count) c 0 0 None) (λ reply. all) reply
