-- What a client's step makes of its open call, with the attempts that it counts as live: they change only as a primary answers, and a call on a file is answered when none is live. The location by which data are pushed was kept, or is told.
use Rattle.std.proofs.Common.{◌≡◌, ◌⊎◌, inl, inr, ℕ, suc, ◌+◌, ◌/◌, Bool, true, false, true≢false, List, [], ◌∷◌, ◌++◌, length, Option, Some, None, refl, sym, ap, subst, ◌∙◌}
use Rattle.std.specs.Prelude.{nat_lt, ◌==◌, ◌&&◌, ◌||◌, not, cond}
use Rattle.std.proofs.lemmas.Bool.{eqb-true, and_parts}
use Rattle.std.specs.Option.{option_to_list}
use Rattle.std.specs.List.{list_any}
use Rattle.std.specs.FinMap as table
use Rattle.gfs_types.specs.declared.config.Config.{Config}
use Rattle.gfs_types.specs.declared.ids.ServerId.{ServerId}
use Rattle.gfs_types.specs.declared.ids.DataId.{DataId}
use Rattle.gfs_types.specs.declared.call.Call.{Call}
use Rattle.gfs_types.specs.declared.call.Call.TheVariants as call
use Rattle.gfs_types.specs.declared.answer.Answer.{Answer}
use Rattle.gfs_types.specs.declared.answer.Answer.TheVariants as answer
use Rattle.gfs_types.specs.declared.refusal.Refusal.{Refusal}
use Rattle.gfs_types.specs.declared.refusal.Refusal.TheVariants.{TooLong, BadFd, Unknown, Collected, NoChunk, NoLease, ChunkFull}
use Rattle.messages.specs.declared.message.NameReply.{NameReply}
use Rattle.messages.specs.declared.message.NameReply.TheVariants.{Opened, Answered}
use Rattle.messages.specs.declared.message.Body.{Body}
use Rattle.messages.specs.declared.message.Body.TheVariants as body
use Rattle.messages.specs.declared.message.Message.{Message}
use Rattle.messages.specs.declared.message.Location.{Location}
use Rattle.messages.specs.declared.message.Holder.{Holder}
use Rattle.messages.specs.declared.message.Group.{Group}
use Rattle.messages.specs.declared.event.NodeInput.{NodeInput}
use Rattle.messages.specs.declared.event.NodeInput.TheVariants as input
use Rattle.relaxed_file.specs.NameStep.{is_name_call, is_look}
use Rattle.relaxed_file.specs.Parts.{is_range_too_long}
use Rattle.protocol.specs.Tables.{is_empty_list}
use Rattle.protocol.specs.Sending.{moment_of}
use Rattle.protocol.specs.PushBuffer.{next_hop}
use Rattle.client_state.specs.declared.call.CurrentCall.{CurrentCall}
use Rattle.client_state.specs.declared.call.ToldChunk.{ToldChunk}
use Rattle.client_state.specs.declared.call.Stage.{Stage}
use Rattle.client_state.specs.declared.call.Stage.TheVariants.{AskedNames, AskedWhere, MustAskAgain, SentData, SentMutate, SentRead, IsOver, HasAnswer}
use Rattle.client_state.specs.declared.kept.Cached.{Cached}
use Rattle.client_state.specs.declared.kept.Place.{Place}
use Rattle.protocol.specs.Client.{file_chunk, place_in_file, ClientState, ClientDoing, client_begins, committed, with_current, answers}
use Rattle.protocol.specs.ClientCache.{cached, is_new_enough}
use Rattle.protocol.specs.ClientFiles.{last_append}
use Rattle.protocol.specs.ClientAttempts.{is_mutation, is_length, is_append, wanted_by, read_start, read_count, has_next_part, is_live_at, completes, last_refusal, gives_up, ended, is_last_attempt, ends_refused, asks, reads_next, push_planned_to, push_planned, mutate_planned, chunk_of, goes_on_at, will_do, begins_with, begins_at, chunk_to_find, attempts, attempts_names, begins_next_part, forgets, asks_anew}
use Rattle.protocol.specs.ClientTakes.{takes_reply, takes_named, takes_wait, gets, told_none, told_location, told, takes_told, is_own_data, takes_pushed, less_live, succeeds, takes_done, takes_bytes, takes_len_is, master_refuses, stays_live, finds_full, primary_refuses, takes_refused, client_takes, pushed_to, reader_refuses}
use Rattle.protocol.specs.ClientStep.{new_call, calls_names, calls_file, calls_on, fd_of, calls, ticks_names, ends_unanswered, ticks_unanswered, ticks_at, takes_at, client_does}
use Rattle.laws_base.proofs.Steps.{on_cond, none_some, same_some}
use Rattle.laws_base.proofs.Entries.{AllOf}
use Rattle.laws_base.proofs.ServerMoves.{IsCameIn}
use Rattle.laws_base.proofs.Caches.{after_look, after_drop}
use Rattle.laws_base.proofs.ClientWalk.{attempt_end, place_at, looked, heard_at, is_told_of, noted, closed, once_more, told_at}
use Rattle.laws_base.proofs.Budget.{IsNoMutate}
use Rattle.laws_base.proofs.Sendings.{noted_size}

-- the same part of a call, with the same attempts that count as live
abbrev pub IsSamePart : CurrentCall → CurrentCall → Type 0
IsSamePart c e = (e.asked ≡ c.asked) × (e.file ≡ c.file) × (e.index ≡ c.index) × (e.live ≡ c.live)

abbrev pub IsSameWork : CurrentCall → CurrentCall → Type 0
IsSameWork c e = (e.asked ≡ c.asked) × (e.file ≡ c.file) × (e.index ≡ c.index) × (e.live ≡ c.live) × (e.deadline ≡ c.deadline)

-- a primary's answer by which it says that it keeps the attempt, or that the attempt comes too late
abbrev pub IsDenial : Refusal → Type 0
IsDenial NoLease = ⊥
IsDenial NoChunk = ⊥
IsDenial other = Unit {0}

-- what is asked of the master is for the part in hand of the call
abbrev pub IsOwnAsk : Option CurrentCall → Body → Type 0
IsOwnAsk o (body.Ask number file what deadline lost) = (c : CurrentCall) × (o ≡ Some c) × (file ≡ c.file) × (what ≡ wanted_by c.index c.asked)
IsOwnAsk o other = Unit {0}

-- the first part of a call
abbrev pub IsFirst : ℕ → Call → ℕ → Type 0
IsFirst chunk (call.Write fd offset bytes) index = index ≡ offset / chunk
IsFirst chunk (call.Append fd bytes) index = index ≡ 0
IsFirst chunk other index = Unit {0}

-- of a read or a write a location is looked for that is of the part in hand
abbrev pub IsOfPart : Call → ℕ → ℕ → Type 0
IsOfPart (call.Write fd offset bytes) index at = at ≡ index
IsOfPart (call.Read fd offset count) index at = at ≡ index
IsOfPart other index at = Unit {0}

-- where nothing is asked of locations
abbrev pub AnyKept : Place × Cached → Type 0
AnyKept e = Unit {0}

abbrev pub AnyUsed : CurrentCall → ToldChunk → Type 0
AnyUsed c chunk = Unit {0}

pub all_any : (es : List (Place × Cached)) → AllOf AnyKept es
all_any [] = tt
all_any (e ∷ es) = (tt, all_any es)

-- a step so far, which sent nothing and answered nothing, and left the sizes of files; P: of each location that is kept
abbrev pub IsReady : (Place × Cached → Type 0) → ClientState → ClientDoing → Type 0
IsReady P s d =
    (d.client.config ≡ s.config) × (d.client.now ≡ s.now) × (d.client.id ≡ s.id) × (d.client.number ≡ s.number) × (d.sent ≡ None) × (d.answer ≡ None) × AllOf P d.client.cache.entries
    × ((file : ℕ) → file_chunk d.client file ≡ file_chunk s file)

-- Of a client s as it begins a step: P of each location that it keeps, X of one that its call uses, H of a call whose last attempt is over, D of one whose data are pushed, M of one that asked a primary, K of one whose data are settled, F of an answer that completes a call. Came is what may come in.
pub record KeepsCall (s : ClientState) (Came : Body → Type 0) (P : Place × Cached → Type 0) (X : CurrentCall → ToldChunk → Type 0) (H : CurrentCall → Type 0) (D : Option Message → CurrentCall → ToldChunk → ℕ → Type 0) (M : CurrentCall → ToldChunk → ℕ → Type 0)
    (K : CurrentCall → ToldChunk → ℕ → Type 0) (F : Call → Answer → Type 0) : Type 0 where
  -- locations that are kept, and one that is found or told
  pub keyed : AllOf P s.cache.entries
  pub hears : (d : ClientDoing) (c : CurrentCall) (l : Location) → AllOf P d.client.cache.entries → AllOf P (heard_at d c l).client.cache.entries
  pub finds : (t : ClientState) (c : CurrentCall) (index : ℕ) (e : Cached) → AllOf P t.cache.entries → cached t (place_at c index) ≡ Some e → IsOfPart c.asked c.index index → X c (chunk_of e.location)
  pub tells : (c : CurrentCall) (number : ℕ) (l : Location) → s.current ≡ Some c → c.stage ≡ AskedWhere number → Came (body.Told number (Some l)) → X c (chunk_of l)
  pub fits : (c e : CurrentCall) (chunk : ToldChunk) → e.asked ≡ c.asked → e.index ≡ c.index → X c chunk → X e chunk
  pub same : (c e : CurrentCall) → IsSameWork c e → H c → H e
  -- an attempt begins
  pub begins : (c e : CurrentCall) → IsSamePart c e → e.deadline ≡ attempt_end s → H c → H e
  -- the next part of a call that changes nothing, and its answers
  pub goes_on : (c e : CurrentCall) → is_mutation c.asked ≡ false → e.asked ≡ c.asked → e.file ≡ c.file → e.live ≡ c.live → e.deadline ≡ c.deadline → H c → H e
  pub replies : (asked : Call) (reply : Answer) → is_mutation asked ≡ false → F asked reply
  pub refuses : (asked : Call) (refusal : Refusal) → F asked (answer.Refused refusal)
  pub pushes : (d : ClientDoing) (c : CurrentCall) (chunk : ToldChunk) (g : Group) (first : ServerId) → IsReady P s d → is_mutation c.asked ≡ true → X c chunk → H c
      → D (push_planned_to d.client c chunk g (Some first)).sent (record c { stage = SentData chunk g.primary (suc d.client.number) }) chunk (suc d.client.number)
  -- an attempt that asked a primary is over by the clock, or answered
  pub expires : (c : CurrentCall) (chunk : ToldChunk) (number : ℕ) → M c chunk number → nat_lt s.now (c.deadline.0 + s.config.skew_ms) ≡ false → H c
  pub stays : (c : CurrentCall) (chunk : ToldChunk) (number : ℕ) → M c chunk number → H (stays_live (client_begins s) c chunk)
  pub denied : (c : CurrentCall) (chunk : ToldChunk) (number : ℕ) (refusal : Refusal) → M c chunk number → Came (body.Refused number refusal) → IsDenial refusal → H (less_live c chunk)
  pub done : (c : CurrentCall) (chunk : ToldChunk) (number : ℕ) (id : DataId) (place : ℕ) → M c chunk number → Came (body.Done id place) → id.client.0 ≡ s.id → id.seq ≡ number → K (less_live c chunk) chunk place
  -- an append past a full chunk
  pub passes : (c : CurrentCall) (chunk : ToldChunk) (number : ℕ) (e : CurrentCall) → is_append c.asked ≡ true → M c chunk number → Came (body.Refused number ChunkFull)
      → e.asked ≡ c.asked → e.file ≡ c.file → e.index ≡ suc chunk.index → e.live ≡ (less_live c chunk).live → e.deadline ≡ c.deadline → H (less_live c chunk) → H e
  -- what a success comes to
  pub appended : (c : CurrentCall) (chunk : ToldChunk) (place : ℕ) → is_append c.asked ≡ true → K c chunk place → H c × F c.asked (answer.At (place_in_file (file_chunk s c.file.0) chunk.index place))
  pub next : (c e : CurrentCall) (chunk : ToldChunk) (place : ℕ) → is_append c.asked ≡ false → has_next_part (file_chunk s c.file.0) c.index c.asked ≡ true → e.asked ≡ c.asked → e.file ≡ c.file → e.index ≡ suc c.index → e.live ≡ c.live → e.deadline ≡ c.deadline → K c chunk place → H e
  pub last : (c : CurrentCall) (chunk : ToldChunk) (place : ℕ) → is_append c.asked ≡ false → has_next_part (file_chunk s c.file.0) c.index c.asked ≡ false → K c chunk place → H c × F c.asked answer.Done

and_second : (a b : Bool) → a && b ≡ false → a ≡ true → b ≡ false
and_second true b h is = h
and_second false b h is = absurd (true≢false (sym is))

or_second : (a b : Bool) → a || not b ≡ false → b ≡ true
or_second true b h = absurd (true≢false h)
or_second false true h = refl
or_second false false h = absurd (true≢false h)

module _ (X : CurrentCall → ToldChunk → Type 0) (H : CurrentCall → Type 0) (D : Option Message → CurrentCall → ToldChunk → ℕ → Type 0) (M : CurrentCall → ToldChunk → ℕ → Type 0) (F : Call → Answer → Type 0) where
  -- what holds of a call at its stage; o is what the step sends
  abbrev pub StandsAt : Option Message → CurrentCall → Stage → Type 0
  StandsAt o c AskedNames = (is_mutation c.asked ≡ false) × H c
  StandsAt o c (AskedWhere number) = H c
  StandsAt o c MustAskAgain = H c
  StandsAt o c (SentData chunk primary number) = (is_mutation c.asked ≡ true) × H c × D o c chunk number
  StandsAt o c (SentMutate chunk number) = (is_mutation c.asked ≡ true) × M c chunk number
  StandsAt o c (SentRead chunk left number) = (is_mutation c.asked ≡ false) × H c × X c chunk
  StandsAt o c IsOver = H c
  StandsAt o c (HasAnswer reply) = H c × F c.asked reply

-- E: of an answer that is given, Z: while no call is open
module _ (s : ClientState) (X : CurrentCall → ToldChunk → Type 0) (H : CurrentCall → Type 0) (D : Option Message → CurrentCall → ToldChunk → ℕ → Type 0) (M : CurrentCall → ToldChunk → ℕ → Type 0) (F : Call → Answer → Type 0) (E : Answer → Type 0) (Z : Type 0) where
  abbrev pub StandsNow : Option Message → Option Answer → Option CurrentCall → Type 0
  StandsNow o None None = Z
  StandsNow o (Some reply) None = E reply
  StandsNow o a (Some c) = (a ≡ None) × StandsAt X H D M F o c c.stage

  -- a step in which no primary is asked
  pub record IsCalm (d : ClientDoing) : Type 0 where
    pub kept : (d.client.config ≡ s.config) × (d.client.now ≡ s.now)
    pub sizes : (d.client.current ≡ None) ⊎ ((file : ℕ) → file_chunk d.client file ≡ file_chunk s file)
    pub silent : (m : Message) → d.sent ≡ Some m → IsNoMutate m.body
    pub asks : (m : Message) → d.sent ≡ Some m → IsOwnAsk d.client.current m.body
    pub stands : StandsNow d.sent d.answer d.client.current

  -- a primary is asked now
  pub record IsAsking (d : ClientDoing) : Type 0 where
    pub current : CurrentCall
    pub chunk : ToldChunk
    pub primary : ServerId
    pub number : ℕ
    pub current_is : s.current ≡ Some current
    pub stage_is : current.stage ≡ SentData chunk primary number
    pub mutates : is_mutation current.asked ≡ true
    pub over : H current
    pub pushed : D None current chunk number
    pub is : d ≡ committed (client_begins s) current (mutate_planned s current chunk primary number)

  abbrev pub Leaves : ClientDoing → Type 0
  Leaves d = IsCalm d ⊎ IsAsking d

module _ (s : ClientState) (Came : Body → Type 0) (P : Place × Cached → Type 0) (X : CurrentCall → ToldChunk → Type 0) (H : CurrentCall → Type 0) (D : Option Message → CurrentCall → ToldChunk → ℕ → Type 0) (M : CurrentCall → ToldChunk → ℕ → Type 0) (K : CurrentCall → ToldChunk → ℕ → Type 0)
    (F : Call → Answer → Type 0) (E : Answer → Type 0) (Z : Type 0) (k : KeepsCall s Came P X H D M K F)
    (ends : (c : CurrentCall) (reply : Answer) → H c → F c.asked reply → (is_mutation c.asked ≡ true → list_any (is_live_at s.now) c.live ≡ false) → E reply) where
  abbrev Calm : ClientDoing → Type 0
  Calm d = IsCalm s X H D M F E Z d

  abbrev At : Option Message → CurrentCall → Stage → Type 0
  At o c st = StandsAt X H D M F o c st

  -- the cache
  looked_ready : (d : ClientDoing) (p : Place) → IsReady P s d → IsReady P s (looked d p)
  looked_ready d p r = (r.0, r.1, r.2, r.3, r.4, r.5, after_look P d.client p r.6, r.7)

  heard_ready : (d : ClientDoing) (c : CurrentCall) (l : Location) → IsReady P s d → IsReady P s (heard_at d c l)
  heard_ready d c l r = (r.0, r.1, r.2, r.3, r.4, r.5, k.hears d c l r.6, r.7)

  dropped : (c : CurrentCall) (chunk : ToldChunk) → IsReady P s (forgets (client_begins s) c chunk)
  dropped c chunk = (refl, refl, refl, refl, refl, refl, after_drop P s.cache (record { file = c.file.0; index = chunk.index }) k.keyed, λ file. refl)

  -- an index at which a location is looked for
  looked_for : (c : CurrentCall) (index : ℕ) → chunk_to_find c c.asked ≡ Some index → IsOfPart c.asked c.index index
  looked_for c index is = by_call c.asked is
    where
      by_call : (asked : Call) → chunk_to_find c asked ≡ Some index → IsOfPart asked c.index index
      by_call (call.Write fd offset bytes) at = sym (same_some c.index index at)
      by_call (call.Read fd offset count) at = sym (same_some c.index index at)
      by_call other at = tt

  one_silent : (x : Message) → IsNoMutate x.body → (m : Message) → Some x ≡ Some m → IsNoMutate m.body
  one_silent x h m is = subst (λ (y : Message). IsNoMutate y.body) (same_some x m is) h

  none_silent : (o : Option Message) → o ≡ None → (m : Message) → o ≡ Some m → IsNoMutate m.body
  none_silent o none m is = none_some m (sym none ∙ is)

  one_asked : (x : Message) (now : Option CurrentCall) → IsOwnAsk now x.body → (m : Message) → Some x ≡ Some m → IsOwnAsk now m.body
  one_asked x now h m is = subst (λ (y : Message). IsOwnAsk now y.body) (same_some x m is) h

  none_asked : (o : Option Message) (now : Option CurrentCall) → o ≡ None → (m : Message) → o ≡ Some m → IsOwnAsk now m.body
  none_asked o now none m is = none_some m (sym none ∙ is)

  waits : (d : ClientDoing) (c : CurrentCall) → IsReady P s d → At d.sent c c.stage → Calm (with_current d c)
  waits d c r h = record { kept = (r.0, r.1); sizes = inr r.7; silent = none_silent d.sent r.4; asks = none_asked d.sent (Some c) r.4; stands = (r.5, h) }

  replied : (d : ClientDoing) (reply : Answer) → (d.client.config ≡ s.config) × (d.client.now ≡ s.now) × (d.sent ≡ None) → E reply → Calm (answers d reply)
  replied d reply r h = record { kept = (r.0, r.1); sizes = inl refl; silent = none_silent d.sent r.2; asks = none_asked d.sent None r.2; stands = h }

  none_live : (d : ClientDoing) (c : CurrentCall) → IsReady P s d → is_mutation c.asked && list_any (is_live_at d.client.now) c.live ≡ false → is_mutation c.asked ≡ true → list_any (is_live_at s.now) c.live ≡ false
  none_live d c r none mutates = subst (λ (n : ℕ). list_any (is_live_at n) c.live ≡ false) r.1 (and_second (is_mutation c.asked) (list_any (is_live_at d.client.now) c.live) none mutates)

  completes_calm : (d : ClientDoing) (c : CurrentCall) (reply : Answer) → IsReady P s d → H c → F c.asked reply → Calm (completes d c reply)
  completes_calm d c reply r h f =
      on_cond Calm (is_mutation c.asked && list_any (is_live_at d.client.now) c.live) (with_current d (record c { stage = HasAnswer reply })) (answers d reply)
      (λ _. waits d (record c { stage = HasAnswer reply }) r (k.same c (record c { stage = HasAnswer reply }) (refl, refl, refl, refl, refl) h, f)) (λ none. replied d reply (r.0, r.1, r.4) (ends c reply h f (none_live d c r none)))

  gives_up_calm : (d : ClientDoing) (c : CurrentCall) → IsReady P s d → H c → Calm (gives_up d c)
  gives_up_calm d c r h = completes_calm d c (answer.Refused (last_refusal c)) r h (k.refuses c.asked (last_refusal c))

  refused_calm : (d : ClientDoing) (c : CurrentCall) → IsReady P s d → H c → Calm (ends_refused d c)
  refused_calm d c r h =
      let over : H (ended c) = k.same c (ended c) (refl, refl, refl, refl, refl) h in
      on_cond Calm (is_last_attempt c) (gives_up d (ended c)) (with_current d (ended c)) (λ _. gives_up_calm d (ended c) r over) (λ _. waits d (ended c) r over)

  asks_calm : (d : ClientDoing) (c : CurrentCall) → IsReady P s d → H c → Calm (asks d c)
  asks_calm d c r h = record { kept = (r.0, r.1); sizes = inr r.7; silent = λ m is. one_silent _ tt m is; asks = λ m is. one_asked _ (asks d c).client.current (record c { lost_lease = false; stage = AskedWhere (suc d.client.number) }, refl, refl, refl) m is; stands = (r.5, k.same c _ (refl, refl, refl, refl, refl) h) }

  reads_calm : (d : ClientDoing) (c : CurrentCall) (chunk : ToldChunk) (hs : List Holder) → IsReady P s d → is_mutation c.asked ≡ false → X c chunk → H c → Calm (reads_next d c chunk hs)
  reads_calm d c chunk [] r plain fit h = refused_calm d (record c { is_nobody_serving = true }) r (k.same c (record c { is_nobody_serving = true }) (refl, refl, refl, refl, refl) h)
  reads_calm d c chunk (x ∷ rest) r plain fit h =
      record {
        kept = (r.0, r.1);
        sizes = inr r.7;
        silent = λ m is. one_silent _ (on_cond IsNoMutate (is_length c.asked) (body.Len (suc d.client.number) chunk.handle x.version)
            (body.Read (suc d.client.number) chunk.handle x.version (read_start (file_chunk d.client c.file.0) c.index c.asked) (read_count (file_chunk d.client c.file.0) c.index c.asked)) (λ _. tt) (λ _. tt)) m is;
        asks = λ m is. one_asked _ (reads_next d c chunk (x ∷ rest)).client.current (on_cond (λ (b : Body). IsOwnAsk (reads_next d c chunk (x ∷ rest)).client.current b) (is_length c.asked) (body.Len (suc d.client.number) chunk.handle x.version)
            (body.Read (suc d.client.number) chunk.handle x.version (read_start (file_chunk d.client c.file.0) c.index c.asked) (read_count (file_chunk d.client c.file.0) c.index c.asked)) (λ _. tt) (λ _. tt)) m is;
        stands = (r.5, (plain, k.same c _ (refl, refl, refl, refl, refl) h, k.fits c (record c { stage = SentRead chunk rest (suc d.client.number) }) chunk refl refl fit));
      }

  again_calm : (d : ClientDoing) (c : CurrentCall) (chunk : ToldChunk) → IsReady P s d → H c → Calm (committed d c (push_planned d.client c chunk None))
  again_calm d c chunk r h = record { kept = (r.0, r.1); sizes = inr r.7; silent = λ m is. none_some m is; asks = λ m is. none_some m is; stands = (r.5, k.same c _ (refl, refl, refl, refl, refl) h) }

  push_to_calm : (d : ClientDoing) (c : CurrentCall) (chunk : ToldChunk) (g : Group) (o : Option ServerId) → IsReady P s d → is_mutation c.asked ≡ true → X c chunk → H c → Calm (committed d c (push_planned_to d.client c chunk g o))
  push_to_calm d c chunk g None r mutates x h = again_calm d c chunk r h
  push_to_calm d c chunk g (Some first) r mutates x h = record { kept = (r.0, r.1); sizes = inr r.7; silent = λ m is. one_silent _ tt m is; asks = λ m is. one_asked _ (committed d c (push_planned_to d.client c chunk g (Some first))).client.current tt m is; stands = (r.5, (mutates, k.same c _ (refl, refl, refl, refl, refl) h, k.pushes d c chunk g first r mutates x h)) }

  push_calm : (d : ClientDoing) (c : CurrentCall) (chunk : ToldChunk) (o : Option Group) → IsReady P s d → is_mutation c.asked ≡ true → X c chunk → H c → Calm (committed d c (push_planned d.client c chunk o))
  push_calm d c chunk None r mutates x h = again_calm d c chunk r h
  push_calm d c chunk (Some g) r mutates x h = push_to_calm d c chunk g (next_hop g.members 0) r mutates x h

  goes_on_calm : (d : ClientDoing) (c : CurrentCall) (l : Location) → IsReady P s d → X c (chunk_of l) → H c → Calm (goes_on_at d c l)
  goes_on_calm d c l r x h =
      on_cond Calm (is_mutation c.asked) (committed d c (push_planned d.client c (chunk_of l) l.group)) (reads_next d c (chunk_of l) l.holders)
      (λ mutates. push_calm d c (chunk_of l) l.group r mutates x h) (λ plain. reads_calm d c (chunk_of l) l.holders r plain x h)

  begins_with_calm : (d : ClientDoing) (c : CurrentCall) (o : Option Cached) → IsReady P s d → ((e : Cached) → o ≡ Some e → X c (chunk_of e.location)) → H c → Calm (begins_with d c o)
  begins_with_calm d c None r x h = asks_calm d c r h
  begins_with_calm d c (Some e) r x h =
      on_cond Calm (will_do c e) (goes_on_at d (told_at c e) e.location) (asks d c)
      (λ _. goes_on_calm d (told_at c e) e.location r (k.fits c (told_at c e) (chunk_of e.location) refl refl (x e refl)) (k.same c (told_at c e) (refl, refl, refl, refl, refl) h)) (λ _. asks_calm d c r h)

  begins_at_calm : (d : ClientDoing) (c : CurrentCall) (o : Option ℕ) → IsReady P s d → ((index : ℕ) → o ≡ Some index → IsOfPart c.asked c.index index) → H c → Calm (begins_at d c o)
  begins_at_calm d c None r part h = asks_calm d c r h
  begins_at_calm d c (Some index) r part h =
      begins_with_calm (looked d (place_at c index)) c (cached d.client (place_at c index)) (looked_ready d (place_at c index) r) (λ e is. k.finds d.client c index e r.6 is (part index refl)) h

  same_end : (d : ClientDoing) → IsReady P s d → attempt_end d.client ≡ attempt_end s
  same_end d r = ap (λ (n : ℕ). moment_of (n + d.client.config.attempt_ms)) r.1 ∙ ap (λ (n : ℕ). moment_of (s.now + n)) (ap (λ (g : Config). g.attempt_ms) r.0)

  attempts_calm : (d : ClientDoing) (c : CurrentCall) → IsReady P s d → H c → Calm (attempts d c)
  attempts_calm d c r h =
      let begun : CurrentCall = record c { deadline = attempt_end d.client; is_nobody_serving = false; last_chunk = None; stage = IsOver } in
      begins_at_calm d begun (chunk_to_find c c.asked) r (looked_for c) (k.begins c begun (refl, refl, refl, refl) (same_end d r) h)

  unanswered_calm : (d : ClientDoing) (c : CurrentCall) → IsReady P s d → H c → Calm (ends_unanswered d c)
  unanswered_calm d c r h =
      let over : CurrentCall = record (ended c) { lost_lease = false } in
      let has : H over = k.same c over (refl, refl, refl, refl, refl) h in
      on_cond Calm (is_last_attempt c) (gives_up d over) (attempts d over) (λ _. gives_up_calm d over r has) (λ _. attempts_calm d over r has)

  next_calm : (d : ClientDoing) (c : CurrentCall) → IsReady P s d → is_mutation c.asked ≡ false → H c → Calm (begins_next_part d c)
  next_calm d c r plain h =
      let next : CurrentCall = record c { index = suc c.index; left = d.client.config.attempts; lost_lease = false } in attempts_calm d next r (k.goes_on c next plain refl refl refl refl h)

  -- messages

  gets_calm : (d : ClientDoing) (c : CurrentCall) (found : List ℕ) (round : Option ℕ) → IsReady P s d → is_mutation c.asked ≡ false → H c → Calm (gets d c found round)
  gets_calm d c found round r plain h =
      let got : CurrentCall = record c { bytes = c.bytes ++ found; rounds = c.rounds ++ option_to_list round } in
      let has : H got = k.same c got (refl, refl, refl, refl, refl) h in
      on_cond Calm (nat_lt (length found) (read_count (file_chunk d.client c.file.0) c.index c.asked) || not (has_next_part (file_chunk d.client c.file.0) c.index c.asked)) (completes d got (answer.Bytes got.bytes got.rounds)) (begins_next_part d got)
      (λ _. completes_calm d got (answer.Bytes got.bytes got.rounds) r has (k.replies c.asked (answer.Bytes got.bytes got.rounds) plain)) (λ _. next_calm d got r plain has)

  told_none_calm : (d : ClientDoing) (c : CurrentCall) (asked : Call) → asked ≡ c.asked → IsReady P s d → H c → Calm d → Calm (told_none d c asked)
  told_none_calm d c (call.Read fd offset count) is r h p =
      let plain : is_mutation c.asked ≡ false = sym (ap is_mutation is) in
      gets_calm d (record c { saw_no_holder = false }) [] None r plain (k.same c (record c { saw_no_holder = false }) (refl, refl, refl, refl, refl) h)
  told_none_calm d c (call.Length fd) is r h p = completes_calm d c (answer.Length 0) r h (k.replies c.asked (answer.Length 0) (sym (ap is_mutation is)))
  told_none_calm d c other is r h p = p

  location_calm : (d : ClientDoing) (c : CurrentCall) (l : Location) → IsReady P s d → X c (chunk_of l) → H c → Calm (told_location d c l)
  location_calm d c l r x h =
      let nobody : CurrentCall = record c { stage = MustAskAgain; saw_no_holder = true; is_nobody_serving = true } in
      on_cond Calm (is_empty_list l.holders) (with_current d nobody) (goes_on_at (heard_at d c l) (is_told_of d c) l)
      (λ _. waits d nobody r (k.same c nobody (refl, refl, refl, refl, refl) h)) (λ _. goes_on_calm (heard_at d c l) (is_told_of d c) l (heard_ready d c l r) (k.fits c (is_told_of d c) (chunk_of l) refl refl x) (k.same c (is_told_of d c) (refl, refl, refl, refl, refl) h))

  told_calm : (d : ClientDoing) (c : CurrentCall) (o : Option Location) → IsReady P s d → ((l : Location) → o ≡ Some l → X c (chunk_of l)) → H c → Calm d → Calm (told d c o)
  told_calm d c None r x h p = told_none_calm d c c.asked refl r h p
  told_calm d c (Some l) r x h p = location_calm d c l r (x l refl) h

  takes_told_calm : (c : CurrentCall) (st : Stage) (number : ℕ) (o : Option Location) → s.current ≡ Some c → c.stage ≡ st → Came (body.Told number o) → IsReady P s (client_begins s) → At None c st → Calm (client_begins s) → Calm (takes_told (client_begins s) c st number o)
  takes_told_calm c (AskedWhere asked) number o now staged came r h p =
      on_cond Calm (asked == number) (told (client_begins s) c o) (client_begins s)
      (λ same. told_calm (client_begins s) c o r
      (λ l is. k.tells c number l now (staged ∙ ap (λ (n : ℕ). AskedWhere n) (eqb-true asked number same)) (subst (λ (x : Option Location). Came (body.Told number x)) is came)) h p) (λ _. p)
  takes_told_calm c other number o now staged came r h p = p

  named_reply : (c : CurrentCall) (reply : Answer) → is_mutation c.asked ≡ false → H c → E reply
  named_reply c reply plain h = ends c reply h (k.replies c.asked reply plain) (λ mutates. absurd (true≢false (sym mutates ∙ plain)))

  reply_calm : (d : ClientDoing) (c : CurrentCall) (reply : NameReply) → IsReady P s d → is_mutation c.asked ≡ false → H c → Calm (takes_reply d reply)
  reply_calm d c (Opened file shape) r plain h = record { kept = (r.0, r.1); sizes = inl refl; silent = none_silent d.sent r.4; asks = none_asked d.sent None r.4; stands = named_reply c _ plain h }
  reply_calm d c (Answered reply) r plain h = replied d reply (r.0, r.1, r.4) (named_reply c reply plain h)

  takes_named_calm : (d : ClientDoing) (c : CurrentCall) (st : Stage) (number : ℕ) (reply : NameReply) → IsReady P s d → At None c st → Calm d → Calm (takes_named d c st number reply)
  takes_named_calm d c AskedNames number reply r h p = on_cond Calm (c.number == number) (takes_reply d reply) d (λ _. reply_calm d c reply r h.0 h.1) (λ _. p)
  takes_named_calm d c other number reply r h p = p

  takes_wait_calm : (d : ClientDoing) (c : CurrentCall) (st : Stage) (number : ℕ) → IsReady P s d → At None c st → Calm d → Calm (takes_wait d c st number)
  takes_wait_calm d c (AskedWhere asked) number r h p =
      let again : CurrentCall = record c { stage = MustAskAgain; saw_no_holder = false; is_nobody_serving = false } in
      on_cond Calm (asked == number) (with_current d again) d (λ _. waits d again r (k.same c again (refl, refl, refl, refl, refl) h)) (λ _. p)
  takes_wait_calm d c other number r h p = p

  takes_bytes_calm : (d : ClientDoing) (c : CurrentCall) (st : Stage) (number : ℕ) (bytes : List ℕ) → IsReady P s d → At None c st → Calm d → Calm (takes_bytes d c st number bytes)
  takes_bytes_calm d c (SentRead chunk left asked) number bytes r h p =
      on_cond Calm ((asked == number) && not (is_length c.asked)) (gets d c bytes (Some chunk.round.0)) d (λ _. gets_calm d c bytes (Some chunk.round.0) r h.0 h.1) (λ _. p)
  takes_bytes_calm d c other number bytes r h p = p

  takes_length_calm : (d : ClientDoing) (c : CurrentCall) (st : Stage) (number count : ℕ) → IsReady P s d → At None c st → Calm d → Calm (takes_len_is d c st number count)
  takes_length_calm d c (SentRead chunk left asked) number count r h p =
      let reply : Answer = answer.Length (place_in_file (file_chunk d.client c.file.0) chunk.index count) in
      on_cond Calm ((asked == number) && is_length c.asked) (completes d c reply) d (λ _. completes_calm d c reply r h.1 (k.replies c.asked reply h.0)) (λ _. p)
  takes_length_calm d c other number count r h p = p

  master_refuses_calm : (d : ClientDoing) (c : CurrentCall) (refusal : Refusal) → IsReady P s d → H c → Calm d → Calm (master_refuses d c refusal)
  master_refuses_calm d c TooLong r h p = completes_calm d c (answer.Refused TooLong) r h (k.refuses c.asked TooLong)
  master_refuses_calm d c Collected r h p = completes_calm d c (answer.Refused Collected) r h (k.refuses c.asked Collected)
  master_refuses_calm d c other r h p = p

  full_calm : (d : ClientDoing) (c : CurrentCall) (chunk : ToldChunk) (number : ℕ) → IsReady P s d → M c chunk number → Came (body.Refused number ChunkFull) → H (less_live c chunk) → Calm (finds_full d (less_live c chunk) chunk)
  full_calm d c chunk number r m came h =
      let past : CurrentCall = record (less_live c chunk) { stage = IsOver; index = suc chunk.index } in
      on_cond Calm (is_append c.asked) (with_current d past) (ends_refused d (less_live c chunk)) (λ append. waits d past r (k.passes c chunk number past append m came refl refl refl refl refl h)) (λ _. refused_calm d (less_live c chunk) r h)

  abbrev d0 : ClientDoing
  d0 = client_begins s

  ready : IsReady P s (client_begins s)
  ready = (refl, refl, refl, refl, refl, refl, k.keyed, λ file. refl)

  noted_ready : (file : ℕ) (index : Option ℕ) → IsReady P s (noted (client_begins s) file index)
  noted_ready file index = (refl, refl, refl, refl, refl, refl, k.keyed, λ g. noted_size s file index g)

  primary_refuses_calm : (c : CurrentCall) (chunk : ToldChunk) (number : ℕ) (refusal : Refusal) → M c chunk number → Came (body.Refused number refusal) → Calm (primary_refuses (forgets (client_begins s) c chunk) c chunk refusal)
  primary_refuses_calm c chunk number NoChunk m came = refused_calm (forgets d0 c chunk) (stays_live d0 c chunk) (dropped c chunk) (k.stays c chunk number m)
  primary_refuses_calm c chunk number NoLease m came = refused_calm (forgets d0 c chunk) (stays_live d0 c chunk) (dropped c chunk) (k.stays c chunk number m)
  primary_refuses_calm c chunk number ChunkFull m came = full_calm (forgets d0 c chunk) c chunk number (dropped c chunk) m came (k.denied c chunk number ChunkFull m came tt)
  primary_refuses_calm c chunk number other m came = refused_calm (forgets d0 c chunk) (less_live c chunk) (dropped c chunk) (k.denied c chunk number other m came tt)

  takes_refused_calm : (c : CurrentCall) (st : Stage) (number : ℕ) (refusal : Refusal) → At None c st → Came (body.Refused number refusal) → Calm d0 → Calm (takes_refused (client_begins s) c st number refusal)
  takes_refused_calm c (AskedWhere asked) number refusal h came p = on_cond Calm (asked == number) (master_refuses d0 c refusal) d0 (λ _. master_refuses_calm d0 c refusal ready h p) (λ _. p)
  takes_refused_calm c (SentMutate chunk asked) number refusal h came p =
      on_cond Calm (asked == number) (primary_refuses (forgets d0 c chunk) c chunk refusal) d0
      (λ same. primary_refuses_calm c chunk asked refusal h.1 (subst (λ (n : ℕ). Came (body.Refused n refusal)) (sym (eqb-true asked number same)) came)) (λ _. p)
  takes_refused_calm c (SentRead chunk left asked) number refusal h came p =
      let there : ClientDoing = forgets d0 c chunk in
      on_cond Calm (asked == number) (reader_refuses there c chunk left) d0
      (λ _. on_cond Calm (is_new_enough there.client c.told.0) (reads_next there c chunk left) (asks_anew there c) (λ _. reads_calm there c chunk left (dropped c chunk) h.0 h.2 h.1)
      (λ _. waits there (record c { stage = MustAskAgain }) (dropped c chunk) (k.same c (record c { stage = MustAskAgain }) (refl, refl, refl, refl, refl) h.1))) (λ _. p)
  takes_refused_calm c other number refusal h came p = p

  succeeds_calm : (c : CurrentCall) (chunk : ToldChunk) (place : ℕ) → K c chunk place → Calm (succeeds (client_begins s) c chunk place)
  succeeds_calm c chunk place settled =
      let reply : Answer = answer.At (place_in_file (file_chunk s c.file.0) chunk.index place) in
      let next : CurrentCall = record c { index = suc c.index; left = s.config.attempts; lost_lease = false } in
      on_cond Calm (is_append c.asked) (completes (noted d0 c.file.0 (Some chunk.index)) c reply) (cond (has_next_part (file_chunk s c.file.0) c.index c.asked) (begins_next_part d0 c) (completes d0 c answer.Done))
      (λ append. completes_calm (noted d0 c.file.0 (Some chunk.index)) c reply (noted_ready c.file.0 (Some chunk.index)) (k.appended c chunk place append settled).0 (k.appended c chunk place append settled).1)
      (λ write. on_cond Calm (has_next_part (file_chunk s c.file.0) c.index c.asked) (begins_next_part d0 c) (completes d0 c answer.Done)
      (λ more. attempts_calm d0 next ready (k.next c next chunk place write more refl refl refl refl refl settled)) (λ none. completes_calm d0 c answer.Done ready (k.last c chunk place write none settled).0 (k.last c chunk place write none settled).1))

  takes_done_calm : (c : CurrentCall) (st : Stage) (id : DataId) (place : ℕ) → At None c st → Came (body.Done id place) → Calm d0 → Calm (takes_done (client_begins s) c st id place)
  takes_done_calm c (SentMutate chunk number) id place h came p =
      on_cond Calm (is_own_data d0 id number) (succeeds d0 (less_live c chunk) chunk place) d0
      (λ own. let parts = and_parts (id.client.0 == s.id) (id.seq == number) own in
      succeeds_calm (less_live c chunk) chunk place (k.done c chunk number id place h.1 came (eqb-true id.client.0 s.id parts.0) (eqb-true id.seq number parts.1))) (λ _. p)
  takes_done_calm c other id place h came p = p

  abbrev Left : ClientDoing → Type 0
  Left d = IsCalm s X H D M F E Z d ⊎ IsAsking s X H D M F E Z d

  takes_pushed_calm : (c : CurrentCall) (st : Stage) (id : DataId) → c.stage ≡ st → s.current ≡ Some c → At None c st → Calm d0 → Left (takes_pushed (client_begins s) c st id)
  takes_pushed_calm c (SentData chunk primary number) id staged now h p =
      on_cond Left (is_own_data d0 id number) (pushed_to d0 c chunk primary number) d0
      (λ _. on_cond Left (is_new_enough s c.told.0) (committed d0 c (mutate_planned s c chunk primary number)) (asks_anew d0 c)
      (λ _. inr (record { current = c; chunk = chunk; primary = primary; number = number; current_is = now; stage_is = staged; mutates = h.0; over = h.1; pushed = h.2; is = refl }))
      (λ _. inl (waits d0 (record c { stage = MustAskAgain }) ready (k.same c (record c { stage = MustAskAgain }) (refl, refl, refl, refl, refl) h.1)))) (λ _. inl p)
  takes_pushed_calm c other id staged now h p = inl p

  takes_calm : (c : CurrentCall) (b : Body) → s.current ≡ Some c → Came b → At None c c.stage → Calm d0 → Left (client_takes (client_begins s) c b)
  takes_calm c (body.Named number reply) now came h p = inl (takes_named_calm d0 c c.stage number reply ready h p)
  takes_calm c (body.Told number location) now came h p = inl (takes_told_calm c c.stage number location now refl came ready h p)
  takes_calm c (body.Wait number) now came h p = inl (takes_wait_calm d0 c c.stage number ready h p)
  takes_calm c (body.Refused number refusal) now came h p = inl (takes_refused_calm c c.stage number refusal h came p)
  takes_calm c (body.Pushed id) now came h p = takes_pushed_calm c c.stage id refl now h p
  takes_calm c (body.Done id place) now came h p = inl (takes_done_calm c c.stage id place h came p)
  takes_calm c (body.Bytes number bytes) now came h p = inl (takes_bytes_calm d0 c c.stage number bytes ready h p)
  takes_calm c (body.LenIs number count) now came h p = inl (takes_length_calm d0 c c.stage number count ready h p)
  takes_calm c other now came h p = inl p

  takes_at_calm : (c : CurrentCall) (m : Message) (st : Stage) → c.stage ≡ st → s.current ≡ Some c → Came m.body → At None c st → Calm d0 → Left (takes_at (client_begins s) c m st)
  takes_at_calm c m (HasAnswer reply) at now came h p = inl (completes_calm d0 c reply ready h.0 h.1)
  takes_at_calm c m other at now came h p = takes_calm c m.body now came (subst (λ (st : Stage). At None c st) (sym at) h) p

  -- ticks

  naming_calm : (d : ClientDoing) (c : CurrentCall) → IsReady P s d → is_mutation c.asked ≡ false → H c → Calm (attempts_names d c)
  naming_calm d c r plain h =
      let begun : CurrentCall = record c { deadline = attempt_end d.client } in
      record {
        kept = (r.0, r.1);
        sizes = inr r.7;
        silent = λ m is. one_silent _ (on_cond IsNoMutate (is_look c.asked) (body.Look c.number c.asked) (body.Name c.number begun.deadline c.asked) (λ _. tt) (λ _. tt)) m is;
        asks = λ m is. one_asked _ (attempts_names d c).client.current (on_cond (λ (b : Body). IsOwnAsk (attempts_names d c).client.current b) (is_look c.asked) (body.Look c.number c.asked) (body.Name c.number begun.deadline c.asked) (λ _. tt) (λ _. tt)) m is;
        stands = (r.5, (plain, k.begins c _ (refl, refl, refl, refl) (same_end d r) h));
      }

  ticks_names_calm : (c : CurrentCall) → is_mutation c.asked ≡ false → H c → Calm d0 → Calm (ticks_names (client_begins s) c)
  ticks_names_calm c plain h p =
      on_cond Calm (nat_lt s.now (c.deadline.0 + s.config.skew_ms)) d0 _ (λ _. p)
      (λ _. on_cond Calm (is_last_attempt c) (answers d0 (answer.Refused Unknown)) (attempts_names d0 (ended c)) (λ _. replied d0 (answer.Refused Unknown) (refl, refl, refl) (named_reply c (answer.Refused Unknown) plain h))
      (λ _. naming_calm d0 (ended c) ready plain (k.same c (ended c) (refl, refl, refl, refl, refl) h)))

  ticks_unanswered_calm : (c : CurrentCall) (forget : ClientDoing → ClientDoing) → IsReady P s (forget d0) → (nat_lt s.now (c.deadline.0 + s.config.skew_ms) ≡ false → H c) → Calm d0 → Calm (ticks_unanswered (client_begins s) c forget)
  ticks_unanswered_calm c forget r h p = on_cond Calm (nat_lt s.now (c.deadline.0 + s.config.skew_ms)) d0 (ends_unanswered (forget d0) c) (λ _. p) (λ late. unanswered_calm (forget d0) c r (h late))

  ticks_calm : (c : CurrentCall) (st : Stage) → At None c st → Calm d0 → Calm (ticks_at (client_begins s) c st)
  ticks_calm c AskedNames h p = ticks_names_calm c h.0 h.1 p
  ticks_calm c (HasAnswer reply) h p = completes_calm d0 c reply ready h.0 h.1
  ticks_calm c IsOver h p = attempts_calm d0 c ready h
  ticks_calm c MustAskAgain h p = on_cond Calm (nat_lt s.now c.deadline.0) (asks d0 c) (ticks_unanswered d0 c (λ e. e)) (λ _. asks_calm d0 c ready h) (λ _. ticks_unanswered_calm c (λ e. e) ready (λ _. h) p)
  ticks_calm c (AskedWhere number) h p = ticks_unanswered_calm c (λ e. e) ready (λ _. h) p
  ticks_calm c (SentData chunk primary number) h p = ticks_unanswered_calm c (λ e. forgets e c chunk) (dropped c chunk) (λ _. h.1) p
  ticks_calm c (SentMutate chunk number) h p = ticks_unanswered_calm c (λ e. forgets e c chunk) (dropped c chunk) (k.expires c chunk number h.1) p
  ticks_calm c (SentRead chunk left number) h p = ticks_unanswered_calm c (λ e. forgets e c chunk) (dropped c chunk) (λ _. h.1) p

  pub begun_calm : StandsNow s X H D M F E Z None None s.current → IsCalm s X H D M F E Z (client_begins s)
  begun_calm h = record { kept = (refl, refl); sizes = inr (λ file. refl); silent = λ m is. none_some m is; asks = λ m is. none_some m is; stands = h }

  pub does_leave : (i : NodeInput) (o : Option CurrentCall) → s.current ≡ o → IsCameIn Came i → StandsNow s X H D M F E Z None None o → Calm d0 → Left (client_does (client_begins s) i o)
  does_leave i None now came h p = inl p
  does_leave (input.Deliver m) (Some c) now came h p = takes_at_calm c m c.stage refl now came h.1 p
  does_leave input.Tick (Some c) now came h p = inl (ticks_calm c c.stage h.1 p)

  -- calls

  module _ (Asked : Call → Type 0) (filed : (c : Call) (file index : ℕ) (last : Option ℕ) → is_name_call c ≡ false → table.get s.descriptors (fd_of c) ≡ Some file → Asked c → IsFirst (file_chunk s file) c index → H (new_call s.config.attempts 0 c file index last)) (named : (c : Call) → is_name_call c ≡ true → Asked c → H (new_call s.config.attempts (suc s.call_count) c 0 0 None))
      (at_once : (reply : Answer) → E reply) where
    file_calm : (c : Call) (file : ℕ) → is_name_call c ≡ false → table.get s.descriptors (fd_of c) ≡ Some file → Asked c → Calm d0 → Calm (calls_file (client_begins s) c file)
    file_calm (call.Close fd) file plain at asks p = replied (closed s fd file) answer.Done (refl, refl, refl) (at_once answer.Done)
    file_calm (call.Length fd) file plain at asks p = attempts_calm d0 (new_call s.config.attempts 0 (call.Length fd) file 0 None) ready (filed (call.Length fd) file 0 None plain at asks tt)
    file_calm (call.Write fd offset bytes) file plain at asks p =
        let c : CurrentCall = new_call s.config.attempts 0 (call.Write fd offset bytes) file (offset / file_chunk s file) None in
        on_cond Calm (is_range_too_long offset (length bytes)) _ _ (λ _. replied d0 (answer.Refused TooLong) (refl, refl, refl) (at_once (answer.Refused TooLong)))
        (λ _. on_cond Calm (length bytes == 0) _ (attempts d0 c) (λ _. replied d0 answer.Done (refl, refl, refl) (at_once answer.Done)) (λ _. attempts_calm d0 c ready (filed (call.Write fd offset bytes) file (offset / file_chunk s file) None plain at asks refl)))
    file_calm (call.Append fd bytes) file plain at asks p =
        let c : CurrentCall = new_call s.config.attempts 0 (call.Append fd bytes) file 0 (last_append s.files file) in
        on_cond Calm (nat_lt (file_chunk s file / 4) (length bytes)) _ (attempts (noted d0 file None) c) (λ _. replied d0 (answer.Refused TooLong) (refl, refl, refl) (at_once (answer.Refused TooLong)))
        (λ _. attempts_calm (noted d0 file None) c (noted_ready file None) (filed (call.Append fd bytes) file 0 (last_append s.files file) plain at asks refl))
    file_calm (call.Read fd offset count) file plain at asks p =
        let c : CurrentCall = new_call s.config.attempts 0 (call.Read fd offset count) file (offset / file_chunk s file) None in
        on_cond Calm (is_range_too_long offset count) _ _ (λ _. replied d0 (answer.Refused TooLong) (refl, refl, refl) (at_once (answer.Refused TooLong)))
        (λ _. on_cond Calm (count == 0) _ (attempts d0 c) (λ _. replied d0 (answer.Bytes [] []) (refl, refl, refl) (at_once (answer.Bytes [] []))) (λ _. attempts_calm d0 c ready (filed (call.Read fd offset count) file (offset / file_chunk s file) None plain at asks tt)))
    file_calm other file plain at asks p = p

    calls_on_calm : (c : Call) (o : Option ℕ) → is_name_call c ≡ false → table.get s.descriptors (fd_of c) ≡ o → Asked c → Calm d0 → Calm (calls_on (client_begins s) c o)
    calls_on_calm c None plain at asks p = replied d0 (answer.Refused BadFd) (refl, refl, refl) (at_once (answer.Refused BadFd))
    calls_on_calm c (Some file) plain at asks p = file_calm c file plain at asks p

    plain_name : (c : Call) → is_name_call c ≡ true → is_mutation c ≡ false
    plain_name (call.Write fd offset bytes) is = absurd (true≢false (sym is))
    plain_name (call.Append fd bytes) is = absurd (true≢false (sym is))
    plain_name other is = refl

    pub call_calm : (c : Call) → Asked c → Calm d0 → Calm (calls (client_begins s) c)
    call_calm c asks p =
        on_cond Calm (is_name_call c) (calls_names d0 c) (calls_on d0 c (table.get s.descriptors (fd_of c)))
        (λ name. naming_calm (once_more s) (new_call s.config.attempts (suc s.call_count) c 0 0 None) ready (plain_name c name) (named c name asks)) (λ plain. calls_on_calm c (table.get s.descriptors (fd_of c)) plain refl asks p)

    pub at_once_calm : (reply : Answer) → Calm (answers (client_begins s) reply)
    at_once_calm reply = replied d0 reply (refl, refl, refl) (at_once reply)
