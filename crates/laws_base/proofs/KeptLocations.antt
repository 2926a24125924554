-- The locations that a client keeps and uses were told to it, and since then it opened their file no more, or will not use them.
use Rattle.std.proofs.Common.{◌≡◌, ◌⊎◌, ℕ, suc, ◌+◌, ◌-◌, ◌≤◌, ◌<◌, Bool, true, false, cond, List, [], ◌∷◌, Option, Some, None, refl, sym, ap, subst, ◌∙◌, inl, inr, arith}
use Rattle.std.specs.Prelude.{◌==◌, nat_lt, IsTrue}
use Rattle.std.specs.Option.{option_to_list}
use Rattle.std.specs.Map.{lookup}
use Rattle.std.proofs.Math.Nat.{le-max_left}
use Rattle.std.specs.FinMap as table
use Rattle.std.proofs.lemmas.Bool.{and_parts, eqb-true, ltb-true}
use Rattle.gfs_types.specs.declared.config.Config.{Config}
use Rattle.gfs_types.specs.declared.shape.Shape.{Shape}
use Rattle.gfs_types.specs.declared.ids.FileId.{FileId}
use Rattle.gfs_types.specs.declared.ids.Moment.{Moment}
use Rattle.gfs_types.specs.declared.call.Call.{Call}
use Rattle.gfs_types.specs.declared.answer.Answer.{Answer}
use Rattle.gfs_types.specs.declared.answer.Answer.TheVariants as answer
use Rattle.gfs_types.specs.declared.refusal.Refusal.TheVariants.{NoMemory}
use Rattle.messages.specs.declared.message.Body.{Body}
use Rattle.messages.specs.declared.message.Body.TheVariants as body
use Rattle.messages.specs.declared.message.Holder.{Holder}
use Rattle.messages.specs.declared.message.Message.{Message}
use Rattle.messages.specs.declared.message.Location.{Location}
use Rattle.messages.specs.declared.event.NodeInput.{NodeInput}
use Rattle.client_state.specs.declared.kept.Place.{Place}
use Rattle.client_state.specs.declared.kept.Cached.{Cached}
use Rattle.client_state.specs.declared.kept.OpenFile.{OpenFile}
use Rattle.client_state.specs.declared.call.CurrentCall.{CurrentCall}
use Rattle.client_state.specs.declared.call.ToldChunk.{ToldChunk}
use Rattle.client_state.specs.declared.call.Stage.{Stage}
use Rattle.client_state.specs.declared.call.Stage.TheVariants.{AskedNames, AskedWhere, MustAskAgain, SentData, SentMutate, SentRead, IsOver, HasAnswer}
use Rattle.protocol.specs.Tables.{Table}
use Rattle.relaxed_file.specs.NameStep.{is_look}
use Rattle.protocol.specs.Sending.{moment_of, data_id}
use Rattle.protocol.specs.PushBuffer.{hops_after}
use Rattle.protocol.specs.Client.{ClientState, ClientDoing, client_begins, committed, with_current, answers, file_chunk}
use Rattle.protocol.specs.ClientCache.{is_new_enough, is_same_place, last_opened, last_opened_of, is_fresh, fresh_one, cached}
use Rattle.protocol.specs.ClientFiles.{opened_again}
use Rattle.protocol.specs.ClientAttempts.{is_length, bytes_to_send, read_start, read_count, wanted_by, target_of, read_planned, again_planned, push_planned_to, mutate_planned, chunk_of, name_planned, asks}
use Rattle.protocol.specs.ClientTakes.{opens}
use Rattle.protocol.specs.ClientStep.{fd_of, client_does, calls, client_at}
use Rattle.laws_base.proofs.Steps.{on_cond, none_some, same_some, same_or_not, put_there, put_other}
use Rattle.laws_base.proofs.Entries.{AllOf}
use Rattle.laws_base.proofs.ServerMoves.{IsCameIn}
use Rattle.laws_base.proofs.ClientWalk.{IsIdle, HoldsAt, KeepsClient, KeepsCalls, step_kept, call_kept, closed, heard_at, is_told_of, told_at, noted, place_at, attempt_end}
use Rattle.laws_base.proofs.Caches.{found, after_look, after_drop, after_put}
use Rattle.laws_base.specs.Locations.{chunk_used, BeganInTime, goes_by_location, NamesChunk}
use Rattle.laws_base.proofs.OpenFiles.{AreOpen, none_open, open_again, last_is, close_one, note_append, AreOpenSince, closed_since, noted_since, HasRow, noted_there}

-- the file was opened after this descriptor of it, so that what was told under it is found no more
abbrev pub IsOvertaken : Table OpenFile → ℕ → ℕ → Type 0
IsOvertaken files file fd = (f : OpenFile) → table.get files file ≡ Some f → fd < f.last_opened.0

-- T: the location of a chunk of this file was told at this moment, and the file wasn't opened since
abbrev pub IsKeptRight : (ℕ → Location → ℕ → Type 0) → Table OpenFile → ℕ → Place × Cached → Type 0
IsKeptRight T files count e = (e.1.opened.0 ≤ count) × (T e.0.file e.1.location e.1.told.0 ⊎ IsOvertaken files e.0.file e.1.opened.0)

-- the call goes by a location of this chunk, that was told when it says
abbrev pub IsUsed : (ℕ → Location → ℕ → Type 0) → Config → CurrentCall → ToldChunk → Type 0
IsUsed T config c chunk = (l : Location) × (chunk_of l ≡ chunk) × BeganInTime config c.deadline.0 c.told.0 × T c.file.0 l c.told.0

-- what was told at that moment is told just now, or may still be used
abbrev pub IsInTime : Config → (now told : ℕ) → Type 0
IsInTime config now told = (now ≡ told) ⊎ (now < told + config.cache_ms)

-- a client that is left so sends this by a location in time
abbrev pub GoesBy : (ℕ → Location → ℕ → Type 0) → Config → ClientState → Body → Type 0
GoesBy T config t b = (c : CurrentCall) × (l : Location) × (t.current ≡ Some c) × (chunk_used c.stage ≡ Some (chunk_of l)) × NamesChunk (chunk_of l) b × IsInTime config t.now c.told.0 × T c.file.0 l c.told.0

abbrev pub SaysInTime : (ℕ → Location → ℕ → Type 0) → Config → ClientState → Option Message → Type 0
SaysInTime T config t None = Unit {0}
SaysInTime T config t (Some m) = IsTrue (goes_by_location m.body) → GoesBy T config t m.body

-- a call on a file that is open, in an attempt that has begun
abbrev pub IsFiled : ClientState → CurrentCall → Type 0
IsFiled s c = HasRow s.files c.file.0 × (c.deadline.0 ≤ s.now + s.config.attempt_ms)

-- what holds of the call in hand at its stage
abbrev pub IsFiledAtStage : (ℕ → Location → ℕ → Type 0) → Config → ClientState → CurrentCall → Stage → Type 0
IsFiledAtStage T config s c AskedNames = Unit {0}
IsFiledAtStage T config s c (SentData chunk primary number) = IsFiled s c × IsUsed T config c chunk
IsFiledAtStage T config s c (SentMutate chunk number) = IsFiled s c × IsUsed T config c chunk
IsFiledAtStage T config s c (SentRead chunk left number) = IsFiled s c × IsUsed T config c chunk
IsFiledAtStage T config s c other = IsFiled s c

pub record Keeps (T : ℕ → Location → ℕ → Type 0) (config : Config) (s : ClientState) : Type 0 where
  pub settings : s.config ≡ config
  pub are_open : AreOpen s.files s.descriptors s.fd_count
  pub cache : AllOf (IsKeptRight T s.files s.fd_count) s.cache.entries
  pub stands : (c : CurrentCall) → s.current ≡ Some c → IsFiledAtStage T config s c c.stage

-- the chunk that is used, by the stage
pub used_at : (T : ℕ → Location → ℕ → Type 0) (config : Config) (s : ClientState) (c : CurrentCall) (chunk : ToldChunk) (st : Stage) → IsFiledAtStage T config s c st → chunk_used st ≡ Some chunk → IsUsed T config c chunk
used_at T config s c chunk (SentData x primary number) h is = subst (λ (y : ToldChunk). IsUsed T config c y) (same_some x chunk is) h.1
used_at T config s c chunk (SentMutate x number) h is = subst (λ (y : ToldChunk). IsUsed T config c y) (same_some x chunk is) h.1
used_at T config s c chunk (SentRead x left number) h is = subst (λ (y : ToldChunk). IsUsed T config c y) (same_some x chunk is) h.1
used_at T config s c chunk AskedNames h is = none_some chunk is
used_at T config s c chunk (AskedWhere number) h is = none_some chunk is
used_at T config s c chunk MustAskAgain h is = none_some chunk is
used_at T config s c chunk IsOver h is = none_some chunk is
used_at T config s c chunk (HasAnswer reply) h is = none_some chunk is

idle_stands : (T : ℕ → Location → ℕ → Type 0) (config : Config) (s : ClientState) (c : CurrentCall) (st : Stage) → IsIdle st → IsFiled s c → IsFiledAtStage T config s c st
idle_stands T config s c (HasAnswer reply) is h = h
idle_stands T config s c MustAskAgain is h = h
idle_stands T config s c IsOver is h = h
idle_stands T config s c AskedNames is h = absurd is
idle_stands T config s c (AskedWhere number) is h = absurd is
idle_stands T config s c (SentData chunk primary number) is h = absurd is
idle_stands T config s c (SentMutate chunk number) is h = absurd is
idle_stands T config s c (SentRead chunk left number) is h = absurd is

-- one that has nothing
pub nothing_kept : (T : ℕ → Location → ℕ → Type 0) (config : Config) (s : ClientState) → s.config ≡ config → s.files ≡ table.empty → s.descriptors ≡ table.empty → s.fd_count ≡ 0 → s.cache.entries ≡ [] → s.current ≡ None → Keeps T config s
nothing_kept T config s settings files descriptors count cache current =
    record {
      settings = settings;
      are_open = subst (λ (x : Table OpenFile). AreOpen x s.descriptors s.fd_count) (sym files) (subst (λ (x : Table ℕ). AreOpen table.empty x s.fd_count) (sym descriptors) (subst (λ (n : ℕ). AreOpen table.empty table.empty n) (sym count) none_open));
      cache = subst (λ (es : List (Place × Cached)). AllOf (IsKeptRight T s.files s.fd_count) es) (sym cache) tt;
      stands = λ c is. none_some c (sym current ∙ is);
    }

all_on : (P Q : Place × Cached → Type 0) → ((e : Place × Cached) → P e → Q e) → (es : List (Place × Cached)) → AllOf P es → AllOf Q es
all_on P Q go [] h = tt
all_on P Q go (e ∷ es) h = (go e h.0, all_on P Q go es h.1)

-- what was told before was told
module _ (T U : ℕ → Location → ℕ → Type 0) (config : Config) (go : (file : ℕ) (l : Location) (clock : ℕ) → T file l clock → U file l clock) where
  used_on : (c : CurrentCall) (chunk : ToldChunk) → IsUsed T config c chunk → IsUsed U config c chunk
  used_on c chunk h = (h.0, h.1, h.2, go c.file.0 h.0 c.told.0 h.3)

  stands_on : (s : ClientState) (c : CurrentCall) (st : Stage) → IsFiledAtStage T config s c st → IsFiledAtStage U config s c st
  stands_on s c AskedNames h = tt
  stands_on s c (SentData chunk primary number) h = (h.0, used_on c chunk h.1)
  stands_on s c (SentMutate chunk number) h = (h.0, used_on c chunk h.1)
  stands_on s c (SentRead chunk left number) h = (h.0, used_on c chunk h.1)
  stands_on s c (AskedWhere number) h = h
  stands_on s c MustAskAgain h = h
  stands_on s c IsOver h = h
  stands_on s c (HasAnswer reply) h = h

  right_on : (files : Table OpenFile) (count : ℕ) (e : Place × Cached) → IsKeptRight T files count e → IsKeptRight U files count e
  right_on files count e h = (h.0, elim (h.1) [ inl told ↦ inl (go e.0.file e.1.location e.1.told.0 told) | inr gone ↦ inr gone ])

  goes_on : (t : ClientState) (b : Body) → GoesBy T config t b → GoesBy U config t b
  goes_on t b g = (g.0, g.1, g.2, g.3, g.4, g.5, go (g.0).file.0 g.1 (g.0).told.0 g.6)

  pub says_on : (t : ClientState) (o : Option Message) → SaysInTime T config t o → AllOf (λ m. IsTrue (goes_by_location m.body) → GoesBy U config t m.body) (option_to_list o)
  says_on t None h = tt
  says_on t (Some m) h = (λ it. goes_on t m.body (h it), tt)

  pub keeps_on : (s : ClientState) → Keeps T config s → Keeps U config s
  keeps_on s h =
      record {
        settings = h.settings;
        are_open = h.are_open;
        cache = all_on (IsKeptRight T s.files s.fd_count) (IsKeptRight U s.files s.fd_count) (right_on s.files s.fd_count) s.cache.entries h.cache;
        stands = λ c is. stands_on s c c.stage (h.stands c is);
      }

-- a later moment
module _ (T : ℕ → Location → ℕ → Type 0) (config : Config) (s : ClientState) (moment : ℕ) where
  filed_later : (c : CurrentCall) → IsFiled s c → IsFiled (client_at s moment) c
  filed_later c h = let grows = le-max_left s.now moment in let ends = h.1 in (h.0, omega (arith, ends, grows))

  stands_later : (c : CurrentCall) (st : Stage) → IsFiledAtStage T config s c st → IsFiledAtStage T config (client_at s moment) c st
  stands_later c AskedNames h = tt
  stands_later c (SentData chunk primary number) h = (filed_later c h.0, h.1)
  stands_later c (SentMutate chunk number) h = (filed_later c h.0, h.1)
  stands_later c (SentRead chunk left number) h = (filed_later c h.0, h.1)
  stands_later c (AskedWhere number) h = filed_later c h
  stands_later c MustAskAgain h = filed_later c h
  stands_later c IsOver h = filed_later c h
  stands_later c (HasAnswer reply) h = filed_later c h

  pub keeps_later : Keeps T config s → Keeps T config (client_at s moment)
  keeps_later h = record { settings = h.settings; are_open = h.are_open; cache = h.cache; stands = λ c is. stands_later c c.stage (h.stands c is) }

-- a file is opened: what was told of it before is found no more
pub keeps_opened : (T U : ℕ → Location → ℕ → Type 0) (config : Config) (s : ClientState) (file : ℕ) (shape : Shape) → ((other : ℕ) (l : Location) (clock : ℕ) → (other ≡ file → ⊥) → T other l clock → U other l clock) → Keeps T config s → Keeps U config (opens (client_begins s) file shape).client
keeps_opened T U config s file shape go h =
    record {
      settings = h.settings;
      are_open = open_again s.files s.descriptors s.fd_count h.are_open file shape;
      cache = all_on (IsKeptRight T s.files s.fd_count) (IsKeptRight U t.files t.fd_count) right s.cache.entries h.cache;
      stands = λ c is. none_some c is;
    }
  where
    t : ClientState
    t = (opens (client_begins s) file shape).client

    new : OpenFile
    new = opened_again (table.get s.files file) shape (suc s.fd_count)

    more : (n : ℕ) → n ≤ s.fd_count → n ≤ suc s.fd_count
    more n few = omega (arith, few)

    right : (e : Place × Cached) → IsKeptRight T s.files s.fd_count e → IsKeptRight U t.files t.fd_count e
    right e x =
        elim (same_or_not e.0.file file) [
          | inl same ↦ (
            more e.1.opened.0 x.0,
            inr (λ f is.
                let one : new ≡ f = same_some new f (sym (put_there s.files file new e.0.file same) ∙ is) in
                let last : f.last_opened.0 ≡ suc s.fd_count = sym (ap (λ (y : OpenFile). y.last_opened.0) one) ∙ last_is s.files s.descriptors s.fd_count h.are_open (table.get s.files file) shape (suc s.fd_count) in
                let few = x.0 in omega (arith, few, last)),
          )
          | inr apart ↦ (
            more e.1.opened.0 x.0,
            elim (x.1) [
              | inl told ↦ inl (go e.0.file e.1.location e.1.told.0 apart told)
              | inr gone ↦ inr (λ f is. gone f (sym (put_other s.files file new e.0.file apart) ∙ is))
            ],
          )
        ]

-- A client s that takes a step: what it was told before or is told now.
module _ (T : ℕ → Location → ℕ → Type 0) (config : Config) (s : ClientState) (Came : Body → Type 0)
    (told : (c : CurrentCall) (number : ℕ) (l : Location) → s.current ≡ Some c → c.stage ≡ AskedWhere number → Came (body.Told number (Some l)) → T c.file.0 l s.now) (keeps : Keeps T config s) where
  abbrev Hand : ClientDoing → Type 0
  Hand d =
      (d.client.config ≡ s.config) × (d.client.now ≡ s.now) × (d.client.fd_count ≡ s.fd_count) × AreOpen d.client.files d.client.descriptors d.client.fd_count
      × AllOf (IsKeptRight T d.client.files d.client.fd_count) d.client.cache.entries

  -- nothing was sent yet
  abbrev Named : ClientDoing → CurrentCall → Type 0
  Named d c = Hand d × (d.sent ≡ None)

  abbrev Filed : ClientDoing → CurrentCall → Type 0
  Filed d c = Hand d × IsFiled d.client c × (d.sent ≡ None)

  abbrev Used : ClientDoing → CurrentCall → Location → Type 0
  Used d c l = BeganInTime config c.deadline.0 c.told.0 × T c.file.0 l c.told.0 × IsInTime config d.client.now c.told.0

  abbrev Left : ClientDoing → CurrentCall → ToldChunk → List Holder → Type 0
  Left d c chunk left = IsUsed T config c chunk × IsInTime config d.client.now c.told.0

  -- as it was but for the call, or a file was opened
  abbrev pub After : ClientDoing → Type 0
  After d = (Keeps T config d.client × (d.client.fd_count ≡ s.fd_count) × SaysInTime T config d.client d.sent) ⊎ ((file : ℕ) × (shape : Shape) × (d.client ≡ (opens (client_begins s) file shape).client) × (d.sent ≡ None))

  silent : (d : ClientDoing) → d.sent ≡ None → SaysInTime T config d.client d.sent
  silent d none = subst (λ (o : Option Message). SaysInTime T config d.client o) (sym none) tt

  by_none : (t : ClientState) (b : Body) → goes_by_location b ≡ false → IsTrue (goes_by_location b) → GoesBy T config t b
  by_none t b none it = absurd (let both : false ≡ true = sym none ∙ it in cc)

  rests : (d : ClientDoing) → Hand d → ((c : CurrentCall) → d.client.current ≡ Some c → IsFiledAtStage T config d.client c c.stage) → SaysInTime T config d.client d.sent → After d
  rests d h stands says = inl (record { settings = h.0 ∙ keeps.settings; are_open = h.3; cache = h.4; stands = stands }, h.2, says)

  sets : (d : ClientDoing) (e : CurrentCall) → d.client.current ≡ Some e → Hand d → IsFiledAtStage T config d.client e e.stage → SaysInTime T config d.client d.sent → After d
  sets d e is h stands says = rests d h (λ c at. subst (λ (x : CurrentCall). IsFiledAtStage T config d.client x x.stage) (same_some e c (sym is ∙ at)) stands) says

  answered : (d : ClientDoing) (reply : Answer) → Hand d → d.sent ≡ None → After (answers d reply)
  answered d reply h none = rests (answers d reply) h (λ c is. none_some c is) (silent (answers d reply) none)

  -- one that was told so long ago may be used
  in_time : (told : ℕ) → is_new_enough s told ≡ true → IsInTime config s.now told
  in_time told test = inr (let recent = ltb-true (s.now - told) s.config.cache_ms test in let cache = ap (λ (x : Config). x.cache_ms) keeps.settings in omega (arith, recent, cache))

  goes_by : (t : ClientState) (c : CurrentCall) (chunk : ToldChunk) (b : Body) → t.current ≡ Some c → chunk_used c.stage ≡ Some chunk → NamesChunk chunk b → IsInTime config t.now c.told.0 → IsUsed T config c chunk → GoesBy T config t b
  goes_by t c chunk b is stage names recent used =
      (c, used.0, is, stage ∙ ap (λ (x : ToldChunk). Some x) (sym used.1), subst (λ (x : ToldChunk). NamesChunk x b) (sym used.1) names, recent, used.3)

  filed_same : (t : ClientState) (c e : CurrentCall) → e.file ≡ c.file → e.deadline ≡ c.deadline → IsFiled t c → IsFiled t e
  filed_same t c e file deadline h =
      (subst (λ (f : FileId). HasRow t.files f.0) (sym file) h.0, subst (λ (m : Moment). m.0 ≤ t.now + t.config.attempt_ms) (sym deadline) h.1)

  filed_begun : (t : ClientState) (c e : CurrentCall) → e.file ≡ c.file → e.deadline ≡ attempt_end t → IsFiled t c → IsFiled t e
  filed_begun t c e file deadline h =
      (subst (λ (f : FileId). HasRow t.files f.0) (sym file) h.0, subst (λ (m : Moment). m.0 ≤ t.now + t.config.attempt_ms) (sym deadline) (omega arith))

  -- rows that last were opened as before
  right_since : (old new : Table OpenFile) (count : ℕ) → AreOpenSince old new → (e : Place × Cached) → IsKeptRight T old count e → IsKeptRight T new count e
  right_since old new count since e h =
      (h.0, elim (h.1) [ inl told ↦ inl told | inr gone ↦ inr (λ f is. let before = since e.0.file f is in let later = gone before.0 before.1 in let last = before.2 in omega (arith, later, last)) ])

  noted_hand : (d : ClientDoing) (file : ℕ) (index : Option ℕ) → Hand d → Hand (noted d file index)
  noted_hand d file index h = (
    h.0,
    h.1,
    h.2,
    note_append d.client.files d.client.descriptors d.client.fd_count h.3 file index,
    all_on (IsKeptRight T d.client.files d.client.fd_count) (IsKeptRight T (noted d file index).client.files d.client.fd_count)
        (right_since d.client.files (noted d file index).client.files d.client.fd_count (noted_since d.client.files file index)) d.client.cache.entries h.4,
  )

  -- a location that is found in the cache
  found_used : (d : ClientDoing) (c : CurrentCall) (index : ℕ) (e : Cached) → c.deadline ≡ attempt_end d.client → cached d.client (place_at c index) ≡ Some e → Filed d c → Used d (told_at c e) e.location
  found_used d c index e begun is h = fresh (lookup (is_same_place (place_at c index)) d.client.cache.entries) refl is
    where
      row : HasRow d.client.files c.file.0
      row = (h.1).0

      last : last_opened d.client c.file.0 ≡ (row.0).last_opened.0
      last = ap last_opened_of row.1

      ends : c.deadline.0 ≡ d.client.now + d.client.config.attempt_ms
      ends = ap (λ (m : Moment). m.0) begun

      attempt : d.client.config.attempt_ms ≡ config.attempt_ms
      attempt = ap (λ (x : Config). x.attempt_ms) ((h.0).0 ∙ keeps.settings)

      cache : d.client.config.cache_ms ≡ config.cache_ms
      cache = ap (λ (x : Config). x.cache_ms) ((h.0).0 ∙ keeps.settings)

      told_of : (one : Cached) (p : Place) → c.file.0 ≡ p.file → IsKeptRight T d.client.files d.client.fd_count (p, one) → one.opened.0 ≡ last_opened d.client c.file.0 → T c.file.0 one.location one.told.0
      told_of one p same right opened =
          elim (right.1) [
            | inl told ↦ subst (λ (n : ℕ). T n one.location one.told.0) (sym same) told
            | inr gone ↦ let later = gone row.0 (ap (λ (n : ℕ). table.get d.client.files n) (sym same) ∙ row.1) in absurd (omega (arith, later, opened, last))
          ]

      used_one : (one : Cached) → lookup (is_same_place (place_at c index)) d.client.cache.entries ≡ Some one → is_fresh d.client c.file.0 one ≡ true → Used d (told_at c one) one.location
      used_one one at test =
          let there = found (IsKeptRight T d.client.files d.client.fd_count) (is_same_place (place_at c index)) d.client.cache.entries one at (h.0).4 in
          let same = and_parts (c.file.0 == (there.0).file) (index == (there.0).index) there.1 in
          let parts = and_parts (one.opened.0 == last_opened d.client c.file.0) (is_new_enough d.client one.told.0) test in
          let recent = ltb-true (d.client.now - one.told.0) d.client.config.cache_ms parts.1 in
          (inr (omega (arith, recent, ends, attempt, cache)), told_of one there.0 (eqb-true c.file.0 (there.0).file same.0) there.2 (eqb-true one.opened.0 (last_opened d.client c.file.0) parts.0), inr (omega (arith, recent, cache)))

      by_test : (one : Cached) (b : Bool) → is_fresh d.client c.file.0 one ≡ b → lookup (is_same_place (place_at c index)) d.client.cache.entries ≡ Some one → cond b (Some one) None ≡ Some e → Used d (told_at c e) e.location
      by_test one true test at g = subst (λ (x : Cached). Used d (told_at c x) x.location) (same_some one e g) (used_one one at test)
      by_test one false test at g = none_some e g

      fresh : (o : Option Cached) → lookup (is_same_place (place_at c index)) d.client.cache.entries ≡ o → fresh_one d.client c.file.0 o ≡ Some e → Used d (told_at c e) e.location
      fresh None at g = none_some e g
      fresh (Some one) at g = by_test one (is_fresh d.client c.file.0 one) refl at g

  -- a location that is told now
  heard : (c : CurrentCall) (l : Location) → T c.file.0 l s.now → Filed (client_begins s) c → Filed (heard_at (client_begins s) c l) (is_told_of (client_begins s) c) × Used (heard_at (client_begins s) c l) (is_told_of (client_begins s) c) l
  heard c l now h = (
    (((h.0).0, (h.0).1, (h.0).2, (h.0).3, after_put (IsKeptRight T s.files s.fd_count) s.cache (place_at c l.index) one (λ q same. right q (eqb-true c.file.0 q.file (and_parts (c.file.0 == q.file) (l.index == q.index) same).0)) (right (place_at c l.index) refl) (h.0).4), filed_same s c (is_told_of (client_begins s) c) refl refl h.1, h.2),
    (inl (let ends = (h.1).1 in let same = ap (λ (x : Config). x.attempt_ms) keeps.settings in omega (arith, ends, same)), now, inl refl),
  )
    where
      one : Cached
      one = record { location = l; told = moment_of s.now; opened = record { 0 = last_opened s c.file.0 } }

      few : last_opened s c.file.0 ≤ s.fd_count
      few = let row = (h.1).0 in let most = (keeps.are_open.rows c.file.0 row.0 row.1).0 in let last : last_opened s c.file.0 ≡ (row.0).last_opened.0 = ap last_opened_of row.1 in omega (arith, most, last)

      right : (q : Place) → c.file.0 ≡ q.file → IsKeptRight T s.files s.fd_count (q, one)
      right q same = (few, inl (subst (λ (n : ℕ). T n l s.now) same now))

  kept : KeepsClient s Came Named Filed Used Left After
  kept =
      record {
        changes = λ d c e same h. (h.0, filed_same d.client c e same.2 same.3 h.1, h.2);
        name_changes = λ d c e same h. h;
        begins = λ d c e same end h. (h.0, filed_begun d.client c e same.2 end h.1, h.2);
        drops = λ d c chunk h.
            (((h.0).0, (h.0).1, (h.0).2, (h.0).3, after_drop (IsKeptRight T d.client.files d.client.fd_count) d.client.cache (record { file = c.file.0; index = chunk.index }) (h.0).4), h.1, h.2);
        notes = λ d c index h. (noted_hand d c.file.0 index h.0, (noted_there d.client.files c.file.0 index (h.1).0, (h.1).1), h.2);
        looks = λ d c index h. (((h.0).0, (h.0).1, (h.0).2, (h.0).3, after_look (IsKeptRight T d.client.files d.client.fd_count) d.client (place_at c index) (h.0).4), h.1, h.2);
        finds = λ d c index e end is h. found_used d c index e end is h;
        hears = λ c number l now at came h. heard c l (told c number l now at came) h;
        holders = λ d c l used. ((l, refl, used.0, used.1), used.2);
        left = λ c chunk rest number now at fresh h. ((subst (λ (st : Stage). IsFiledAtStage T config s c st) at (keeps.stands c now)).1, in_time c.told.0 fresh);
        answered = λ d c reply h. answered d reply h.0 h.2;
        name_answered = λ d c reply h. answered d reply h.0 h.1;
        opened = λ c number file shape now at came h. inr (file.0, shape, refl, refl);
        waits = λ d c idle h. sets (with_current d c) c refl h.0 (idle_stands T config d.client c c.stage idle h.1) (silent (with_current d c) h.2);
        waits_again = λ d c h. sets (committed d c (again_planned d.client)) (record c { stage = MustAskAgain }) refl h.0 h.1 tt;
        asking = λ d c h. sets (asks d c) (record c { lost_lease = false; stage = AskedWhere (suc d.client.number) }) refl h.0 h.1 (by_none (asks d c).client (body.Ask (suc d.client.number) c.file (wanted_by c.index c.asked) c.deadline c.lost_lease) refl);
        reads = λ d c chunk x rest used h. read_now d c chunk x rest used h;
        pushes = λ d c l g first is hop used h.
            let e : CurrentCall = record c { stage = SentData (chunk_of l) g.primary (suc d.client.number) } in
            let after : ClientDoing = committed d c (push_planned_to d.client c (chunk_of l) g (Some first)) in
            let pushed : Body = body.Push (data_id d.client.id (suc d.client.number)) (bytes_to_send (file_chunk d.client c.file.0) c.index c.asked) (hops_after g.members first.0) in
            sets after e refl h.0 (h.1, (l, refl, used.0, used.1)) (λ it. goes_by after.client e (chunk_of l) pushed refl refl tt used.2 (l, refl, used.0, used.1));
        mutates = λ c chunk primary number now at fresh h.
            let e : CurrentCall = record c { stage = SentMutate chunk number } in
            let after : ClientDoing = committed (client_begins s) c (mutate_planned s c chunk primary number) in
            let asked : Body = body.Mutate (data_id s.id number) chunk.handle chunk.round (target_of (file_chunk s c.file.0) c.index c.asked) c.deadline in
            let used : IsUsed T config c chunk = (subst (λ (st : Stage). IsFiledAtStage T config s c st) at (keeps.stands c now)).1 in
            sets after e refl h.0 (h.1, used) (λ it. goes_by after.client e chunk asked refl refl (refl, refl) (in_time c.told.0 fresh) used);
        naming = λ d c end h.
            let after : ClientDoing = committed d c (name_planned d.client c) in
            sets after (record c { stage = AskedNames }) refl h.0 tt
            (on_cond (λ (b : Body). IsTrue (goes_by_location b) → GoesBy T config after.client b) (is_look c.asked) (body.Look c.number c.asked) (body.Name c.number c.deadline c.asked)
            (λ _. by_none after.client (body.Look c.number c.asked) refl) (λ _. by_none after.client (body.Name c.number c.deadline c.asked) refl));
      }
    where
      -- a server is asked to read, or for a length
      read_now : (d : ClientDoing) (c : CurrentCall) (chunk : ToldChunk) (x : Holder) (rest : List Holder) → Left d c chunk (x ∷ rest) → Filed d c → After (committed d c (read_planned d.client c chunk x rest))
      read_now d c chunk x rest used h =
          let e : CurrentCall = record c { stage = SentRead chunk rest (suc d.client.number) } in
          let after : ClientDoing = committed d c (read_planned d.client c chunk x rest) in
          let len : Body = body.Len (suc d.client.number) chunk.handle x.version in
          let read : Body = body.Read (suc d.client.number) chunk.handle x.version (read_start (file_chunk d.client c.file.0) c.index c.asked) (read_count (file_chunk d.client c.file.0) c.index c.asked) in
          sets after e refl h.0 (h.1, used.0)
          (on_cond (λ (b : Body). IsTrue (goes_by_location b) → GoesBy T config after.client b) (is_length c.asked) len read
          (λ _ it. goes_by after.client e chunk len refl refl refl used.1 used.0) (λ _ it. goes_by after.client e chunk read refl refl refl used.1 used.0))

  hand : Hand (client_begins s)
  hand = (refl, refl, refl, keeps.are_open, keeps.cache)

  at_stage : (c : CurrentCall) (st : Stage) → IsFiledAtStage T config s c st → HoldsAt s Named Filed c st
  at_stage c AskedNames h = (hand, refl)
  at_stage c (SentData chunk primary number) h = (hand, h.0, refl)
  at_stage c (SentMutate chunk number) h = (hand, h.0, refl)
  at_stage c (SentRead chunk left number) h = (hand, h.0, refl)
  at_stage c (AskedWhere number) h = (hand, h, refl)
  at_stage c MustAskAgain h = (hand, h, refl)
  at_stage c IsOver h = (hand, h, refl)
  at_stage c (HasAnswer reply) h = (hand, h, refl)

  begun : After (client_begins s)
  begun = rests (client_begins s) hand keeps.stands tt

  calls_kept : KeepsCalls s Named Filed After
  calls_kept =
      record {
        replies = λ reply. answered (client_begins s) reply hand refl;
        closes = λ fd file is. answered (closed s fd file) answer.Done (
          refl,
          refl,
          refl,
          close_one s.files s.descriptors s.fd_count keeps.are_open fd.0 file is,
          all_on (IsKeptRight T s.files s.fd_count) (IsKeptRight T (closed s fd file).client.files s.fd_count) (right_since s.files (closed s fd file).client.files s.fd_count (closed_since s.files file)) s.cache.entries keeps.cache,
        ) refl;
        named = λ c. (hand, refl);
        filed = λ c file index last is. (hand, (keeps.are_open.filed (fd_of c) file is, omega arith), refl);
      }

  pub steps_here : (i : NodeInput) → IsCameIn Came i → After (client_does (client_begins s) i s.current)
  steps_here i came = step_kept s Came Named Filed Used Left After kept i s.current refl came (λ c is. at_stage c c.stage (keeps.stands c is)) begun

  pub calls_here : (c : Call) → After (calls (client_begins s) c)
  calls_here c = call_kept s Came Named Filed Used Left After kept calls_kept c begun

  pub refused_here : After (answers (client_begins s) (answer.Refused NoMemory))
  refused_here = answered (client_begins s) (answer.Refused NoMemory) hand refl
