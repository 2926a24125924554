-- What begins an attempt doesn't look at the call that the client holds.
use Rattle.std.proofs.Common.{◌≡◌, ℕ, suc, ◌+◌, Bool, true, false, ◌||◌, ◌==◌, not, nat_lt, is_some, if◌then◌else◌, List, [], ◌∷◌, length, Option, Some, None, refl, ap, ◌∙◌}
use Rattle.std.specs.Map.{lookup}
use Rattle.lru.specs.LruCache.{lru_cache, promoted}
use Rattle.gfs_types.specs.declared.answer.Answer.TheVariants as answer
use Rattle.gfs_types.specs.declared.ids.ServerId.{ServerId}
use Rattle.messages.specs.declared.message.Location.{Location}
use Rattle.messages.specs.declared.message.Holder.{Holder}
use Rattle.messages.specs.declared.message.Group.{Group}
use Rattle.client_state.specs.declared.call.CurrentCall.{CurrentCall}
use Rattle.client_state.specs.declared.call.ToldChunk.{ToldChunk}
use Rattle.client_state.specs.declared.call.Stage.{Stage}
use Rattle.client_state.specs.declared.call.Stage.TheVariants.{IsOver, MustAskAgain, SentRead}
use Rattle.std.proofs.lemmas.Bool.{and_from, eq-eqb}
use Rattle.client_state.specs.declared.kept.Place.{Place}
use Rattle.client_state.specs.declared.kept.Cached.{Cached}
use Rattle.protocol.specs.Sending.{moment_of}
use Rattle.protocol.specs.Tables.{is_empty_list}
use Rattle.protocol.specs.PushBuffer.{next_hop}
use Rattle.protocol.specs.Client.{ClientState, ClientDoing, client_begins, with_current, committed, file_chunk, place_in_file}
use Rattle.protocol.specs.ClientCache.{is_new_enough, is_same_place, fresh_one, cached, cache_after_look, without_location, with_location}
use Rattle.protocol.specs.ClientFiles.{with_last_append}
use Rattle.protocol.specs.ClientAttempts.{is_mutation, is_append, is_length, chunk_of, push_planned, push_planned_to, will_do, chunk_to_find, read_count, has_next_part, completes, reads_next, goes_on_at, begins_with, begins_at, attempts, asks, asks_anew, begins_next_part, is_last_attempt, gives_up, ended}
use Rattle.protocol.specs.ClientTakes.{gets, takes_bytes, reader_refuses, succeeds, told_location}
use Rattle.protocol.specs.ClientStep.{ends_unanswered}
use Rattle.client.specs.Takes.{holding, with_found}

abbrev with_held : ClientState → CurrentCall → ClientState
with_held s k = record s { current = Some k }

fresh_held : (s : ClientState) (k : CurrentCall) (file : ℕ) (kept : Option Cached) → fresh_one (with_held s k) file kept ≡ fresh_one s file kept
fresh_held s k file None = refl
fresh_held s k file (Some c) = refl

cached_held : (s : ClientState) (k : CurrentCall) (p : Place) → cached (with_held s k) p ≡ cached s p
cached_held s k p = fresh_held s k p.file (lookup (is_same_place p) s.cache.entries)

reads_held : (s : ClientState) (k c : CurrentCall) (chunk : ToldChunk) (hs : List Holder) → reads_next (holding s k) c chunk hs ≡ reads_next (client_begins s) c chunk hs
reads_held s k c chunk [] = refl
reads_held s k c chunk (h ∷ rest) = refl

-- the same for a call whose stage was taken out
pub next_reads_held : (s : ClientState) (k c : CurrentCall) (chunk : ToldChunk) (hs : List Holder)
    → reads_next (holding s k) c chunk hs ≡ reads_next (client_begins s) (record c { stage = IsOver }) chunk hs
next_reads_held s k c chunk [] = refl
next_reads_held s k c chunk (h ∷ rest) = refl

-- and where their location may be too old
pub reader_refuses_held : (s : ClientState) (k c : CurrentCall) (chunk : ToldChunk) (hs : List Holder)
    → reader_refuses (holding s k) c chunk hs ≡ reader_refuses (client_begins s) (record c { stage = IsOver }) chunk hs
reader_refuses_held s k c chunk hs = ap (λ (next : ClientDoing). if is_new_enough s c.told.0 then next else asks_anew (client_begins s) c) (next_reads_held s k c chunk hs)

push_to_held : (s : ClientState) (k c : CurrentCall) (chunk : ToldChunk) (g : Group) (first : Option ServerId)
    → push_planned_to (with_held s k) c chunk g first ≡ push_planned_to s c chunk g first
push_to_held s k c chunk g None = refl
push_to_held s k c chunk g (Some first) = refl

push_held : (s : ClientState) (k c : CurrentCall) (chunk : ToldChunk) (g : Option Group) → push_planned (with_held s k) c chunk g ≡ push_planned s c chunk g
push_held s k c chunk None = refl
push_held s k c chunk (Some g) = push_to_held s k c chunk g (next_hop g.members 0)

pub goes_on_held : (s : ClientState) (k c : CurrentCall) (l : Location) → goes_on_at (holding s k) c l ≡ goes_on_at (client_begins s) c l
goes_on_held s k c l =
    elim (is_mutation c.asked)
    as (λ b. (if b then committed (holding s k) c (push_planned (with_held s k) c (chunk_of l) l.group) else reads_next (holding s k) c (chunk_of l) l.holders)
    ≡ (if b then committed (client_begins s) c (push_planned s c (chunk_of l) l.group) else reads_next (client_begins s) c (chunk_of l) l.holders))
    [ true ↦ ap (committed (client_begins s) c) (push_held s k c (chunk_of l) l.group) | false ↦ reads_held s k c (chunk_of l) l.holders ]

pub located_held : (s : ClientState) (k c : CurrentCall) (l : Location) → told_location (holding s k) c l ≡ told_location (client_begins s) c l
located_held s k c l =
    ap
    (λ (next : ClientDoing).
    if is_empty_list l.holders then with_current (client_begins s) (record c { stage = MustAskAgain; saw_no_holder = true; is_nobody_serving = true })
    else next)
    (goes_on_held (record s { cache = with_location s c.file.0 l }) k (record c { told = moment_of s.now; saw_no_holder = false; is_nobody_serving = false }) l)

kept_held : (s : ClientState) (k c : CurrentCall) (kept : Option Cached) → begins_with (holding s k) c kept ≡ begins_with (client_begins s) c kept
kept_held s k c None = refl
kept_held s k c (Some e) =
    elim (will_do c e)
    as (λ b. (if b then goes_on_at (holding s k) (record c { told = e.told }) e.location else asks (holding s k) c) ≡ (if b then goes_on_at (client_begins s) (record c { told = e.told }) e.location else asks (client_begins s) c))
    [ true ↦ goes_on_held s k (record c { told = e.told }) e.location | false ↦ refl ]

at_held : (s : ClientState) (k c : CurrentCall) (index : Option ℕ) → begins_at (holding s k) c index ≡ begins_at (client_begins s) c index
at_held s k c None = refl
at_held s k c (Some index) =
    let p : Place = record { file = c.file.0; index = index } in
    kept_held (record s { cache = cache_after_look (with_held s k) p }) k c (cached (with_held s k) p)
    ∙ ap
    (λ (e : Option Cached).
    begins_with
    (client_begins (record s { cache = if is_some e then lru_cache (promoted (is_same_place p) s.cache.entries) s.cache.cap else without_location s.cache p })) c e)
    (cached_held s k p)

pub attempts_held : (s : ClientState) (k c : CurrentCall) → attempts (holding s k) c ≡ attempts (client_begins s) c
attempts_held s k c =
    at_held s k
    (record c { deadline = moment_of (s.now + s.config.attempt_ms); is_nobody_serving = false; last_chunk = None; stage = IsOver })
    (chunk_to_find c c.asked)

pub next_part_held : (s : ClientState) (k c : CurrentCall) → begins_next_part (holding s k) c ≡ begins_next_part (client_begins s) c
next_part_held s k c = attempts_held s k (record c { index = suc c.index; left = s.config.attempts; lost_lease = false })

pub gets_held : (s : ClientState) (k c : CurrentCall) (found : List ℕ) (round : Option ℕ) → gets (holding s k) c found round ≡ gets (client_begins s) c found round
gets_held s k c found round =
    let got : CurrentCall = with_found c found round in
    ap
    (λ (next : ClientDoing).
    if nat_lt (length found) (read_count (file_chunk s c.file.0) c.index c.asked) || not (has_next_part (file_chunk s c.file.0) c.index c.asked)
    then completes (client_begins s) got (answer.Bytes got.bytes got.rounds)
    else next)
    (next_part_held s k got)

pub succeeds_held : (s : ClientState) (k c : CurrentCall) (chunk : ToldChunk) (place : ℕ) → succeeds (holding s k) c chunk place ≡ succeeds (client_begins s) c chunk place
succeeds_held s k c chunk place =
    ap
    (λ (next : ClientDoing).
    if is_append c.asked
    then completes
    (client_begins (record s { files = with_last_append s.files c.file.0 (Some chunk.index) })) c
    (answer.At (place_in_file (file_chunk s c.file.0) chunk.index place))
    else (if has_next_part (file_chunk s c.file.0) c.index c.asked then next else completes (client_begins s) c answer.Done))
    (next_part_held s k c)

pub unanswered_held : (s : ClientState) (k c : CurrentCall) → ends_unanswered (holding s k) c ≡ ends_unanswered (client_begins s) c
unanswered_held s k c =
    ap
    (λ (next : ClientDoing). if is_last_attempt c then gives_up (client_begins s) (record (ended c) { lost_lease = false }) else next)
    (attempts_held s k (record (ended c) { lost_lease = false }))

-- bytes that were asked for are taken
pub bytes_taken : (d : ClientDoing) (c : CurrentCall) (stage : Stage) (number : ℕ) (bytes : List ℕ) (chunk : ToldChunk) (left : List Holder) (asked : ℕ)
    → stage ≡ SentRead chunk left asked → asked ≡ number → is_length c.asked ≡ false → takes_bytes d c stage number bytes ≡ gets d c bytes (Some chunk.round.0)
bytes_taken d c stage number bytes chunk left asked at same other =
    ap (λ (st : Stage). takes_bytes d c st number bytes) at
    ∙ ap (λ (b : Bool). if b then gets d c bytes (Some chunk.round.0) else d)
    (and_from (asked == number) (not (is_length c.asked)) (eq-eqb asked number same) (ap (λ (b : Bool). not b) other))
