-- What a client's step or call is made of: a call in hand is changed, a location is found, heard or dropped, and at the end one request is sent, or the call waits or is answered.
use Rattle.std.proofs.Common.{◌≡◌, ℕ, suc, ◌+◌, true, false, List, [], ◌∷◌, ◌++◌, length, Option, Some, None, refl, ap, ◌∙◌}
use Rattle.std.specs.Prelude.{nat_lt, ◌==◌, ◌&&◌, ◌||◌, not, ◌/◌}
use Rattle.std.proofs.lemmas.Bool.{eqb-true}
use Rattle.std.specs.Option.{option_to_list}
use Rattle.std.specs.List.{list_any}
use Rattle.std.specs.FinMap as table
use Rattle.gfs_types.specs.declared.shape.Shape.{Shape}
use Rattle.gfs_types.specs.declared.ids.ServerId.{ServerId}
use Rattle.gfs_types.specs.declared.ids.DataId.{DataId}
use Rattle.gfs_types.specs.declared.ids.FileId.{FileId}
use Rattle.gfs_types.specs.declared.ids.Fd.{Fd}
use Rattle.gfs_types.specs.declared.ids.Moment.{Moment}
use Rattle.gfs_types.specs.declared.call.Call.{Call}
use Rattle.gfs_types.specs.declared.call.Call.TheVariants as call
use Rattle.gfs_types.specs.declared.answer.Answer.{Answer}
use Rattle.gfs_types.specs.declared.answer.Answer.TheVariants as answer
use Rattle.gfs_types.specs.declared.refusal.Refusal.{Refusal}
use Rattle.gfs_types.specs.declared.refusal.Refusal.TheVariants.{TooLong, BadFd, Unknown, Collected, NoChunk, NoLease, ChunkFull}
use Rattle.messages.specs.declared.message.NameReply.{NameReply}
use Rattle.messages.specs.declared.message.NameReply.TheVariants.{Opened, Answered}
use Rattle.messages.specs.declared.message.Body.{Body}
use Rattle.messages.specs.declared.message.Body.TheVariants as body
use Rattle.messages.specs.declared.message.Message.{Message}
use Rattle.messages.specs.declared.message.Location.{Location}
use Rattle.messages.specs.declared.message.Holder.{Holder}
use Rattle.messages.specs.declared.message.Group.{Group}
use Rattle.messages.specs.declared.event.NodeInput.{NodeInput}
use Rattle.messages.specs.declared.event.NodeInput.TheVariants as input
use Rattle.relaxed_file.specs.NameStep.{is_name_call}
use Rattle.relaxed_file.specs.Parts.{is_range_too_long}
use Rattle.protocol.specs.Tables.{is_empty_list}
use Rattle.protocol.specs.Sending.{moment_of}
use Rattle.protocol.specs.PushBuffer.{next_hop}
use Rattle.client_state.specs.declared.call.CurrentCall.{CurrentCall}
use Rattle.client_state.specs.declared.kept.Place.{Place}
use Rattle.client_state.specs.declared.kept.Cached.{Cached}
use Rattle.client_state.specs.declared.call.ToldChunk.{ToldChunk}
use Rattle.client_state.specs.declared.call.Stage.{Stage}
use Rattle.client_state.specs.declared.call.Stage.TheVariants.{AskedNames, AskedWhere, MustAskAgain, SentData, SentMutate, SentRead, IsOver, HasAnswer}
use Rattle.protocol.specs.Client.{file_chunk, place_in_file, ClientState, ClientDoing, client_begins, committed, with_current, answers}
use Rattle.protocol.specs.ClientCache.{cached, cache_after_look, with_location, is_new_enough}
use Rattle.protocol.specs.ClientFiles.{files_after_close, last_append, with_last_append}
use Rattle.protocol.specs.ClientAttempts.{is_mutation, is_length, is_append, read_count, has_next_part, is_live_at, completes, last_refusal, gives_up, ended, is_last_attempt, ends_refused, asks, read_planned, reads_next, again_planned, push_planned_to, push_planned, mutate_planned, chunk_of, goes_on_at, will_do, begins_with, begins_at, chunk_to_find, attempts, name_planned, attempts_names, begins_next_part, forgets, asks_anew}
use Rattle.protocol.specs.ClientTakes.{opens, takes_reply, takes_named, takes_wait, gets, told_none, told_location, told, takes_told, is_own_data, takes_pushed, less_live, succeeds, takes_done, takes_bytes, takes_len_is, master_refuses, stays_live, finds_full, primary_refuses, takes_refused, client_takes, pushed_to, reader_refuses}
use Rattle.protocol.specs.ClientStep.{new_call, calls_names, calls_file, calls_on, fd_of, calls, ticks_names, ends_unanswered, ticks_unanswered, ticks_at, takes_at, client_does}
use Rattle.laws_base.proofs.Steps.{on_cond}
use Rattle.laws_base.proofs.ServerMoves.{IsCameIn}

-- the same call, in the same attempt
abbrev pub IsSameCall : CurrentCall → CurrentCall → Type 0
IsSameCall c e = (e.number ≡ c.number) × (e.asked ≡ c.asked) × (e.file ≡ c.file)

abbrev pub IsSameAttempt : CurrentCall → CurrentCall → Type 0
IsSameAttempt c e = (e.number ≡ c.number) × (e.asked ≡ c.asked) × (e.file ≡ c.file) × (e.deadline ≡ c.deadline)

-- it waits for no answer of a node
abbrev pub IsIdle : Stage → Type 0
IsIdle (HasAnswer reply) = Unit {0}
IsIdle MustAskAgain = Unit {0}
IsIdle IsOver = Unit {0}
IsIdle other = ⊥

abbrev pub attempt_end : ClientState → Moment
attempt_end s = moment_of (s.now + s.config.attempt_ms)

abbrev pub place_at : CurrentCall → ℕ → Place
place_at c index = record { file = c.file.0; index = index }

abbrev pub looked : ClientDoing → Place → ClientDoing
looked d p = record d { client = record d.client { cache = cache_after_look d.client p } }

abbrev pub heard_at : ClientDoing → CurrentCall → Location → ClientDoing
heard_at d c l = record d { client = record d.client { cache = with_location d.client c.file.0 l } }

abbrev pub is_told_of : ClientDoing → CurrentCall → CurrentCall
is_told_of d c = record c { told = moment_of d.client.now; saw_no_holder = false; is_nobody_serving = false }

-- the attempt goes by a location that is kept
abbrev pub told_at : CurrentCall → Cached → CurrentCall
told_at c e = record c { told = e.told }

-- the last append of a file is noted or forgotten
abbrev pub noted : ClientDoing → ℕ → Option ℕ → ClientDoing
noted d file index = record d { client = record d.client { files = with_last_append d.client.files file index } }

-- Of a client s as it begins a step: N of a name call in hand, H of another, L of a location that is to be used, R of servers that are to be asked to read, P of the step at its end. Came is what may come in.
pub record KeepsClient (s : ClientState) (Came : Body → Type 0) (N H : ClientDoing → CurrentCall → Type 0) (L : ClientDoing → CurrentCall → Location → Type 0)
    (R : ClientDoing → CurrentCall → ToldChunk → List Holder → Type 0) (P : ClientDoing → Type 0) : Type 0 where
  pub changes : (d : ClientDoing) (c e : CurrentCall) → IsSameAttempt c e → H d c → H d e
  pub name_changes : (d : ClientDoing) (c e : CurrentCall) → IsSameCall c e → N d c → N d e
  -- an attempt begins
  pub begins : (d : ClientDoing) (c e : CurrentCall) → IsSameCall c e → e.deadline ≡ attempt_end d.client → H d c → H d e
  pub drops : (d : ClientDoing) (c : CurrentCall) (chunk : ToldChunk) → H d c → H (forgets d c chunk) c
  pub notes : (d : ClientDoing) (c : CurrentCall) (index : Option ℕ) → H d c → H (noted d c.file.0 index) c
  pub looks : (d : ClientDoing) (c : CurrentCall) (index : ℕ) → H d c → H (looked d (place_at c index)) c
  -- a location that is kept
  pub finds : (d : ClientDoing) (c : CurrentCall) (index : ℕ) (e : Cached) → c.deadline ≡ attempt_end d.client → cached d.client (place_at c index) ≡ Some e → H d c → L (looked d (place_at c index)) (told_at c e) e.location
  -- a location that the master told
  pub hears : (c : CurrentCall) (number : ℕ) (l : Location) → s.current ≡ Some c → c.stage ≡ AskedWhere number → Came (body.Told number (Some l)) → H (client_begins s) c
      → H (heard_at (client_begins s) c l) (is_told_of (client_begins s) c) × L (heard_at (client_begins s) c l) (is_told_of (client_begins s) c) l
  pub holders : (d : ClientDoing) (c : CurrentCall) (l : Location) → L d c l → R d c (chunk_of l) l.holders
  -- the servers that are left after a refusal, of a location that may still be used
  pub left : (c : CurrentCall) (chunk : ToldChunk) (rest : List Holder) (number : ℕ) → s.current ≡ Some c → c.stage ≡ SentRead chunk rest number → is_new_enough s c.told.0 ≡ true → H (client_begins s) c
      → R (forgets (client_begins s) c chunk) c chunk rest
  pub answered : (d : ClientDoing) (c : CurrentCall) (reply : Answer) → H d c → P (answers d reply)
  pub name_answered : (d : ClientDoing) (c : CurrentCall) (reply : Answer) → N d c → P (answers d reply)
  pub opened : (c : CurrentCall) (number : ℕ) (file : FileId) (shape : Shape) → s.current ≡ Some c → c.stage ≡ AskedNames → Came (body.Named number (Opened file shape)) → N (client_begins s) c
      → P (opens (client_begins s) file.0 shape)
  pub waits : (d : ClientDoing) (c : CurrentCall) → IsIdle c.stage → H d c → P (with_current d c)
  pub waits_again : (d : ClientDoing) (c : CurrentCall) → H d c → P (committed d c (again_planned d.client))
  pub asking : (d : ClientDoing) (c : CurrentCall) → H d c → P (asks d c)
  pub reads : (d : ClientDoing) (c : CurrentCall) (chunk : ToldChunk) (h : Holder) (rest : List Holder) → R d c chunk (h ∷ rest) → H d c → P (committed d c (read_planned d.client c chunk h rest))
  pub pushes : (d : ClientDoing) (c : CurrentCall) (l : Location) (g : Group) (first : ServerId) → l.group ≡ Some g → next_hop g.members 0 ≡ Some first → L d c l → H d c
      → P (committed d c (push_planned_to d.client c (chunk_of l) g (Some first)))
  pub mutates : (c : CurrentCall) (chunk : ToldChunk) (primary : ServerId) (number : ℕ) → s.current ≡ Some c → c.stage ≡ SentData chunk primary number → is_new_enough s c.told.0 ≡ true → H (client_begins s) c
      → P (committed (client_begins s) c (mutate_planned (client_begins s).client c chunk primary number))
  pub naming : (d : ClientDoing) (c : CurrentCall) → c.deadline ≡ attempt_end d.client → N d c → P (committed d c (name_planned d.client c))

-- a descriptor is closed
abbrev pub closed : ClientState → Fd → ℕ → ClientDoing
closed s fd file = record (client_begins s) { client = record s { descriptors = table.remove s.descriptors fd.0; files = files_after_close s.files file } }

-- a call of names is counted
abbrev pub once_more : ClientState → ClientDoing
once_more s = record (client_begins s) { client = record s { call_count = suc s.call_count } }

-- Of a client s as it is called.
pub record KeepsCalls (s : ClientState) (N H : ClientDoing → CurrentCall → Type 0) (P : ClientDoing → Type 0) : Type 0 where
  -- one that asks nobody
  pub replies : (reply : Answer) → P (answers (client_begins s) reply)
  pub closes : (fd : Fd) (file : ℕ) → table.get s.descriptors fd.0 ≡ Some file → P (answers (closed s fd file) answer.Done)
  pub named : (c : Call) → N (once_more s) (new_call s.config.attempts (suc s.call_count) c 0 0 None)
  pub filed : (c : Call) (file index : ℕ) (last : Option ℕ) → table.get s.descriptors (fd_of c) ≡ Some file → H (client_begins s) (new_call s.config.attempts 0 c file index last)

-- what holds of the call in hand at its stage
abbrev pub HoldsAt : ClientState → (N H : ClientDoing → CurrentCall → Type 0) → CurrentCall → Stage → Type 0
HoldsAt s N H c AskedNames = N (client_begins s) c
HoldsAt s N H c (AskedWhere number) = H (client_begins s) c
HoldsAt s N H c MustAskAgain = H (client_begins s) c
HoldsAt s N H c (SentData chunk primary number) = H (client_begins s) c
HoldsAt s N H c (SentMutate chunk number) = H (client_begins s) c
HoldsAt s N H c (SentRead chunk left number) = H (client_begins s) c
HoldsAt s N H c IsOver = H (client_begins s) c
HoldsAt s N H c (HasAnswer reply) = H (client_begins s) c

module _ (s : ClientState) (Came : Body → Type 0) (N H : ClientDoing → CurrentCall → Type 0) (L : ClientDoing → CurrentCall → Location → Type 0)
    (R : ClientDoing → CurrentCall → ToldChunk → List Holder → Type 0) (P : ClientDoing → Type 0) (k : KeepsClient s Came N H L R P) where
  -- attempts

  completes_kept : (d : ClientDoing) (c : CurrentCall) (reply : Answer) → H d c → P (completes d c reply)
  completes_kept d c reply h =
      on_cond P (is_mutation c.asked && list_any (is_live_at d.client.now) c.live) (with_current d (record c { stage = HasAnswer reply })) (answers d reply)
      (λ _. k.waits d (record c { stage = HasAnswer reply }) tt (k.changes d c (record c { stage = HasAnswer reply }) (refl, refl, refl, refl) h)) (λ _. k.answered d c reply h)

  gives_up_kept : (d : ClientDoing) (c : CurrentCall) → H d c → P (gives_up d c)
  gives_up_kept d c h = completes_kept d c (answer.Refused (last_refusal c)) h

  refused_kept : (d : ClientDoing) (c : CurrentCall) → H d c → P (ends_refused d c)
  refused_kept d c h =
      let over : H d (ended c) = k.changes d c (ended c) (refl, refl, refl, refl) h in
      on_cond P (is_last_attempt c) (gives_up d (ended c)) (with_current d (ended c)) (λ _. gives_up_kept d (ended c) over) (λ _. k.waits d (ended c) tt over)

  reads_kept : (d : ClientDoing) (c : CurrentCall) (chunk : ToldChunk) (left : List Holder) → R d c chunk left → H d c → P (reads_next d c chunk left)
  reads_kept d c chunk [] r h = refused_kept d (record c { is_nobody_serving = true }) (k.changes d c (record c { is_nobody_serving = true }) (refl, refl, refl, refl) h)
  reads_kept d c chunk (x ∷ rest) r h = k.reads d c chunk x rest r h

  push_to_kept : (d : ClientDoing) (c : CurrentCall) (l : Location) (g : Group) (o : Option ServerId) → l.group ≡ Some g → next_hop g.members 0 ≡ o → L d c l → H d c
      → P (committed d c (push_planned_to d.client c (chunk_of l) g o))
  push_to_kept d c l g None is hop fit h = k.waits_again d c h
  push_to_kept d c l g (Some first) is hop fit h = k.pushes d c l g first is hop fit h

  push_kept : (d : ClientDoing) (c : CurrentCall) (l : Location) (o : Option Group) → l.group ≡ o → L d c l → H d c → P (committed d c (push_planned d.client c (chunk_of l) o))
  push_kept d c l None is fit h = k.waits_again d c h
  push_kept d c l (Some g) is fit h = push_to_kept d c l g (next_hop g.members 0) is refl fit h

  goes_on_kept : (d : ClientDoing) (c : CurrentCall) (l : Location) → L d c l → H d c → P (goes_on_at d c l)
  goes_on_kept d c l fit h =
      on_cond P (is_mutation c.asked) (committed d c (push_planned d.client c (chunk_of l) l.group)) (reads_next d c (chunk_of l) l.holders)
      (λ _. push_kept d c l l.group refl fit h) (λ _. reads_kept d c (chunk_of l) l.holders (k.holders d c l fit) h)

  begins_with_kept : (d : ClientDoing) (c : CurrentCall) (index : ℕ) (o : Option Cached) → c.deadline ≡ attempt_end d.client → cached d.client (place_at c index) ≡ o → H d c
      → P (begins_with (looked d (place_at c index)) c o)
  begins_with_kept d c index None begun is h = k.asking (looked d (place_at c index)) c (k.looks d c index h)
  begins_with_kept d c index (Some e) begun is h =
      let there : ClientDoing = looked d (place_at c index) in
      let kept : H there c = k.looks d c index h in
      on_cond P (will_do c e) (goes_on_at there (told_at c e) e.location) (asks there c)
      (λ _. goes_on_kept there (told_at c e) e.location (k.finds d c index e begun is h) (k.changes there c (told_at c e) (refl, refl, refl, refl) kept)) (λ _. k.asking there c kept)

  begins_at_kept : (d : ClientDoing) (c : CurrentCall) (o : Option ℕ) → c.deadline ≡ attempt_end d.client → H d c → P (begins_at d c o)
  begins_at_kept d c None begun h = k.asking d c h
  begins_at_kept d c (Some index) begun h = begins_with_kept d c index (cached d.client (place_at c index)) begun refl h

  attempts_kept : (d : ClientDoing) (c : CurrentCall) → H d c → P (attempts d c)
  attempts_kept d c h =
      let begun : CurrentCall = record c { deadline = attempt_end d.client; is_nobody_serving = false; last_chunk = None; stage = IsOver } in
      begins_at_kept d begun (chunk_to_find c c.asked) refl (k.begins d c begun (refl, refl, refl) refl h)

  names_kept : (d : ClientDoing) (c : CurrentCall) → N d c → P (attempts_names d c)
  names_kept d c h =
      let begun : CurrentCall = record c { deadline = attempt_end d.client } in
      k.naming d begun refl (k.name_changes d c begun (refl, refl, refl) h)

  next_kept : (d : ClientDoing) (c : CurrentCall) → H d c → P (begins_next_part d c)
  next_kept d c h =
      let next : CurrentCall = record c { index = suc c.index; left = d.client.config.attempts; lost_lease = false } in
      attempts_kept d next (k.changes d c next (refl, refl, refl, refl) h)

  -- messages

  gets_kept : (d : ClientDoing) (c : CurrentCall) (found : List ℕ) (round : Option ℕ) → H d c → P (gets d c found round)
  gets_kept d c found round h =
      let got : CurrentCall = record c { bytes = c.bytes ++ found; rounds = c.rounds ++ option_to_list round } in
      let has : H d got = k.changes d c got (refl, refl, refl, refl) h in
      on_cond P (nat_lt (length found) (read_count (file_chunk d.client c.file.0) c.index c.asked) || not (has_next_part (file_chunk d.client c.file.0) c.index c.asked))
      (completes d got (answer.Bytes got.bytes got.rounds)) (begins_next_part d got)
      (λ _. completes_kept d got (answer.Bytes got.bytes got.rounds) has) (λ _. next_kept d got has)

  told_none_kept : (d : ClientDoing) (c : CurrentCall) (asked : Call) → H d c → P d → P (told_none d c asked)
  told_none_kept d c (call.Read fd offset count) h p =
      gets_kept d (record c { saw_no_holder = false }) [] None (k.changes d c (record c { saw_no_holder = false }) (refl, refl, refl, refl) h)
  told_none_kept d c (call.Length fd) h p = completes_kept d c (answer.Length 0) h
  told_none_kept d c other h p = p

  abbrev d0 : ClientDoing
  d0 = client_begins s

  abbrev At : CurrentCall → Stage → Type 0
  At c st = HoldsAt s N H c st

  told_location_kept : (c : CurrentCall) (number : ℕ) (l : Location) → s.current ≡ Some c → c.stage ≡ AskedWhere number → Came (body.Told number (Some l)) → H d0 c → P (told_location d0 c l)
  told_location_kept c number l now at came h =
      let nobody : CurrentCall = record c { stage = MustAskAgain; saw_no_holder = true; is_nobody_serving = true } in
      let there = k.hears c number l now at came h in
      on_cond P (is_empty_list l.holders) (with_current d0 nobody) (goes_on_at (heard_at d0 c l) (is_told_of d0 c) l)
      (λ _. k.waits d0 nobody tt (k.changes d0 c nobody (refl, refl, refl, refl) h)) (λ _. goes_on_kept (heard_at d0 c l) (is_told_of d0 c) l there.1 there.0)

  told_kept : (c : CurrentCall) (number : ℕ) (o : Option Location) → s.current ≡ Some c → c.stage ≡ AskedWhere number → Came (body.Told number o) → H d0 c → P d0 → P (told d0 c o)
  told_kept c number None now at came h p = told_none_kept d0 c c.asked h p
  told_kept c number (Some l) now at came h p = told_location_kept c number l now at came h

  takes_told_kept : (c : CurrentCall) (st : Stage) (number : ℕ) (o : Option Location) → s.current ≡ Some c → c.stage ≡ st → Came (body.Told number o) → At c st → P d0 → P (takes_told d0 c st number o)
  takes_told_kept c (AskedWhere asked) number o now at came h p =
      on_cond P (asked == number) (told d0 c o) d0
      (λ same. told_kept c number o now (at ∙ ap (λ (n : ℕ). AskedWhere n) (eqb-true asked number same)) came h p) (λ _. p)
  takes_told_kept c other number o now at came h p = p

  reply_kept : (c : CurrentCall) (number : ℕ) (r : NameReply) → s.current ≡ Some c → c.stage ≡ AskedNames → Came (body.Named number r) → N d0 c → P (takes_reply d0 r)
  reply_kept c number (Opened file shape) now at came h = k.opened c number file shape now at came h
  reply_kept c number (Answered reply) now at came h = k.name_answered d0 c reply h

  takes_named_kept : (c : CurrentCall) (st : Stage) (number : ℕ) (r : NameReply) → s.current ≡ Some c → c.stage ≡ st → Came (body.Named number r) → At c st → P d0 → P (takes_named d0 c st number r)
  takes_named_kept c AskedNames number r now at came h p = on_cond P (c.number == number) (takes_reply d0 r) d0 (λ _. reply_kept c number r now at came h) (λ _. p)
  takes_named_kept c other number r now at came h p = p

  takes_wait_kept : (c : CurrentCall) (st : Stage) (number : ℕ) → At c st → P d0 → P (takes_wait d0 c st number)
  takes_wait_kept c (AskedWhere asked) number h p =
      let again : CurrentCall = record c { stage = MustAskAgain; saw_no_holder = false; is_nobody_serving = false } in
      on_cond P (asked == number) (with_current d0 again) d0 (λ _. k.waits d0 again tt (k.changes d0 c again (refl, refl, refl, refl) h)) (λ _. p)
  takes_wait_kept c other number h p = p

  -- the location is too old
  anew_kept : (d : ClientDoing) (c : CurrentCall) → H d c → P (asks_anew d c)
  anew_kept d c h = k.waits d (record c { stage = MustAskAgain }) tt (k.changes d c (record c { stage = MustAskAgain }) (refl, refl, refl, refl) h)

  pushed_to_kept : (c : CurrentCall) (chunk : ToldChunk) (primary : ServerId) (number : ℕ) → s.current ≡ Some c → c.stage ≡ SentData chunk primary number → H d0 c → P (pushed_to d0 c chunk primary number)
  pushed_to_kept c chunk primary number now at h =
      on_cond P (is_new_enough d0.client c.told.0) (committed d0 c (mutate_planned d0.client c chunk primary number)) (asks_anew d0 c) (λ fresh. k.mutates c chunk primary number now at fresh h) (λ _. anew_kept d0 c h)

  takes_pushed_kept : (c : CurrentCall) (st : Stage) (id : DataId) → s.current ≡ Some c → c.stage ≡ st → At c st → P d0 → P (takes_pushed d0 c st id)
  takes_pushed_kept c (SentData chunk primary number) id now at h p =
      on_cond P (is_own_data d0 id number) (pushed_to d0 c chunk primary number) d0 (λ _. pushed_to_kept c chunk primary number now at h) (λ _. p)
  takes_pushed_kept c other id now at h p = p

  succeeds_kept : (d : ClientDoing) (c : CurrentCall) (chunk : ToldChunk) (place : ℕ) → H d c → P (succeeds d c chunk place)
  succeeds_kept d c chunk place h =
      let last : ClientDoing = noted d c.file.0 (Some chunk.index) in
      let reply : Answer = answer.At (place_in_file (file_chunk d.client c.file.0) chunk.index place) in
      on_cond P (is_append c.asked) (completes last c reply) _ (λ _. completes_kept last c reply (k.notes d c (Some chunk.index) h))
      (λ _. on_cond P (has_next_part (file_chunk d.client c.file.0) c.index c.asked) (begins_next_part d c) (completes d c answer.Done) (λ _. next_kept d c h) (λ _. completes_kept d c answer.Done h))

  takes_done_kept : (c : CurrentCall) (st : Stage) (id : DataId) (place : ℕ) → At c st → P d0 → P (takes_done d0 c st id place)
  takes_done_kept c (SentMutate chunk number) id place h p =
      on_cond P (is_own_data d0 id number) (succeeds d0 (less_live c chunk) chunk place) d0
      (λ _. succeeds_kept d0 (less_live c chunk) chunk place (k.changes d0 c (less_live c chunk) (refl, refl, refl, refl) h)) (λ _. p)
  takes_done_kept c other id place h p = p

  takes_bytes_kept : (c : CurrentCall) (st : Stage) (number : ℕ) (bytes : List ℕ) → At c st → P d0 → P (takes_bytes d0 c st number bytes)
  takes_bytes_kept c (SentRead chunk left asked) number bytes h p =
      on_cond P ((asked == number) && not (is_length c.asked)) (gets d0 c bytes (Some chunk.round.0)) d0 (λ _. gets_kept d0 c bytes (Some chunk.round.0) h) (λ _. p)
  takes_bytes_kept c other number bytes h p = p

  takes_len_kept : (c : CurrentCall) (st : Stage) (number count : ℕ) → At c st → P d0 → P (takes_len_is d0 c st number count)
  takes_len_kept c (SentRead chunk left asked) number count h p =
      let reply : Answer = answer.Length (place_in_file (file_chunk d0.client c.file.0) chunk.index count) in
      on_cond P ((asked == number) && is_length c.asked) (completes d0 c reply) d0 (λ _. completes_kept d0 c reply h) (λ _. p)
  takes_len_kept c other number count h p = p

  master_refuses_kept : (d : ClientDoing) (c : CurrentCall) (r : Refusal) → H d c → P d → P (master_refuses d c r)
  master_refuses_kept d c TooLong h p = completes_kept d c (answer.Refused TooLong) h
  master_refuses_kept d c Collected h p = completes_kept d c (answer.Refused Collected) h
  master_refuses_kept d c other h p = p

  full_kept : (d : ClientDoing) (c : CurrentCall) (chunk : ToldChunk) → H d c → P (finds_full d c chunk)
  full_kept d c chunk h =
      let past : CurrentCall = record c { stage = IsOver; index = suc chunk.index } in
      on_cond P (is_append c.asked) (with_current d past) (ends_refused d c) (λ _. k.waits d past tt (k.changes d c past (refl, refl, refl, refl) h)) (λ _. refused_kept d c h)

  primary_refuses_kept : (d : ClientDoing) (c : CurrentCall) (chunk : ToldChunk) (r : Refusal) → H d c → P (primary_refuses d c chunk r)
  primary_refuses_kept d c chunk NoChunk h = refused_kept d (stays_live d c chunk) (k.changes d c (stays_live d c chunk) (refl, refl, refl, refl) h)
  primary_refuses_kept d c chunk NoLease h = refused_kept d (stays_live d c chunk) (k.changes d c (stays_live d c chunk) (refl, refl, refl, refl) h)
  primary_refuses_kept d c chunk ChunkFull h = full_kept d (less_live c chunk) chunk (k.changes d c (less_live c chunk) (refl, refl, refl, refl) h)
  primary_refuses_kept d c chunk other h = refused_kept d (less_live c chunk) (k.changes d c (less_live c chunk) (refl, refl, refl, refl) h)

  reader_kept : (c : CurrentCall) (chunk : ToldChunk) (left : List Holder) (number : ℕ) → s.current ≡ Some c → c.stage ≡ SentRead chunk left number → H d0 c → P (reader_refuses (forgets d0 c chunk) c chunk left)
  reader_kept c chunk left number now at h =
      let there : ClientDoing = forgets d0 c chunk in
      on_cond P (is_new_enough there.client c.told.0) (reads_next there c chunk left) (asks_anew there c)
      (λ fresh. reads_kept there c chunk left (k.left c chunk left number now at fresh h) (k.drops d0 c chunk h)) (λ _. anew_kept there c (k.drops d0 c chunk h))

  takes_refused_kept : (c : CurrentCall) (st : Stage) (number : ℕ) (r : Refusal) → s.current ≡ Some c → c.stage ≡ st → At c st → P d0 → P (takes_refused d0 c st number r)
  takes_refused_kept c (AskedWhere asked) number r now at h p = on_cond P (asked == number) (master_refuses d0 c r) d0 (λ _. master_refuses_kept d0 c r h p) (λ _. p)
  takes_refused_kept c (SentMutate chunk asked) number r now at h p =
      on_cond P (asked == number) (primary_refuses (forgets d0 c chunk) c chunk r) d0 (λ _. primary_refuses_kept (forgets d0 c chunk) c chunk r (k.drops d0 c chunk h)) (λ _. p)
  takes_refused_kept c (SentRead chunk left asked) number r now at h p =
      on_cond P (asked == number) (reader_refuses (forgets d0 c chunk) c chunk left) d0 (λ _. reader_kept c chunk left asked now at h) (λ _. p)
  takes_refused_kept c other number r now at h p = p

  takes_kept : (c : CurrentCall) (b : Body) → s.current ≡ Some c → Came b → At c c.stage → P d0 → P (client_takes d0 c b)
  takes_kept c (body.Named number reply) now came h p = takes_named_kept c c.stage number reply now refl came h p
  takes_kept c (body.Told number location) now came h p = takes_told_kept c c.stage number location now refl came h p
  takes_kept c (body.Wait number) now came h p = takes_wait_kept c c.stage number h p
  takes_kept c (body.Refused number refusal) now came h p = takes_refused_kept c c.stage number refusal now refl h p
  takes_kept c (body.Pushed id) now came h p = takes_pushed_kept c c.stage id now refl h p
  takes_kept c (body.Done id place) now came h p = takes_done_kept c c.stage id place h p
  takes_kept c (body.Bytes number bytes) now came h p = takes_bytes_kept c c.stage number bytes h p
  takes_kept c (body.LenIs number count) now came h p = takes_len_kept c c.stage number count h p
  takes_kept c other now came h p = p

  -- ticks

  ticks_names_kept : (d : ClientDoing) (c : CurrentCall) → N d c → P d → P (ticks_names d c)
  ticks_names_kept d c h p =
      on_cond P (nat_lt d.client.now (c.deadline.0 + d.client.config.skew_ms)) d _ (λ _. p)
      (λ _. on_cond P (is_last_attempt c) (answers d (answer.Refused Unknown)) (attempts_names d (ended c)) (λ _. k.name_answered d c (answer.Refused Unknown) h)
      (λ _. names_kept d (ended c) (k.name_changes d c (ended c) (refl, refl, refl) h)))

  unanswered_kept : (d : ClientDoing) (c : CurrentCall) → H d c → P (ends_unanswered d c)
  unanswered_kept d c h =
      let over : CurrentCall = record (ended c) { lost_lease = false } in
      let has : H d over = k.changes d c over (refl, refl, refl, refl) h in
      on_cond P (is_last_attempt c) (gives_up d over) (attempts d over) (λ _. gives_up_kept d over has) (λ _. attempts_kept d over has)

  ticks_unanswered_kept : (d : ClientDoing) (c : CurrentCall) (forget : ClientDoing → ClientDoing) → P d → H (forget d) c → P (ticks_unanswered d c forget)
  ticks_unanswered_kept d c forget p h =
      on_cond P (nat_lt d.client.now (c.deadline.0 + d.client.config.skew_ms)) d (ends_unanswered (forget d) c) (λ _. p) (λ _. unanswered_kept (forget d) c h)

  ticks_kept : (c : CurrentCall) (st : Stage) → At c st → P d0 → P (ticks_at d0 c st)
  ticks_kept c AskedNames h p = ticks_names_kept d0 c h p
  ticks_kept c (HasAnswer reply) h p = completes_kept d0 c reply h
  ticks_kept c IsOver h p = attempts_kept d0 c h
  ticks_kept c MustAskAgain h p =
      on_cond P (nat_lt d0.client.now c.deadline.0) (asks d0 c) (ticks_unanswered d0 c (λ e. e)) (λ _. k.asking d0 c h) (λ _. ticks_unanswered_kept d0 c (λ e. e) p h)
  ticks_kept c (AskedWhere number) h p = ticks_unanswered_kept d0 c (λ e. e) p h
  ticks_kept c (SentData chunk primary number) h p = ticks_unanswered_kept d0 c (λ e. forgets e c chunk) p (k.drops d0 c chunk h)
  ticks_kept c (SentMutate chunk number) h p = ticks_unanswered_kept d0 c (λ e. forgets e c chunk) p (k.drops d0 c chunk h)
  ticks_kept c (SentRead chunk left number) h p = ticks_unanswered_kept d0 c (λ e. forgets e c chunk) p (k.drops d0 c chunk h)

  takes_at_kept : (c : CurrentCall) (m : Message) (st : Stage) → s.current ≡ Some c → Came m.body → At c st → At c c.stage → P d0 → P (takes_at d0 c m st)
  takes_at_kept c m (HasAnswer reply) now came h at p = completes_kept d0 c reply h
  takes_at_kept c m other now came h at p = takes_kept c m.body now came at p

  -- a message or a tick
  pub step_kept : (i : NodeInput) (o : Option CurrentCall) → s.current ≡ o → IsCameIn Came i → ((c : CurrentCall) → s.current ≡ Some c → At c c.stage) → P d0 → P (client_does d0 i o)
  step_kept i None now came h p = p
  step_kept (input.Deliver m) (Some c) now came h p = takes_at_kept c m c.stage now came (h c now) (h c now) p
  step_kept input.Tick (Some c) now came h p = ticks_kept c c.stage (h c now) p

  -- calls

  module _ (more : KeepsCalls s N H P) where
    file_kept : (c : Call) (file : ℕ) → table.get s.descriptors (fd_of c) ≡ Some file → P d0 → P (calls_file d0 c file)
    file_kept (call.Close fd) file at p = more.closes fd file at
    file_kept (call.Length fd) file at p = attempts_kept d0 (new_call s.config.attempts 0 (call.Length fd) file 0 None) (more.filed (call.Length fd) file 0 None at)
    file_kept (call.Write fd offset bytes) file at p =
        let c : CurrentCall = new_call s.config.attempts 0 (call.Write fd offset bytes) file (offset / file_chunk s file) None in
        on_cond P (is_range_too_long offset (length bytes)) _ _ (λ _. more.replies (answer.Refused TooLong))
        (λ _. on_cond P (length bytes == 0) _ (attempts d0 c) (λ _. more.replies answer.Done) (λ _. attempts_kept d0 c (more.filed (call.Write fd offset bytes) file (offset / file_chunk s file) None at)))
    file_kept (call.Append fd bytes) file at p =
        let c : CurrentCall = new_call s.config.attempts 0 (call.Append fd bytes) file 0 (last_append s.files file) in
        on_cond P (nat_lt (file_chunk s file / 4) (length bytes)) _ (attempts (noted d0 file None) c) (λ _. more.replies (answer.Refused TooLong))
        (λ _. attempts_kept (noted d0 file None) c (k.notes d0 c None (more.filed (call.Append fd bytes) file 0 (last_append s.files file) at)))
    file_kept (call.Read fd offset count) file at p =
        let c : CurrentCall = new_call s.config.attempts 0 (call.Read fd offset count) file (offset / file_chunk s file) None in
        on_cond P (is_range_too_long offset count) _ _ (λ _. more.replies (answer.Refused TooLong))
        (λ _. on_cond P (count == 0) _ (attempts d0 c) (λ _. more.replies (answer.Bytes [] [])) (λ _. attempts_kept d0 c (more.filed (call.Read fd offset count) file (offset / file_chunk s file) None at)))
    file_kept other file at p = p

    calls_on_kept : (c : Call) (o : Option ℕ) → table.get s.descriptors (fd_of c) ≡ o → P d0 → P (calls_on d0 c o)
    calls_on_kept c None at p = more.replies (answer.Refused BadFd)
    calls_on_kept c (Some file) at p = file_kept c file at p

    pub call_kept : (c : Call) → P d0 → P (calls d0 c)
    call_kept c p =
        on_cond P (is_name_call c) (calls_names d0 c) (calls_on d0 c (table.get s.descriptors (fd_of c)))
        (λ _. names_kept (once_more s) (new_call s.config.attempts (suc s.call_count) c 0 0 None) (more.named c)) (λ _. calls_on_kept c (table.get s.descriptors (fd_of c)) refl p)
