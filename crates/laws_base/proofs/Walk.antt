-- What a step makes of a call in hand: it stays open, or it is answered.
use Rattle.std.proofs.Common.{◌≡◌, ℕ, ◌+◌, Bool, true, false, cond, List, [], ◌∷◌, ◌++◌, length, Option, Some, None, refl, sym, ap, ◌∙◌}
use Rattle.std.specs.Prelude.{nat_lt, ◌==◌, ◌&&◌, ◌||◌, not, ◌/◌, is_some, suc}
use Rattle.std.proofs.lemmas.Bool.{true≢false}
use Rattle.std.specs.Option.{option_to_list}
use Rattle.std.specs.List.{list_any}
use Rattle.std.specs.FinMap as table
use Rattle.gfs_types.specs.declared.ids.DataId.{DataId}
use Rattle.gfs_types.specs.declared.call.Call.{Call}
use Rattle.gfs_types.specs.declared.call.Call.TheVariants as call
use Rattle.gfs_types.specs.declared.answer.Answer.{Answer}
use Rattle.gfs_types.specs.declared.answer.Answer.TheVariants as answer
use Rattle.gfs_types.specs.declared.refusal.Refusal.{Refusal}
use Rattle.gfs_types.specs.declared.refusal.Refusal.TheVariants.{TooLong, Unknown, Collected, NoChunk, NoLease, ChunkFull}
use Rattle.messages.specs.declared.message.NameReply.{NameReply}
use Rattle.messages.specs.declared.message.NameReply.TheVariants.{Opened, Answered}
use Rattle.messages.specs.declared.message.Body.{Body}
use Rattle.messages.specs.declared.message.Body.TheVariants as body
use Rattle.messages.specs.declared.message.Message.{Message}
use Rattle.messages.specs.declared.message.Location.{Location}
use Rattle.messages.specs.declared.message.Holder.{Holder}
use Rattle.messages.specs.declared.event.NodeInput.{NodeInput}
use Rattle.messages.specs.declared.event.NodeInput.TheVariants as input
use Rattle.relaxed_file.specs.NameStep.{is_name_call}
use Rattle.relaxed_file.specs.Parts.{is_range_too_long}
use Rattle.protocol.specs.Tables.{is_empty_list}
use Rattle.protocol.specs.Sending.{moment_of}
use Rattle.client_state.specs.declared.call.CurrentCall.{CurrentCall}
use Rattle.client_state.specs.declared.kept.Place.{Place}
use Rattle.client_state.specs.declared.kept.Cached.{Cached}
use Rattle.client_state.specs.declared.call.ToldChunk.{ToldChunk}
use Rattle.client_state.specs.declared.call.Stage.{Stage}
use Rattle.client_state.specs.declared.call.Stage.TheVariants.{AskedNames, AskedWhere, MustAskAgain, SentData, SentMutate, SentRead, IsOver, HasAnswer}
use Rattle.protocol.specs.Client.{file_chunk, place_in_file, ClientState, ClientDoing, client_begins, committed, with_current, answers}
use Rattle.protocol.specs.ClientCache.{cached, cache_after_look, with_location, is_new_enough}
use Rattle.protocol.specs.ClientFiles.{last_append, with_last_append}
use Rattle.protocol.specs.ClientAttempts.{is_mutation, is_length, is_append, read_count, has_next_part, is_live_at, completes, last_refusal, gives_up, ended, is_last_attempt, ends_refused, asks, reads_next, push_planned, mutate_planned, chunk_of, goes_on_at, will_do, begins_with, begins_at, chunk_to_find, attempts, attempts_names, begins_next_part, forgets, asks_anew}
use Rattle.protocol.specs.ClientTakes.{takes_reply, takes_named, takes_wait, gets, told_none, told_location, told, takes_told, is_own_data, takes_pushed, less_live, succeeds, takes_done, takes_bytes, takes_len_is, master_refuses, stays_live, finds_full, primary_refuses, takes_refused, client_takes, pushed_to, reader_refuses}
use Rattle.protocol.specs.ClientStep.{new_call, calls_names, calls_file, calls_on, fd_of, calls, ticks_names, ends_unanswered, ticks_unanswered, ticks_at, takes_at, client_does}
use Rattle.laws_base.specs.Answered.{one_if}

pub on_cond : {A : Type 0} (P : A → Type 0) (b : Bool) (x y : A) → (b ≡ true → P x) → (b ≡ false → P y) → P (cond b x y)
on_cond P true x y f g = f refl
on_cond P false x y f g = g refl

-- a call is open, or was answered
abbrev pub One : ClientDoing → Type 0
One d = one_if (is_some d.client.current) + one_if (is_some d.answer) ≡ 1

abbrev pub Unanswered : ClientDoing → Type 0
Unanswered d = d.answer ≡ None

-- the call stays open
stays : (d : ClientDoing) → Unanswered d → 1 + one_if (is_some d.answer) ≡ 1
stays d h = ap (λ (a : Option Answer). 1 + one_if (is_some a)) h

-- attempts

completes_one : (d : ClientDoing) (c : CurrentCall) (reply : Answer) → Unanswered d → One (completes d c reply)
completes_one d c reply h =
    on_cond One (is_mutation c.asked && list_any (is_live_at d.client.now) c.live) (with_current d (record c { stage = HasAnswer reply })) (answers d reply) (λ _. stays d h) (λ _. refl)

gives_up_one : (d : ClientDoing) (c : CurrentCall) → Unanswered d → One (gives_up d c)
gives_up_one d c h = completes_one d c (answer.Refused (last_refusal c)) h

refused_one : (d : ClientDoing) (c : CurrentCall) → Unanswered d → One (ends_refused d c)
refused_one d c h = on_cond One (is_last_attempt c) (gives_up d (ended c)) (with_current d (ended c)) (λ _. gives_up_one d (ended c) h) (λ _. stays d h)

reads_one : (d : ClientDoing) (c : CurrentCall) (chunk : ToldChunk) (left : List Holder) → Unanswered d → One (reads_next d c chunk left)
reads_one d c chunk [] h = refused_one d (record c { is_nobody_serving = true }) h
reads_one d c chunk (x ∷ rest) h = stays d h

goes_on_one : (d : ClientDoing) (c : CurrentCall) (l : Location) → Unanswered d → One (goes_on_at d c l)
goes_on_one d c l h =
    on_cond One (is_mutation c.asked) (committed d c (push_planned d.client c (chunk_of l) l.group)) (reads_next d c (chunk_of l) l.holders)
    (λ _. stays d h) (λ _. reads_one d c (chunk_of l) l.holders h)

begins_with_one : (d : ClientDoing) (c : CurrentCall) (o : Option Cached) → Unanswered d → One (begins_with d c o)
begins_with_one d c None h = stays d h
begins_with_one d c (Some e) h =
    let then_ : CurrentCall = record c { told = e.told } in
    on_cond One (will_do c e) (goes_on_at d then_ e.location) (asks d c) (λ _. goes_on_one d then_ e.location h) (λ _. stays d h)

begins_at_one : (d : ClientDoing) (c : CurrentCall) (o : Option ℕ) → Unanswered d → One (begins_at d c o)
begins_at_one d c None h = stays d h
begins_at_one d c (Some index) h =
    let p : Place = record { file = c.file.0; index = index } in
    begins_with_one (record d { client = record d.client { cache = cache_after_look d.client p } }) c (cached d.client p) h

attempts_one : (d : ClientDoing) (c : CurrentCall) → Unanswered d → One (attempts d c)
attempts_one d c h =
    begins_at_one d (record c { deadline = moment_of (d.client.now + d.client.config.attempt_ms); is_nobody_serving = false; last_chunk = None; stage = IsOver })
    (chunk_to_find c c.asked) h

next_one : (d : ClientDoing) (c : CurrentCall) → Unanswered d → One (begins_next_part d c)
next_one d c h = attempts_one d (record c { index = suc c.index; left = d.client.config.attempts; lost_lease = false }) h

-- messages

gets_one : (d : ClientDoing) (c : CurrentCall) (found : List ℕ) (round : Option ℕ) → Unanswered d → One (gets d c found round)
gets_one d c found round h =
    let got : CurrentCall = record c { bytes = c.bytes ++ found; rounds = c.rounds ++ option_to_list round } in
    on_cond One (nat_lt (length found) (read_count (file_chunk d.client c.file.0) c.index c.asked) || not (has_next_part (file_chunk d.client c.file.0) c.index c.asked))
    (completes d got (answer.Bytes got.bytes got.rounds)) (begins_next_part d got)
    (λ _. completes_one d got (answer.Bytes got.bytes got.rounds) h) (λ _. next_one d got h)

told_none_one : (d : ClientDoing) (c : CurrentCall) (asked : Call) → Unanswered d → One d → One (told_none d c asked)
told_none_one d c (call.Read fd offset count) h p = gets_one d (record c { saw_no_holder = false }) [] None h
told_none_one d c (call.Length fd) h p = completes_one d c (answer.Length 0) h
told_none_one d c other h p = p

told_location_one : (d : ClientDoing) (c : CurrentCall) (l : Location) → Unanswered d → One (told_location d c l)
told_location_one d c l h =
    let there : ClientDoing = record d { client = record d.client { cache = with_location d.client c.file.0 l } } in
    let heard : CurrentCall = record c { told = moment_of d.client.now; saw_no_holder = false; is_nobody_serving = false } in
    on_cond One (is_empty_list l.holders) (with_current d (record c { stage = MustAskAgain; saw_no_holder = true; is_nobody_serving = true })) (goes_on_at there heard l)
    (λ _. stays d h) (λ _. goes_on_one there heard l h)

told_one : (d : ClientDoing) (c : CurrentCall) (o : Option Location) → Unanswered d → One d → One (told d c o)
told_one d c None h p = told_none_one d c c.asked h p
told_one d c (Some l) h p = told_location_one d c l h

takes_told_one : (d : ClientDoing) (c : CurrentCall) (st : Stage) (number : ℕ) (o : Option Location) → Unanswered d → One d → One (takes_told d c st number o)
takes_told_one d c (AskedWhere asked) number o h p = on_cond One (asked == number) (told d c o) d (λ _. told_one d c o h p) (λ _. p)
takes_told_one d c other number o h p = p

reply_one : (d : ClientDoing) (r : NameReply) → One (takes_reply d r)
reply_one d (Opened file shape) = refl
reply_one d (Answered reply) = refl

takes_named_one : (d : ClientDoing) (c : CurrentCall) (st : Stage) (number : ℕ) (r : NameReply) → One d → One (takes_named d c st number r)
takes_named_one d c AskedNames number r p = on_cond One (c.number == number) (takes_reply d r) d (λ _. reply_one d r) (λ _. p)
takes_named_one d c other number r p = p

takes_wait_one : (d : ClientDoing) (c : CurrentCall) (st : Stage) (number : ℕ) → Unanswered d → One d → One (takes_wait d c st number)
takes_wait_one d c (AskedWhere asked) number h p =
    on_cond One (asked == number) (with_current d (record c { stage = MustAskAgain; saw_no_holder = false; is_nobody_serving = false })) d (λ _. stays d h) (λ _. p)
takes_wait_one d c other number h p = p

takes_pushed_one : (d : ClientDoing) (c : CurrentCall) (st : Stage) (id : DataId) → Unanswered d → One d → One (takes_pushed d c st id)
takes_pushed_one d c (SentData chunk primary number) id h p =
    on_cond One (is_own_data d id number) (pushed_to d c chunk primary number) d
    (λ _. on_cond One (is_new_enough d.client c.told.0) (committed d c (mutate_planned d.client c chunk primary number)) (asks_anew d c) (λ _. stays d h) (λ _. stays d h)) (λ _. p)
takes_pushed_one d c other id h p = p

succeeds_one : (d : ClientDoing) (c : CurrentCall) (chunk : ToldChunk) (place : ℕ) → Unanswered d → One (succeeds d c chunk place)
succeeds_one d c chunk place h =
    let last : ClientDoing = record d { client = record d.client { files = with_last_append d.client.files c.file.0 (Some chunk.index) } } in
    let reply : Answer = answer.At (place_in_file (file_chunk d.client c.file.0) chunk.index place) in
    on_cond One (is_append c.asked) (completes last c reply) _ (λ _. completes_one last c reply h)
    (λ _. on_cond One (has_next_part (file_chunk d.client c.file.0) c.index c.asked) (begins_next_part d c) (completes d c answer.Done) (λ _. next_one d c h) (λ _. completes_one d c answer.Done h))

takes_done_one : (d : ClientDoing) (c : CurrentCall) (st : Stage) (id : DataId) (place : ℕ) → Unanswered d → One d → One (takes_done d c st id place)
takes_done_one d c (SentMutate chunk number) id place h p =
    on_cond One (is_own_data d id number) (succeeds d (less_live c chunk) chunk place) d (λ _. succeeds_one d (less_live c chunk) chunk place h) (λ _. p)
takes_done_one d c other id place h p = p

takes_bytes_one : (d : ClientDoing) (c : CurrentCall) (st : Stage) (number : ℕ) (bytes : List ℕ) → Unanswered d → One d → One (takes_bytes d c st number bytes)
takes_bytes_one d c (SentRead chunk left asked) number bytes h p =
    on_cond One ((asked == number) && not (is_length c.asked)) (gets d c bytes (Some chunk.round.0)) d (λ _. gets_one d c bytes (Some chunk.round.0) h) (λ _. p)
takes_bytes_one d c other number bytes h p = p

takes_len_one : (d : ClientDoing) (c : CurrentCall) (st : Stage) (number count : ℕ) → Unanswered d → One d → One (takes_len_is d c st number count)
takes_len_one d c (SentRead chunk left asked) number count h p =
    let reply : Answer = answer.Length (place_in_file (file_chunk d.client c.file.0) chunk.index count) in
    on_cond One ((asked == number) && is_length c.asked) (completes d c reply) d (λ _. completes_one d c reply h) (λ _. p)
takes_len_one d c other number count h p = p

master_refuses_one : (d : ClientDoing) (c : CurrentCall) (r : Refusal) → Unanswered d → One d → One (master_refuses d c r)
master_refuses_one d c TooLong h p = completes_one d c (answer.Refused TooLong) h
master_refuses_one d c Collected h p = completes_one d c (answer.Refused Collected) h
master_refuses_one d c other h p = p

full_one : (d : ClientDoing) (c : CurrentCall) (chunk : ToldChunk) → Unanswered d → One (finds_full d c chunk)
full_one d c chunk h =
    on_cond One (is_append c.asked) (with_current d (record c { stage = IsOver; index = suc chunk.index })) (ends_refused d c) (λ _. stays d h) (λ _. refused_one d c h)

primary_refuses_one : (d : ClientDoing) (c : CurrentCall) (chunk : ToldChunk) (r : Refusal) → Unanswered d → One (primary_refuses d c chunk r)
primary_refuses_one d c chunk NoChunk h = refused_one d (stays_live d c chunk) h
primary_refuses_one d c chunk NoLease h = refused_one d (stays_live d c chunk) h
primary_refuses_one d c chunk ChunkFull h = full_one d (less_live c chunk) chunk h
primary_refuses_one d c chunk other h = refused_one d (less_live c chunk) h

takes_refused_one : (d : ClientDoing) (c : CurrentCall) (st : Stage) (number : ℕ) (r : Refusal) → Unanswered d → One d → One (takes_refused d c st number r)
takes_refused_one d c (AskedWhere asked) number r h p = on_cond One (asked == number) (master_refuses d c r) d (λ _. master_refuses_one d c r h p) (λ _. p)
takes_refused_one d c (SentMutate chunk asked) number r h p =
    on_cond One (asked == number) (primary_refuses (forgets d c chunk) c chunk r) d (λ _. primary_refuses_one (forgets d c chunk) c chunk r h) (λ _. p)
takes_refused_one d c (SentRead chunk left asked) number r h p =
    let there : ClientDoing = forgets d c chunk in
    on_cond One (asked == number) (reader_refuses there c chunk left) d
    (λ _. on_cond One (is_new_enough there.client c.told.0) (reads_next there c chunk left) (asks_anew there c) (λ _. reads_one there c chunk left h) (λ _. stays there h)) (λ _. p)
takes_refused_one d c other number r h p = p

takes_one : (d : ClientDoing) (c : CurrentCall) (b : Body) → Unanswered d → One d → One (client_takes d c b)
takes_one d c (body.Named number reply) h p = takes_named_one d c c.stage number reply p
takes_one d c (body.Told number location) h p = takes_told_one d c c.stage number location h p
takes_one d c (body.Wait number) h p = takes_wait_one d c c.stage number h p
takes_one d c (body.Refused number refusal) h p = takes_refused_one d c c.stage number refusal h p
takes_one d c (body.Pushed id) h p = takes_pushed_one d c c.stage id h p
takes_one d c (body.Done id place) h p = takes_done_one d c c.stage id place h p
takes_one d c (body.Bytes number bytes) h p = takes_bytes_one d c c.stage number bytes h p
takes_one d c (body.LenIs number count) h p = takes_len_one d c c.stage number count h p
takes_one d c other h p = p

takes_at_one : (d : ClientDoing) (c : CurrentCall) (m : Message) (st : Stage) → Unanswered d → One d → One (takes_at d c m st)
takes_at_one d c m (HasAnswer reply) h p = completes_one d c reply h
takes_at_one d c m other h p = takes_one d c m.body h p

-- ticks

ticks_names_one : (d : ClientDoing) (c : CurrentCall) → Unanswered d → One d → One (ticks_names d c)
ticks_names_one d c h p =
    on_cond One (nat_lt d.client.now (c.deadline.0 + d.client.config.skew_ms)) d _ (λ _. p)
    (λ _. on_cond One (is_last_attempt c) (answers d (answer.Refused Unknown)) (attempts_names d (ended c)) (λ _. refl) (λ _. stays d h))

unanswered_one : (d : ClientDoing) (c : CurrentCall) → Unanswered d → One (ends_unanswered d c)
unanswered_one d c h =
    let over : CurrentCall = record (ended c) { lost_lease = false } in
    on_cond One (is_last_attempt c) (gives_up d over) (attempts d over) (λ _. gives_up_one d over h) (λ _. attempts_one d over h)

ticks_unanswered_one : (d : ClientDoing) (c : CurrentCall) (forget : ClientDoing → ClientDoing) → Unanswered (forget d) → One d → One (ticks_unanswered d c forget)
ticks_unanswered_one d c forget h p =
    on_cond One (nat_lt d.client.now (c.deadline.0 + d.client.config.skew_ms)) d (ends_unanswered (forget d) c) (λ _. p) (λ _. unanswered_one (forget d) c h)

ticks_one : (d : ClientDoing) (c : CurrentCall) (st : Stage) → Unanswered d → One d → One (ticks_at d c st)
ticks_one d c AskedNames h p = ticks_names_one d c h p
ticks_one d c (HasAnswer reply) h p = completes_one d c reply h
ticks_one d c IsOver h p = attempts_one d c h
ticks_one d c MustAskAgain h p =
    on_cond One (nat_lt d.client.now c.deadline.0) (asks d c) (ticks_unanswered d c (λ e. e)) (λ _. stays d h) (λ _. ticks_unanswered_one d c (λ e. e) h p)
ticks_one d c (AskedWhere number) h p = ticks_unanswered_one d c (λ e. e) h p
ticks_one d c (SentData chunk primary number) h p = ticks_unanswered_one d c (λ e. forgets e c chunk) h p
ticks_one d c (SentMutate chunk number) h p = ticks_unanswered_one d c (λ e. forgets e c chunk) h p
ticks_one d c (SentRead chunk left number) h p = ticks_unanswered_one d c (λ e. forgets e c chunk) h p

does_one : (d : ClientDoing) (i : NodeInput) (c : CurrentCall) → Unanswered d → One d → One (client_does d i (Some c))
does_one d (input.Deliver m) c h p = takes_at_one d c m c.stage h p
does_one d input.Tick c h p = ticks_one d c c.stage h p

-- an open call stays open or is answered, and without one nothing is answered
pub step_one : (s : ClientState) (i : NodeInput) (o : Option CurrentCall) → s.current ≡ o
    → one_if (is_some (client_does (client_begins s) i o).client.current) + one_if (is_some (client_does (client_begins s) i o).answer) ≡ one_if (is_some o)
step_one s i None e = ap (λ (o : Option CurrentCall). one_if (is_some o) + 0) e
step_one s i (Some c) e = does_one (client_begins s) i c refl (ap (λ (o : Option CurrentCall). one_if (is_some o) + 0) e)

-- calls

file_one : (d : ClientDoing) (c : Call) (file : ℕ) → is_name_call c ≡ false → Unanswered d → One (calls_file d c file)
file_one d (call.Close fd) file e h = refl
file_one d (call.Length fd) file e h = attempts_one d (new_call d.client.config.attempts 0 (call.Length fd) file 0 None) h
file_one d (call.Write fd offset bytes) file e h =
    let c : CurrentCall = new_call d.client.config.attempts 0 (call.Write fd offset bytes) file (offset / file_chunk d.client file) None in
    on_cond One (is_range_too_long offset (length bytes)) _ _ (λ _. refl)
    (λ _. on_cond One (length bytes == 0) _ (attempts d c) (λ _. refl) (λ _. attempts_one d c h))
file_one d (call.Append fd bytes) file e h =
    let c : CurrentCall = new_call d.client.config.attempts 0 (call.Append fd bytes) file 0 (last_append d.client.files file) in
    let noted : ClientDoing = record d { client = record d.client { files = with_last_append d.client.files file None } } in
    on_cond One (nat_lt (file_chunk d.client file / 4) (length bytes)) _ (attempts noted c) (λ _. refl) (λ _. attempts_one noted c h)
file_one d (call.Read fd offset count) file e h =
    let c : CurrentCall = new_call d.client.config.attempts 0 (call.Read fd offset count) file (offset / file_chunk d.client file) None in
    on_cond One (is_range_too_long offset count) _ _ (λ _. refl)
    (λ _. on_cond One (count == 0) _ (attempts d c) (λ _. refl) (λ _. attempts_one d c h))
file_one d other file e h = absurd (true≢false e)

calls_on_one : (d : ClientDoing) (c : Call) (o : Option ℕ) → is_name_call c ≡ false → Unanswered d → One (calls_on d c o)
calls_on_one d c None e h = refl
calls_on_one d c (Some file) e h = file_one d c file e h

-- a call that is taken is open then, or answered
pub call_one : (d : ClientDoing) (c : Call) → Unanswered d → One (calls d c)
call_one d c h =
    on_cond One (is_name_call c) (calls_names d c) (calls_on d c (table.get d.client.descriptors (fd_of c)))
    (λ _. stays d h) (λ e. calls_on_one d c (table.get d.client.descriptors (fd_of c)) e h)
