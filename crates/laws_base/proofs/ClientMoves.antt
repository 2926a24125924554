-- A step of a client sends no order of the master.
use Rattle.std.proofs.Common.{◌≡◌, ℕ, suc, ◌+◌, true, false, List, [], ◌∷◌, ◌++◌, length, Option, Some, None, refl, arith}
use Rattle.std.specs.Prelude.{nat_lt, ◌==◌, ◌&&◌, ◌||◌, not, ◌/◌}
use Rattle.std.specs.Option.{option_to_list}
use Rattle.std.specs.List.{list_any}
use Rattle.std.specs.FinMap as table
use Rattle.gfs_types.specs.declared.ids.ServerId.{ServerId}
use Rattle.gfs_types.specs.declared.ids.Node.{Node}
use Rattle.gfs_types.specs.declared.ids.Node.TheVariants.{Master}
use Rattle.gfs_types.specs.declared.ids.DataId.{DataId}
use Rattle.gfs_types.specs.declared.ids.OrderNo.{OrderNo}
use Rattle.gfs_types.specs.declared.call.Call.{Call}
use Rattle.gfs_types.specs.declared.call.Call.TheVariants as call
use Rattle.gfs_types.specs.declared.answer.Answer.{Answer}
use Rattle.gfs_types.specs.declared.answer.Answer.TheVariants as answer
use Rattle.gfs_types.specs.declared.refusal.Refusal.{Refusal}
use Rattle.gfs_types.specs.declared.refusal.Refusal.TheVariants.{TooLong, Unknown, NoMemory, Collected, NoChunk, NoLease, ChunkFull}
use Rattle.messages.specs.declared.message.NameReply.{NameReply}
use Rattle.messages.specs.declared.message.NameReply.TheVariants.{Opened, Answered}
use Rattle.messages.specs.declared.message.Body.{Body}
use Rattle.messages.specs.declared.message.Body.TheVariants as body
use Rattle.messages.specs.declared.message.Message.{Message}
use Rattle.messages.specs.declared.message.Location.{Location}
use Rattle.messages.specs.declared.message.Holder.{Holder}
use Rattle.messages.specs.declared.message.Group.{Group}
use Rattle.messages.specs.declared.event.NodeInput.{NodeInput}
use Rattle.messages.specs.declared.event.NodeInput.TheVariants as input
use Rattle.relaxed_file.specs.NameStep.{is_look, is_name_call}
use Rattle.relaxed_file.specs.Parts.{is_range_too_long}
use Rattle.protocol.specs.Tables.{is_empty_list}
use Rattle.protocol.specs.Sending.{message, the_server, moment_of, data_id, order_number}
use Rattle.protocol.specs.Choice.{Choice, Ending, Goes, Lost, Stops}
use Rattle.protocol.specs.Seen.{Taken, no_step}
use Rattle.protocol.specs.MasterSnapshots.{first_is_true}
use Rattle.protocol.specs.PushBuffer.{next_hop, hops_after}
use Rattle.client_state.specs.declared.call.CurrentCall.{CurrentCall}
use Rattle.client_state.specs.declared.kept.Place.{Place}
use Rattle.client_state.specs.declared.kept.Cached.{Cached}
use Rattle.client_state.specs.declared.call.ToldChunk.{ToldChunk}
use Rattle.client_state.specs.declared.call.Stage.{Stage}
use Rattle.client_state.specs.declared.call.Stage.TheVariants.{AskedNames, AskedWhere, MustAskAgain, SentData, SentMutate, SentRead, IsOver, HasAnswer}
use Rattle.protocol.specs.Client.{file_chunk, place_in_file, ClientState, ClientDoing, client_begins, Plan, committed, from_client, with_current, answers}
use Rattle.protocol.specs.ClientCache.{cached, cache_after_look, with_location, is_new_enough}
use Rattle.protocol.specs.ClientFiles.{last_append, with_last_append}
use Rattle.protocol.specs.ClientAttempts.{is_mutation, is_length, is_append, bytes_to_send, read_start, read_count, wanted_by, has_next_part, is_live_at, completes, last_refusal, gives_up, ended, is_last_attempt, ends_refused, asks, read_planned, reads_next, push_planned_to, push_planned, mutate_planned, chunk_of, goes_on_at, will_do, begins_with, begins_at, chunk_to_find, attempts, attempts_names, begins_next_part, forgets, asks_anew}
use Rattle.protocol.specs.ClientTakes.{takes_reply, takes_named, takes_wait, gets, told_none, told_location, told, takes_told, is_own_data, takes_pushed, less_live, succeeds, takes_done, takes_bytes, takes_len_is, master_refuses, stays_live, finds_full, primary_refuses, takes_refused, client_takes, pushed_to, reader_refuses}
use Rattle.protocol.specs.ClientStep.{new_call, calls_names, calls_file, calls_on, fd_of, calls, ticks_names, ends_unanswered, ticks_unanswered, ticks_at, takes_at, client_does, client_at, client_goes, client_call_goes, may_step, client_ends, client_call, client_step}
use Rattle.laws_base.specs.Laws.{orders_under, is_number}
use Rattle.laws_base.proofs.Steps.{on_cond, tally, count-cons, count-append}
use Rattle.laws_base.proofs.Words.{is_of_lease, AreQuiet, no_order}

-- no order under any number
abbrev pub HasNoOrder : List Message → Type 0
HasNoOrder sent = (epoch count : ℕ) → orders_under epoch count sent ≡ 0

not_counted : (epoch count : ℕ) (o : Option OrderNo) → o ≡ None → tally (is_number epoch count o) ≡ 0
not_counted epoch count None e = refl
not_counted epoch count (Some order) e = absurd (cc)

pub one_more : (sent : List Message) (sender receiver : Node) (b : Body) → order_number b ≡ None → (epoch count : ℕ)
    → orders_under epoch count (sent ++ message sender receiver b ∷ []) ≡ orders_under epoch count sent
one_more sent sender receiver b none epoch count =
    let whole = count-append (λ (m : Message). is_number epoch count (order_number m.body)) sent (message sender receiver b ∷ []) in
    let last = not_counted epoch count (order_number b) none in
    omega (arith, whole, last)

-- messages that don't speak of leases are no orders
pub quiet_orders : (ms : List Message) → AreQuiet ms → HasNoOrder ms
quiet_orders [] all epoch count = refl
quiet_orders (m ∷ ms) all epoch count =
    let whole = count-cons (λ (x : Message). is_number epoch count (order_number x.body)) m ms in
    let first = not_counted epoch count (order_number m.body) (no_order m.body all.0) in
    let rest = quiet_orders ms all.1 epoch count in
    omega (arith, whole, first, rest)

abbrev Quiet : ClientDoing → Type 0
Quiet d = AreQuiet (option_to_list d.sent)

abbrev PlanQuiet : Plan → Type 0
PlanQuiet p = AreQuiet (option_to_list p.sent)

from_quiet : (s : ClientState) (receiver : Node) (b : Body) → is_of_lease b ≡ false → AreQuiet (option_to_list (from_client s receiver b))
from_quiet s receiver b quiet = (quiet, tt)

-- attempts

completes_quiet : (d : ClientDoing) (c : CurrentCall) (reply : Answer) → Quiet d → Quiet (completes d c reply)
completes_quiet d c reply h =
    on_cond Quiet (is_mutation c.asked && list_any (is_live_at d.client.now) c.live) (with_current d (record c { stage = HasAnswer reply })) (answers d reply) (λ _. h) (λ _. h)

gives_up_quiet : (d : ClientDoing) (c : CurrentCall) → Quiet d → Quiet (gives_up d c)
gives_up_quiet d c h = completes_quiet d c (answer.Refused (last_refusal c)) h

refused_quiet : (d : ClientDoing) (c : CurrentCall) → Quiet d → Quiet (ends_refused d c)
refused_quiet d c h = on_cond Quiet (is_last_attempt c) (gives_up d (ended c)) (with_current d (ended c)) (λ _. gives_up_quiet d (ended c) h) (λ _. h)

asks_quiet : (d : ClientDoing) (c : CurrentCall) → Quiet (asks d c)
asks_quiet d c = from_quiet d.client Master (body.Ask (suc d.client.number) c.file (wanted_by c.index c.asked) c.deadline c.lost_lease) refl

read_quiet : (s : ClientState) (c : CurrentCall) (chunk : ToldChunk) (h : Holder) (rest : List Holder) → PlanQuiet (read_planned s c chunk h rest)
read_quiet s c chunk h rest =
    let read : Body = body.Read (suc s.number) chunk.handle h.version (read_start (file_chunk s c.file.0) c.index c.asked) (read_count (file_chunk s c.file.0) c.index c.asked) in
    on_cond (λ (b : Body). AreQuiet (option_to_list (from_client s (the_server h.server.0) b))) (is_length c.asked) (body.Len (suc s.number) chunk.handle h.version) read (λ _. (refl, tt)) (λ _. (refl, tt))

reads_quiet : (d : ClientDoing) (c : CurrentCall) (chunk : ToldChunk) (left : List Holder) → Quiet d → Quiet (reads_next d c chunk left)
reads_quiet d c chunk [] h = refused_quiet d (record c { is_nobody_serving = true }) h
reads_quiet d c chunk (s ∷ rest) h = read_quiet d.client c chunk s rest

push_to_quiet : (s : ClientState) (c : CurrentCall) (chunk : ToldChunk) (g : Group) (o : Option ServerId) → PlanQuiet (push_planned_to s c chunk g o)
push_to_quiet s c chunk g None = tt
push_to_quiet s c chunk g (Some first) =
    from_quiet s (the_server first.0) (body.Push (data_id s.id (suc s.number)) (bytes_to_send (file_chunk s c.file.0) c.index c.asked) (hops_after g.members first.0)) refl

push_quiet : (s : ClientState) (c : CurrentCall) (chunk : ToldChunk) (o : Option Group) → PlanQuiet (push_planned s c chunk o)
push_quiet s c chunk None = tt
push_quiet s c chunk (Some g) = push_to_quiet s c chunk g (next_hop g.members 0)

goes_on_quiet : (d : ClientDoing) (c : CurrentCall) (l : Location) → Quiet d → Quiet (goes_on_at d c l)
goes_on_quiet d c l h =
    on_cond Quiet (is_mutation c.asked) (committed d c (push_planned d.client c (chunk_of l) l.group)) (reads_next d c (chunk_of l) l.holders)
    (λ _. push_quiet d.client c (chunk_of l) l.group) (λ _. reads_quiet d c (chunk_of l) l.holders h)

begins_with_quiet : (d : ClientDoing) (c : CurrentCall) (o : Option Cached) → Quiet d → Quiet (begins_with d c o)
begins_with_quiet d c None h = asks_quiet d c
begins_with_quiet d c (Some e) h =
    let then_ : CurrentCall = record c { told = e.told } in
    on_cond Quiet (will_do c e) (goes_on_at d then_ e.location) (asks d c) (λ _. goes_on_quiet d then_ e.location h) (λ _. asks_quiet d c)

begins_at_quiet : (d : ClientDoing) (c : CurrentCall) (o : Option ℕ) → Quiet d → Quiet (begins_at d c o)
begins_at_quiet d c None h = asks_quiet d c
begins_at_quiet d c (Some index) h =
    let p : Place = record { file = c.file.0; index = index } in
    begins_with_quiet (record d { client = record d.client { cache = cache_after_look d.client p } }) c (cached d.client p) h

attempts_quiet : (d : ClientDoing) (c : CurrentCall) → Quiet d → Quiet (attempts d c)
attempts_quiet d c h =
    begins_at_quiet d (record c { deadline = moment_of (d.client.now + d.client.config.attempt_ms); is_nobody_serving = false; last_chunk = None; stage = IsOver }) (chunk_to_find c c.asked) h

names_quiet : (d : ClientDoing) (c : CurrentCall) → Quiet (attempts_names d c)
names_quiet d c =
    let deadline : ℕ = d.client.now + d.client.config.attempt_ms in
    on_cond (λ (b : Body). AreQuiet (option_to_list (from_client d.client Master b))) (is_look c.asked) (body.Look c.number c.asked) (body.Name c.number (moment_of deadline) c.asked)
    (λ _. (refl, tt)) (λ _. (refl, tt))

next_quiet : (d : ClientDoing) (c : CurrentCall) → Quiet d → Quiet (begins_next_part d c)
next_quiet d c h = attempts_quiet d (record c { index = suc c.index; left = d.client.config.attempts; lost_lease = false }) h

-- messages

reply_quiet : (d : ClientDoing) (r : NameReply) → Quiet d → Quiet (takes_reply d r)
reply_quiet d (Opened file shape) h = h
reply_quiet d (Answered reply) h = h

named_quiet : (d : ClientDoing) (c : CurrentCall) (s : Stage) (number : ℕ) (r : NameReply) → Quiet d → Quiet (takes_named d c s number r)
named_quiet d c AskedNames number r h = on_cond Quiet (c.number == number) (takes_reply d r) d (λ _. reply_quiet d r h) (λ _. h)
named_quiet d c other number r h = h

wait_quiet : (d : ClientDoing) (c : CurrentCall) (s : Stage) (number : ℕ) → Quiet d → Quiet (takes_wait d c s number)
wait_quiet d c (AskedWhere asked) number h = on_cond Quiet (asked == number) _ d (λ _. h) (λ _. h)
wait_quiet d c other number h = h

gets_quiet : (d : ClientDoing) (c : CurrentCall) (found : List ℕ) (round : Option ℕ) → Quiet d → Quiet (gets d c found round)
gets_quiet d c found round h =
    let got : CurrentCall = record c { bytes = c.bytes ++ found; rounds = c.rounds ++ option_to_list round } in
    on_cond Quiet (nat_lt (length found) (read_count (file_chunk d.client c.file.0) c.index c.asked) || not (has_next_part (file_chunk d.client c.file.0) c.index c.asked))
    (completes d got (answer.Bytes got.bytes got.rounds)) (begins_next_part d got)
    (λ _. completes_quiet d got (answer.Bytes got.bytes got.rounds) h) (λ _. next_quiet d got h)

told_none_quiet : (d : ClientDoing) (c : CurrentCall) (asked : Call) → Quiet d → Quiet (told_none d c asked)
told_none_quiet d c (call.Read fd offset count) h = gets_quiet d (record c { saw_no_holder = false }) [] None h
told_none_quiet d c (call.Length fd) h = completes_quiet d c (answer.Length 0) h
told_none_quiet d c other h = h

told_location_quiet : (d : ClientDoing) (c : CurrentCall) (l : Location) → Quiet d → Quiet (told_location d c l)
told_location_quiet d c l h =
    let kept : ClientDoing = record d { client = record d.client { cache = with_location d.client c.file.0 l } } in
    let there : CurrentCall = record c { told = moment_of d.client.now; saw_no_holder = false; is_nobody_serving = false } in
    on_cond Quiet (is_empty_list l.holders) _ (goes_on_at kept there l) (λ _. h) (λ _. goes_on_quiet kept there l h)

told_quiet : (d : ClientDoing) (c : CurrentCall) (o : Option Location) → Quiet d → Quiet (told d c o)
told_quiet d c None h = told_none_quiet d c c.asked h
told_quiet d c (Some l) h = told_location_quiet d c l h

takes_told_quiet : (d : ClientDoing) (c : CurrentCall) (s : Stage) (number : ℕ) (o : Option Location) → Quiet d → Quiet (takes_told d c s number o)
takes_told_quiet d c (AskedWhere asked) number o h = on_cond Quiet (asked == number) (told d c o) d (λ _. told_quiet d c o h) (λ _. h)
takes_told_quiet d c other number o h = h

pushed_to_quiet : (d : ClientDoing) (c : CurrentCall) (chunk : ToldChunk) (primary : ServerId) (number : ℕ) → Quiet d → Quiet (pushed_to d c chunk primary number)
pushed_to_quiet d c chunk primary number h =
    on_cond Quiet (is_new_enough d.client c.told.0) (committed d c (mutate_planned d.client c chunk primary number)) (asks_anew d c) (λ _. (refl, tt)) (λ _. h)

pushed_quiet : (d : ClientDoing) (c : CurrentCall) (s : Stage) (id : DataId) → Quiet d → Quiet (takes_pushed d c s id)
pushed_quiet d c (SentData chunk primary number) id h =
    on_cond Quiet (is_own_data d id number) (pushed_to d c chunk primary number) d (λ _. pushed_to_quiet d c chunk primary number h) (λ _. h)
pushed_quiet d c other id h = h

succeeds_quiet : (d : ClientDoing) (c : CurrentCall) (chunk : ToldChunk) (place : ℕ) → Quiet d → Quiet (succeeds d c chunk place)
succeeds_quiet d c chunk place h =
    let last : ClientDoing = record d { client = record d.client { files = with_last_append d.client.files c.file.0 (Some chunk.index) } } in
    let reply : Answer = answer.At (place_in_file (file_chunk d.client c.file.0) chunk.index place) in
    on_cond Quiet (is_append c.asked) (completes last c reply) _ (λ _. completes_quiet last c reply h)
    (λ _. on_cond Quiet (has_next_part (file_chunk d.client c.file.0) c.index c.asked) (begins_next_part d c) (completes d c answer.Done) (λ _. next_quiet d c h) (λ _. completes_quiet d c answer.Done h))

done_quiet : (d : ClientDoing) (c : CurrentCall) (s : Stage) (id : DataId) (place : ℕ) → Quiet d → Quiet (takes_done d c s id place)
done_quiet d c (SentMutate chunk number) id place h =
    on_cond Quiet (is_own_data d id number) (succeeds d (less_live c chunk) chunk place) d (λ _. succeeds_quiet d (less_live c chunk) chunk place h) (λ _. h)
done_quiet d c other id place h = h

bytes_quiet : (d : ClientDoing) (c : CurrentCall) (s : Stage) (number : ℕ) (bytes : List ℕ) → Quiet d → Quiet (takes_bytes d c s number bytes)
bytes_quiet d c (SentRead chunk left asked) number bytes h =
    on_cond Quiet ((asked == number) && not (is_length c.asked)) (gets d c bytes (Some chunk.round.0)) d (λ _. gets_quiet d c bytes (Some chunk.round.0) h) (λ _. h)
bytes_quiet d c other number bytes h = h

len_quiet : (d : ClientDoing) (c : CurrentCall) (s : Stage) (number count : ℕ) → Quiet d → Quiet (takes_len_is d c s number count)
len_quiet d c (SentRead chunk left asked) number count h =
    let reply : Answer = answer.Length (place_in_file (file_chunk d.client c.file.0) chunk.index count) in
    on_cond Quiet ((asked == number) && is_length c.asked) (completes d c reply) d (λ _. completes_quiet d c reply h) (λ _. h)
len_quiet d c other number count h = h

master_refuses_quiet : (d : ClientDoing) (c : CurrentCall) (r : Refusal) → Quiet d → Quiet (master_refuses d c r)
master_refuses_quiet d c TooLong h = completes_quiet d c (answer.Refused TooLong) h
master_refuses_quiet d c Collected h = completes_quiet d c (answer.Refused Collected) h
master_refuses_quiet d c other h = h

full_quiet : (d : ClientDoing) (c : CurrentCall) (chunk : ToldChunk) → Quiet d → Quiet (finds_full d c chunk)
full_quiet d c chunk h = on_cond Quiet (is_append c.asked) (with_current d (record c { stage = IsOver; index = suc chunk.index })) (ends_refused d c) (λ _. h) (λ _. refused_quiet d c h)

primary_refuses_quiet : (d : ClientDoing) (c : CurrentCall) (chunk : ToldChunk) (r : Refusal) → Quiet d → Quiet (primary_refuses d c chunk r)
primary_refuses_quiet d c chunk NoChunk h = refused_quiet d (stays_live d c chunk) h
primary_refuses_quiet d c chunk NoLease h = refused_quiet d (stays_live d c chunk) h
primary_refuses_quiet d c chunk ChunkFull h = full_quiet d (less_live c chunk) chunk h
primary_refuses_quiet d c chunk other h = refused_quiet d (less_live c chunk) h

reader_quiet : (d : ClientDoing) (c : CurrentCall) (chunk : ToldChunk) (left : List Holder) → Quiet d → Quiet (reader_refuses d c chunk left)
reader_quiet d c chunk left h = on_cond Quiet (is_new_enough d.client c.told.0) (reads_next d c chunk left) (asks_anew d c) (λ _. reads_quiet d c chunk left h) (λ _. h)

takes_refused_quiet : (d : ClientDoing) (c : CurrentCall) (s : Stage) (number : ℕ) (r : Refusal) → Quiet d → Quiet (takes_refused d c s number r)
takes_refused_quiet d c (AskedWhere asked) number r h = on_cond Quiet (asked == number) (master_refuses d c r) d (λ _. master_refuses_quiet d c r h) (λ _. h)
takes_refused_quiet d c (SentMutate chunk asked) number r h = on_cond Quiet (asked == number) (primary_refuses (forgets d c chunk) c chunk r) d (λ _. primary_refuses_quiet (forgets d c chunk) c chunk r h) (λ _. h)
takes_refused_quiet d c (SentRead chunk left asked) number r h = on_cond Quiet (asked == number) (reader_refuses (forgets d c chunk) c chunk left) d (λ _. reader_quiet (forgets d c chunk) c chunk left h) (λ _. h)
takes_refused_quiet d c other number r h = h

takes_quiet : (d : ClientDoing) (c : CurrentCall) (b : Body) → Quiet d → Quiet (client_takes d c b)
takes_quiet d c (body.Named number reply) h = named_quiet d c c.stage number reply h
takes_quiet d c (body.Told number location) h = takes_told_quiet d c c.stage number location h
takes_quiet d c (body.Wait number) h = wait_quiet d c c.stage number h
takes_quiet d c (body.Refused number refusal) h = takes_refused_quiet d c c.stage number refusal h
takes_quiet d c (body.Pushed id) h = pushed_quiet d c c.stage id h
takes_quiet d c (body.Done id place) h = done_quiet d c c.stage id place h
takes_quiet d c (body.Bytes number bytes) h = bytes_quiet d c c.stage number bytes h
takes_quiet d c (body.LenIs number count) h = len_quiet d c c.stage number count h
takes_quiet d c other h = h

-- calls and ticks

file_quiet : (d : ClientDoing) (c : Call) (file : ℕ) → Quiet d → Quiet (calls_file d c file)
file_quiet d (call.Close fd) file h = h
file_quiet d (call.Length fd) file h = attempts_quiet d (new_call d.client.config.attempts 0 (call.Length fd) file 0 None) h
file_quiet d (call.Write fd offset bytes) file h =
    let c : CurrentCall = new_call d.client.config.attempts 0 (call.Write fd offset bytes) file (offset / file_chunk d.client file) None in
    on_cond Quiet (is_range_too_long offset (length bytes)) _ _ (λ _. h) (λ _. on_cond Quiet (length bytes == 0) _ (attempts d c) (λ _. h) (λ _. attempts_quiet d c h))
file_quiet d (call.Append fd bytes) file h =
    let last : ClientDoing = record d { client = record d.client { files = with_last_append d.client.files file None } } in
    let c : CurrentCall = new_call d.client.config.attempts 0 (call.Append fd bytes) file 0 (last_append d.client.files file) in
    on_cond Quiet (nat_lt (file_chunk d.client file / 4) (length bytes)) _ (attempts last c) (λ _. h) (λ _. attempts_quiet last c h)
file_quiet d (call.Read fd offset count) file h =
    let c : CurrentCall = new_call d.client.config.attempts 0 (call.Read fd offset count) file (offset / file_chunk d.client file) None in
    on_cond Quiet (is_range_too_long offset count) _ _ (λ _. h) (λ _. on_cond Quiet (count == 0) _ (attempts d c) (λ _. h) (λ _. attempts_quiet d c h))
file_quiet d other file h = h

calls_on_quiet : (d : ClientDoing) (c : Call) (o : Option ℕ) → Quiet d → Quiet (calls_on d c o)
calls_on_quiet d c None h = h
calls_on_quiet d c (Some file) h = file_quiet d c file h

calls_quiet : (d : ClientDoing) (c : Call) → Quiet d → Quiet (calls d c)
calls_quiet d c h =
    let more : ClientDoing = record d { client = record d.client { call_count = suc d.client.call_count } } in
    on_cond Quiet (is_name_call c) (calls_names d c) (calls_on d c (table.get d.client.descriptors (fd_of c)))
    (λ _. names_quiet more (new_call d.client.config.attempts (suc d.client.call_count) c 0 0 None))
    (λ _. calls_on_quiet d c (table.get d.client.descriptors (fd_of c)) h)

ticks_names_quiet : (d : ClientDoing) (c : CurrentCall) → Quiet d → Quiet (ticks_names d c)
ticks_names_quiet d c h =
    on_cond Quiet (nat_lt d.client.now (c.deadline.0 + d.client.config.skew_ms)) d _ (λ _. h)
    (λ _. on_cond Quiet (is_last_attempt c) (answers d (answer.Refused Unknown)) (attempts_names d (ended c)) (λ _. h) (λ _. names_quiet d (ended c)))

unanswered_quiet : (d : ClientDoing) (c : CurrentCall) → Quiet d → Quiet (ends_unanswered d c)
unanswered_quiet d c h =
    let over : CurrentCall = record (ended c) { lost_lease = false } in
    on_cond Quiet (is_last_attempt c) (gives_up d over) (attempts d over) (λ _. gives_up_quiet d over h) (λ _. attempts_quiet d over h)

ticks_unanswered_quiet : (d : ClientDoing) (c : CurrentCall) (forget : ClientDoing → ClientDoing) → Quiet d → Quiet (forget d) → Quiet (ticks_unanswered d c forget)
ticks_unanswered_quiet d c forget h g =
    on_cond Quiet (nat_lt d.client.now (c.deadline.0 + d.client.config.skew_ms)) d (ends_unanswered (forget d) c) (λ _. h) (λ _. unanswered_quiet (forget d) c g)

ticks_quiet : (d : ClientDoing) (c : CurrentCall) (s : Stage) → Quiet d → Quiet (ticks_at d c s)
ticks_quiet d c AskedNames h = ticks_names_quiet d c h
ticks_quiet d c (HasAnswer reply) h = completes_quiet d c reply h
ticks_quiet d c IsOver h = attempts_quiet d c h
ticks_quiet d c MustAskAgain h =
    on_cond Quiet (nat_lt d.client.now c.deadline.0) (asks d c) (ticks_unanswered d c (λ e. e)) (λ _. asks_quiet d c) (λ _. ticks_unanswered_quiet d c (λ e. e) h h)
ticks_quiet d c (AskedWhere number) h = ticks_unanswered_quiet d c (λ e. e) h h
ticks_quiet d c (SentData chunk primary number) h = ticks_unanswered_quiet d c (λ e. forgets e c chunk) h h
ticks_quiet d c (SentMutate chunk number) h = ticks_unanswered_quiet d c (λ e. forgets e c chunk) h h
ticks_quiet d c (SentRead chunk left number) h = ticks_unanswered_quiet d c (λ e. forgets e c chunk) h h

takes_at_quiet : (d : ClientDoing) (c : CurrentCall) (m : Message) (s : Stage) → Quiet d → Quiet (takes_at d c m s)
takes_at_quiet d c m (HasAnswer reply) h = completes_quiet d c reply h
takes_at_quiet d c m other h = takes_quiet d c m.body h

does_quiet : (d : ClientDoing) (i : NodeInput) (o : Option CurrentCall) → Quiet d → Quiet (client_does d i o)
does_quiet d i None h = h
does_quiet d (input.Deliver m) (Some c) h = takes_at_quiet d c m c.stage h
does_quiet d input.Tick (Some c) h = ticks_quiet d c c.stage h

client_ends_quiet : (s : ClientState) (d : ClientDoing) (e : Ending) → Quiet d → AreQuiet (client_ends s d e).out.sent
client_ends_quiet s d Goes h = h
client_ends_quiet s d Lost h = tt
client_ends_quiet s d (Stops made) h = tt

pub client_quiet : (s : ClientState) (moment : ℕ) (i : NodeInput) (choice : Choice) → AreQuiet (client_step s moment i choice).out.sent
client_quiet s moment i choice =
    on_cond (λ (t : Taken ClientState). AreQuiet t.out.sent) (may_step s) (client_ends s (client_goes s moment i) choice.ending) (no_step s)
    (λ _. client_ends_quiet s (client_goes s moment i) choice.ending (does_quiet (client_begins (client_at s moment)) i s.current tt)) (λ _. tt)

pub call_quiet : (s : ClientState) (moment : ℕ) (c : Call) (choice : Choice) → AreQuiet (client_call s moment c choice).out.sent
call_quiet s moment c choice =
    let refused : ClientDoing = answers (client_begins (client_at s moment)) (answer.Refused NoMemory) in
    on_cond (λ (t : Taken ClientState). AreQuiet t.out.sent) (first_is_true choice.refused) (client_ends s refused choice.ending) (client_ends s (client_call_goes s moment c) choice.ending)
    (λ _. client_ends_quiet s refused choice.ending tt) (λ _. client_ends_quiet s (client_call_goes s moment c) choice.ending (calls_quiet (client_begins (client_at s moment)) c tt))
