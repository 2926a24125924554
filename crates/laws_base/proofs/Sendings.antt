-- In a step a client that has an append open answers it with a place only where a Done of data tells it, or told it before, that it pushed for this call.
use Rattle.std.proofs.Common.{◌⊎◌, inl, inr, ◌≡◌, ℕ, suc, ◌+◌, true, false, true≢false, cond, List, [], ◌∷◌, ◌++◌, length, Option, Some, None, refl, sym, ap, subst, ◌∙◌, max}
use Rattle.std.specs.Prelude.{nat_lt, not, ◌==◌, ◌&&◌, ◌||◌, option_map, unwrap_or}
use Rattle.std.specs.Option.{option_to_list}
use Rattle.std.specs.List.{list_any}
use Rattle.std.specs.FinMap as table
use Rattle.std.proofs.lemmas.Bool.{eqb-true, and_parts}
use Rattle.gfs_types.specs.declared.ids.DataId.{DataId}
use Rattle.gfs_types.specs.declared.ids.ServerId.{ServerId}
use Rattle.gfs_types.specs.declared.call.Call.{Call}
use Rattle.gfs_types.specs.declared.call.Call.TheVariants as call
use Rattle.gfs_types.specs.declared.answer.Answer.{Answer}
use Rattle.gfs_types.specs.declared.answer.Answer.TheVariants as answer
use Rattle.gfs_types.specs.declared.refusal.Refusal.{Refusal}
use Rattle.gfs_types.specs.declared.refusal.Refusal.TheVariants.{TooLong, Collected, NoChunk, NoLease, ChunkFull, Unknown}
use Rattle.messages.specs.declared.event.NodeInput.{NodeInput}
use Rattle.messages.specs.declared.event.NodeInput.TheVariants as input
use Rattle.messages.specs.declared.message.NameReply.{NameReply}
use Rattle.messages.specs.declared.message.NameReply.TheVariants.{Opened, Answered}
use Rattle.messages.specs.declared.message.Body.{Body}
use Rattle.messages.specs.declared.message.Body.TheVariants as body
use Rattle.messages.specs.declared.message.Message.{Message}
use Rattle.messages.specs.declared.message.Location.{Location}
use Rattle.messages.specs.declared.message.Holder.{Holder}
use Rattle.messages.specs.declared.message.Group.{Group}
use Rattle.relaxed_file.specs.NameStep.{is_name_call}
use Rattle.relaxed_file.specs.Parts.{is_range_too_long}
use Rattle.protocol.specs.Tables.{is_empty_list, element_at}
use Rattle.protocol.specs.PushBuffer.{next_hop, hops_after}
use Rattle.protocol.specs.Sending.{data_id, the_client, moment_of}
use Rattle.client_state.specs.declared.call.CurrentCall.{CurrentCall}
use Rattle.client_state.specs.declared.call.ToldChunk.{ToldChunk}
use Rattle.client_state.specs.declared.kept.Place.{Place}
use Rattle.client_state.specs.declared.kept.Cached.{Cached}
use Rattle.client_state.specs.declared.call.Stage.{Stage}
use Rattle.client_state.specs.declared.call.Stage.TheVariants.{AskedNames, AskedWhere, MustAskAgain, SentData, SentMutate, SentRead, IsOver, HasAnswer}
use Rattle.protocol.specs.Client.{file_chunk, place_in_file, ClientDoing, committed, with_current, answers, ClientState}
use Rattle.protocol.specs.ClientFiles.{with_last_append, last_append, with_append_of}
use Rattle.protocol.specs.ClientCache.{cached, cache_after_look, with_location, is_new_enough}
use Rattle.protocol.specs.ClientAttempts.{is_mutation, bytes_to_send, is_append, is_length, read_count, has_next_part, is_live_at, completes, last_refusal, gives_up, ended, is_last_attempt, ends_refused, asks, reads_next, push_planned_to, push_planned, mutate_planned, chunk_of, goes_on_at, will_do, begins_with, begins_at, chunk_to_find, attempts, attempts_names, begins_next_part, forgets, asks_anew}
use Rattle.protocol.specs.ClientTakes.{takes_reply, takes_named, takes_wait, gets, told_none, told_location, told, takes_told, is_own_data, takes_pushed, less_live, succeeds, takes_done, takes_bytes, takes_len_is, master_refuses, stays_live, finds_full, primary_refuses, takes_refused, client_takes, pushed_to, reader_refuses}
use Rattle.protocol.specs.ClientStep.{new_call, calls_names, calls_file, calls_on, fd_of, calls, ticks_names, ends_unanswered, ticks_unanswered, ticks_at, takes_at, client_does}
use Rattle.laws_base.proofs.Steps.{on_cond, none_some, same_or_not, put_there, put_other}
use Rattle.client_state.specs.declared.kept.OpenFile.{OpenFile}

-- the bytes of an append
abbrev pub appended : Call → List ℕ
appended (call.Append fd bytes) = bytes
appended other = []

sends_appended : (A : Call) (chunk index : ℕ) → is_append A ≡ true → bytes_to_send chunk index A ≡ appended A
sends_appended (call.Append fd bytes) chunk index it = refl
sends_appended other chunk index it = absurd (true≢false (sym it))

-- a client pushes these bytes under this number
pub record IsPushOf (client number : ℕ) (bytes : List ℕ) (m : Message) : Type 0 where
  pub id : DataId
  pub rest : List ℕ
  pub sender_is : m.sender ≡ the_client client
  pub body_is : m.body ≡ body.Push id bytes rest
  pub client_is : id.client.0 ≡ client
  pub seq_is : id.seq ≡ number

-- an append is noted of an open file, which keeps its size
pub noted_size : (s : ClientState) (file : ℕ) (index : Option ℕ) (g : ℕ) → file_chunk (record s { files = with_last_append s.files file index }) g ≡ file_chunk s g
noted_size s file index g = by_row (table.get s.files file) refl
  where
    size_in : Option OpenFile → ℕ
    size_in o = max 1 (unwrap_or (option_map (λ (f : OpenFile). f.shape.chunk) o) s.config.chunk)

    by_row : (o : Option OpenFile) → table.get s.files file ≡ o → size_in (table.get (with_append_of s.files file index o) g) ≡ size_in (table.get s.files g)
    by_row None is = refl
    by_row (Some f) is = elim (same_or_not g file) [
      | inl same ↦
          ap (λ (o : Option OpenFile). size_in o) (put_there s.files file (record f { last_append = index }) g same)
          ∙ ap (λ (o : Option OpenFile). size_in o) (sym (ap (λ (k : ℕ). table.get s.files k) same ∙ is))
      | inr other ↦ ap (λ (o : Option OpenFile). size_in o) (put_other s.files file (record f { last_append = index }) g other)
    ]

-- A: the call that is open in the step, File: its file, Size: the size of the file's chunks, F: the places that it may be answered as an append, Own: the client, Sent: what was sent before
module _ (A : Call) (File : ℕ) (F : ℕ → Type 0) (Size Own : ℕ) (Sent : List Message) where
  -- a call in hand is the one that is open
  abbrev pub IsOf : CurrentCall → Type 0
  IsOf c = (c.asked ≡ A) × (c.file.0 ≡ File)

  -- its bytes were pushed under this number before, or are now
  abbrev pub HasPushed : Option Message → ℕ → Type 0
  HasPushed o number = (m : Message) × (((place : ℕ) × (element_at Sent place ≡ Some m)) ⊎ (o ≡ Some m)) × IsPushOf Own number (appended A) m

  abbrev pub FineReply : Answer → Type 0
  FineReply (answer.At offset) = is_append A ≡ true → F offset
  FineReply other = Unit {0}

  abbrev pub FineStage : Option Message → Stage → Type 0
  FineStage o (HasAnswer reply) = FineReply reply
  FineStage o AskedNames = is_append A ≡ true → ⊥
  FineStage o (SentData chunk primary number) = is_append A ≡ true → HasPushed o number
  FineStage o (SentMutate chunk number) = is_append A ≡ true → HasPushed o number
  FineStage o other = Unit {0}

  abbrev pub FineNow : Option Message → Option CurrentCall → Type 0
  FineNow o None = Unit {0}
  FineNow o (Some c) = IsOf c × FineStage o c.stage

  -- what was pushed before
  later_pushed : (o : Option Message) (number : ℕ) → HasPushed None number → HasPushed o number
  later_pushed o number h = (h.0, elim (h.1) [ inl before ↦ inl before | inr none ↦ none_some h.0 none ], h.2)

  abbrev pub FineAnswer : Option Answer → Type 0
  FineAnswer None = Unit {0}
  FineAnswer (Some reply) = FineReply reply

  -- before the step is at its end
  abbrev pub Base : ClientDoing → Type 0
  Base d = (file_chunk d.client File ≡ Size) × FineAnswer d.answer × (d.client.id ≡ Own)

  -- as the step begins
  abbrev pub Start : ClientDoing → Type 0
  Start d = (file_chunk d.client File ≡ Size) × FineAnswer d.answer × (d.client.id ≡ Own) × FineNow d.sent d.client.current

  -- at its end: a call that is still in hand has its file open with this size
  abbrev pub Good : ClientDoing → Type 0
  Good d = ((d.client.current ≡ None) ⊎ (file_chunk d.client File ≡ Size)) × FineAnswer d.answer × (d.client.id ≡ Own) × FineNow d.sent d.client.current

  stays : (d : ClientDoing) → Start d → Good d
  stays d h = (inr h.0, h.1, h.2, h.3)

  any_reply : (reply : Answer) → (is_append A ≡ true → ⊥) → FineReply reply
  any_reply (answer.At offset) never = λ it. absurd (never it)
  any_reply other never = tt

  completes_good : (d : ClientDoing) (c : CurrentCall) (reply : Answer) → IsOf c → FineReply reply → Base d → Good (completes d c reply)
  completes_good d c reply same fine h =
      on_cond Good (is_mutation c.asked && list_any (is_live_at d.client.now) c.live) (with_current d (record c { stage = HasAnswer reply })) (answers d reply) (λ _. (inr h.0, h.1, h.2, (same, fine))) (λ _. (inl refl, fine, h.2, tt))

  gives_up_good : (d : ClientDoing) (c : CurrentCall) → IsOf c → Base d → Good (gives_up d c)
  gives_up_good d c same h = completes_good d c (answer.Refused (last_refusal c)) same tt h

  ends_good : (d : ClientDoing) (c : CurrentCall) → IsOf c → Base d → Good (ends_refused d c)
  ends_good d c same h = on_cond Good (is_last_attempt c) (gives_up d (ended c)) (with_current d (ended c)) (λ _. gives_up_good d (ended c) same h) (λ _. (inr h.0, h.1, h.2, (same, tt)))

  asks_good : (d : ClientDoing) (c : CurrentCall) → IsOf c → Base d → Good (asks d c)
  asks_good d c same h = (inr h.0, h.1, h.2, (same, tt))

  reads_good : (d : ClientDoing) (c : CurrentCall) (chunk : ToldChunk) (holders : List Holder) → IsOf c → Base d → Good (reads_next d c chunk holders)
  reads_good d c chunk [] same h = ends_good d (record c { is_nobody_serving = true }) same h
  reads_good d c chunk (x ∷ rest) same h = (inr h.0, h.1, h.2, (same, tt))

  pushes_good : (d : ClientDoing) (c : CurrentCall) (chunk : ToldChunk) (g : Option Group) → IsOf c → Base d → Good (committed d c (push_planned d.client c chunk g))
  pushes_good d c chunk None same h = (inr h.0, h.1, h.2, (same, tt))
  pushes_good d c chunk (Some g) same h = by_hop (next_hop g.members 0)
    where
      by_hop : (o : Option ServerId) → Good (committed d c (push_planned_to d.client c chunk g o))
      by_hop None = (inr h.0, h.1, h.2, (same, tt))
      by_hop (Some first) = (
        inr h.0,
        h.1,
        h.2,
        (
          same,
          λ it. (
            _,
            inr refl,
            record {
              id = data_id d.client.id (suc d.client.number);
              rest = hops_after g.members first.0;
              sender_is = ap (λ (n : ℕ). the_client n) h.2;
              body_is = ap (λ (bytes : List ℕ). body.Push (data_id d.client.id (suc d.client.number)) bytes (hops_after g.members first.0))
                  (ap (λ (x : Call). bytes_to_send (file_chunk d.client c.file.0) c.index x) same.0 ∙ sends_appended A (file_chunk d.client c.file.0) c.index it);
              client_is = h.2;
              seq_is = refl;
            },
          ),
        ),
      )

  goes_good : (d : ClientDoing) (c : CurrentCall) (l : Location) → IsOf c → Base d → Good (goes_on_at d c l)
  goes_good d c l same h =
      on_cond Good (is_mutation c.asked) (committed d c (push_planned d.client c (chunk_of l) l.group)) (reads_next d c (chunk_of l) l.holders) (λ _. pushes_good d c (chunk_of l) l.group same h) (λ _. reads_good d c (chunk_of l) l.holders same h)

  with_good : (d : ClientDoing) (c : CurrentCall) (o : Option Cached) → IsOf c → Base d → Good (begins_with d c o)
  with_good d c None same h = asks_good d c same h
  with_good d c (Some e) same h =
      let then_ : CurrentCall = record c { told = e.told } in
      on_cond Good (will_do c e) (goes_on_at d then_ e.location) (asks d c) (λ _. goes_good d then_ e.location same h) (λ _. asks_good d c same h)

  at_good : (d : ClientDoing) (c : CurrentCall) (o : Option ℕ) → IsOf c → Base d → Good (begins_at d c o)
  at_good d c None same h = asks_good d c same h
  at_good d c (Some index) same h =
      let p : Place = record { file = c.file.0; index = index } in
      with_good (record d { client = record d.client { cache = cache_after_look d.client p } }) c (cached d.client p) same h

  attempts_good : (d : ClientDoing) (c : CurrentCall) → IsOf c → Base d → Good (attempts d c)
  attempts_good d c same h =
      at_good d (record c { deadline = moment_of (d.client.now + d.client.config.attempt_ms); is_nobody_serving = false; last_chunk = None; stage = IsOver }) (chunk_to_find c c.asked) same h

  names_good : (d : ClientDoing) (c : CurrentCall) → IsOf c → (is_append A ≡ true → ⊥) → Base d → Good (attempts_names d c)
  names_good d c same never h = (inr h.0, h.1, h.2, (same, never))

  next_good : (d : ClientDoing) (c : CurrentCall) → IsOf c → Base d → Good (begins_next_part d c)
  next_good d c same h = attempts_good d (record c { index = suc c.index; left = d.client.config.attempts; lost_lease = false }) same h

  -- messages

  base_of : (d : ClientDoing) → Start d → Base d
  base_of d h = (h.0, h.1, h.2)

  gets_good : (d : ClientDoing) (c : CurrentCall) (found : List ℕ) (round : Option ℕ) → IsOf c → Base d → Good (gets d c found round)
  gets_good d c found round same h =
      let got : CurrentCall = record c { bytes = c.bytes ++ found; rounds = c.rounds ++ option_to_list round } in
      on_cond Good (nat_lt (length found) (read_count (file_chunk d.client c.file.0) c.index c.asked) || not (has_next_part (file_chunk d.client c.file.0) c.index c.asked)) (completes d got (answer.Bytes got.bytes got.rounds)) (begins_next_part d got)
      (λ _. completes_good d got (answer.Bytes got.bytes got.rounds) same tt h) (λ _. next_good d got same h)

  none_good : (d : ClientDoing) (c : CurrentCall) (asked : Call) → IsOf c → Start d → Good (told_none d c asked)
  none_good d c (call.Read fd offset count) same h = gets_good d (record c { saw_no_holder = false }) [] None same (base_of d h)
  none_good d c (call.Length fd) same h = completes_good d c (answer.Length 0) same tt (base_of d h)
  none_good d c other same h = stays d h

  location_good : (d : ClientDoing) (c : CurrentCall) (l : Location) → IsOf c → Start d → Good (told_location d c l)
  location_good d c l same h =
      on_cond Good (is_empty_list l.holders) (with_current d (record c { stage = MustAskAgain; saw_no_holder = true; is_nobody_serving = true }))
      (goes_on_at (record d { client = record d.client { cache = with_location d.client c.file.0 l } }) (record c { told = moment_of d.client.now; saw_no_holder = false; is_nobody_serving = false }) l) (λ _. (inr h.0, h.1, h.2, (same, tt)))
      (λ _. goes_good (record d { client = record d.client { cache = with_location d.client c.file.0 l } }) (record c { told = moment_of d.client.now; saw_no_holder = false; is_nobody_serving = false }) l same (base_of d h))

  told_good : (d : ClientDoing) (c : CurrentCall) (o : Option Location) → IsOf c → Start d → Good (told d c o)
  told_good d c None same h = none_good d c c.asked same h
  told_good d c (Some l) same h = location_good d c l same h

  takes_told_good : (d : ClientDoing) (c : CurrentCall) (st : Stage) (number : ℕ) (o : Option Location) → IsOf c → Start d → Good (takes_told d c st number o)
  takes_told_good d c (AskedWhere asked) number o same h = on_cond Good (asked == number) (told d c o) d (λ _. told_good d c o same h) (λ _. stays d h)
  takes_told_good d c other number o same h = stays d h

  reply_good : (d : ClientDoing) (reply : NameReply) → (is_append A ≡ true → ⊥) → Base d → Good (takes_reply d reply)
  reply_good d (Opened file shape) never h = (inl refl, tt, h.2, tt)
  reply_good d (Answered reply) never h = (inl refl, any_reply reply never, h.2, tt)

  named_good : (d : ClientDoing) (c : CurrentCall) (st : Stage) (number : ℕ) (reply : NameReply) → FineStage None st → Start d → Good (takes_named d c st number reply)
  named_good d c AskedNames number reply fine h = on_cond Good (c.number == number) (takes_reply d reply) d (λ _. reply_good d reply fine (base_of d h)) (λ _. stays d h)
  named_good d c other number reply fine h = stays d h

  wait_good : (d : ClientDoing) (c : CurrentCall) (st : Stage) (number : ℕ) → IsOf c → Start d → Good (takes_wait d c st number)
  wait_good d c (AskedWhere asked) number same h =
      on_cond Good (asked == number) (with_current d (record c { stage = MustAskAgain; saw_no_holder = false; is_nobody_serving = false })) d (λ _. (inr h.0, h.1, h.2, (same, tt))) (λ _. stays d h)
  wait_good d c other number same h = stays d h

  pushed_good : (d : ClientDoing) (c : CurrentCall) (st : Stage) (id : DataId) → IsOf c → FineStage None st → Start d → Good (takes_pushed d c st id)
  pushed_good d c (SentData chunk primary number) id same fine h =
      on_cond Good (is_own_data d id number) (pushed_to d c chunk primary number) d
      (λ _. on_cond Good (is_new_enough d.client c.told.0) (committed d c (mutate_planned d.client c chunk primary number)) (asks_anew d c)
      (λ _. (inr h.0, h.1, h.2, (same, λ it. later_pushed _ number (fine it)))) (λ _. (inr h.0, h.1, h.2, (same, tt)))) (λ _. stays d h)
  pushed_good d c other id same fine h = stays d h

  succeeds_good : (d : ClientDoing) (c : CurrentCall) (chunk : ToldChunk) (place : ℕ) → IsOf c → (is_append A ≡ true → F (place_in_file Size chunk.index place)) → Base d → Good (succeeds d c chunk place)
  succeeds_good d c chunk place same there h =
      let after : ClientDoing = record d { client = record d.client { files = with_last_append d.client.files c.file.0 (Some chunk.index) } } in
      let size : file_chunk d.client c.file.0 ≡ Size = ap (λ (f : ℕ). file_chunk d.client f) same.1 ∙ h.0 in
      on_cond Good (is_append c.asked)
      (completes after c (answer.At (place_in_file (file_chunk d.client c.file.0) chunk.index place)))
      (cond (has_next_part (file_chunk d.client c.file.0) c.index c.asked) (begins_next_part d c) (completes d c answer.Done))
      (λ _. completes_good after c (answer.At (place_in_file (file_chunk d.client c.file.0) chunk.index place)) same
      (λ it. subst (λ (n : ℕ). F (place_in_file n chunk.index place)) (sym size) (there it)) (noted_size d.client c.file.0 (Some chunk.index) File ∙ h.0, h.1, h.2))
      (λ _. on_cond Good (has_next_part (file_chunk d.client c.file.0) c.index c.asked) (begins_next_part d c) (completes d c answer.Done) (λ _. next_good d c same h) (λ _. completes_good d c answer.Done same tt h))

  -- where a Done of the client's own data comes in, that were pushed for this call, its place may be answered
  abbrev pub TellsPlace : Body → Type 0
  TellsPlace (body.Done id place) = id.client.0 ≡ Own → HasPushed None id.seq → (index : ℕ) → F (place_in_file Size index place)
  TellsPlace other = Unit {0}

  done_good : (d : ClientDoing) (c : CurrentCall) (st : Stage) (id : DataId) (place : ℕ) → IsOf c → FineStage None st → (id.client.0 ≡ Own → HasPushed None id.seq → (index : ℕ) → F (place_in_file Size index place)) → Start d → Good (takes_done d c st id place)
  done_good d c (SentMutate chunk number) id place same fine there h =
      on_cond Good (is_own_data d id number) (succeeds d (less_live c chunk) chunk place) d
      (λ own.
      let parts = and_parts (id.client.0 == d.client.id) (id.seq == number) own in
      succeeds_good d (less_live c chunk) chunk place same
      (λ it. there (eqb-true id.client.0 d.client.id parts.0 ∙ h.2) (subst (λ (n : ℕ). HasPushed None n) (sym (eqb-true id.seq number parts.1)) (fine it)) chunk.index) (base_of d h)) (λ _. stays d h)
  done_good d c other id place same fine there h = stays d h

  bytes_good : (d : ClientDoing) (c : CurrentCall) (st : Stage) (number : ℕ) (bytes : List ℕ) → IsOf c → Start d → Good (takes_bytes d c st number bytes)
  bytes_good d c (SentRead chunk left asked) number bytes same h =
      on_cond Good ((asked == number) && not (is_length c.asked)) (gets d c bytes (Some chunk.round.0)) d (λ _. gets_good d c bytes (Some chunk.round.0) same (base_of d h)) (λ _. stays d h)
  bytes_good d c other number bytes same h = stays d h

  length_good : (d : ClientDoing) (c : CurrentCall) (st : Stage) (number count : ℕ) → IsOf c → Start d → Good (takes_len_is d c st number count)
  length_good d c (SentRead chunk left asked) number count same h =
      on_cond Good ((asked == number) && is_length c.asked) (completes d c (answer.Length (place_in_file (file_chunk d.client c.file.0) chunk.index count))) d
      (λ _. completes_good d c (answer.Length (place_in_file (file_chunk d.client c.file.0) chunk.index count)) same tt (base_of d h)) (λ _. stays d h)
  length_good d c other number count same h = stays d h

  master_good : (d : ClientDoing) (c : CurrentCall) (refusal : Refusal) → IsOf c → Start d → Good (master_refuses d c refusal)
  master_good d c TooLong same h = completes_good d c (answer.Refused TooLong) same tt (base_of d h)
  master_good d c Collected same h = completes_good d c (answer.Refused Collected) same tt (base_of d h)
  master_good d c other same h = stays d h

  full_good : (d : ClientDoing) (c : CurrentCall) (chunk : ToldChunk) → IsOf c → Base d → Good (finds_full d c chunk)
  full_good d c chunk same h =
      on_cond Good (is_append c.asked) (with_current d (record c { stage = IsOver; index = suc chunk.index })) (ends_refused d c) (λ _. (inr h.0, h.1, h.2, (same, tt))) (λ _. ends_good d c same h)

  primary_good : (d : ClientDoing) (c : CurrentCall) (chunk : ToldChunk) (refusal : Refusal) → IsOf c → Base d → Good (primary_refuses d c chunk refusal)
  primary_good d c chunk NoChunk same h = ends_good d (stays_live d c chunk) same h
  primary_good d c chunk NoLease same h = ends_good d (stays_live d c chunk) same h
  primary_good d c chunk ChunkFull same h = full_good d (less_live c chunk) chunk same h
  primary_good d c chunk other same h = ends_good d (less_live c chunk) same h

  refused_good : (d : ClientDoing) (c : CurrentCall) (st : Stage) (number : ℕ) (refusal : Refusal) → IsOf c → Start d → Good (takes_refused d c st number refusal)
  refused_good d c (AskedWhere asked) number refusal same h = on_cond Good (asked == number) (master_refuses d c refusal) d (λ _. master_good d c refusal same h) (λ _. stays d h)
  refused_good d c (SentMutate chunk asked) number refusal same h =
      on_cond Good (asked == number) (primary_refuses (forgets d c chunk) c chunk refusal) d (λ _. primary_good (forgets d c chunk) c chunk refusal same (base_of d h)) (λ _. stays d h)
  refused_good d c (SentRead chunk left asked) number refusal same h =
      let there : ClientDoing = forgets d c chunk in
      on_cond Good (asked == number) (reader_refuses there c chunk left) d
      (λ _. on_cond Good (is_new_enough there.client c.told.0) (reads_next there c chunk left) (asks_anew there c) (λ _. reads_good there c chunk left same (base_of d h)) (λ _. (inr h.0, h.1, h.2, (same, tt)))) (λ _. stays d h)
  refused_good d c other number refusal same h = stays d h

  takes_good : (d : ClientDoing) (c : CurrentCall) (b : Body) → IsOf c → FineStage None c.stage → TellsPlace b → Start d → Good (client_takes d c b)
  takes_good d c (body.Named number reply) same fine there h = named_good d c c.stage number reply fine h
  takes_good d c (body.Told number location) same fine there h = takes_told_good d c c.stage number location same h
  takes_good d c (body.Wait number) same fine there h = wait_good d c c.stage number same h
  takes_good d c (body.Refused number refusal) same fine there h = refused_good d c c.stage number refusal same h
  takes_good d c (body.Pushed id) same fine there h = pushed_good d c c.stage id same fine h
  takes_good d c (body.Done id place) same fine there h = done_good d c c.stage id place same fine there h
  takes_good d c (body.Bytes number bytes) same fine there h = bytes_good d c c.stage number bytes same h
  takes_good d c (body.LenIs number count) same fine there h = length_good d c c.stage number count same h
  takes_good d c other same fine there h = stays d h

  -- ticks

  unanswered_good : (d : ClientDoing) (c : CurrentCall) (forget : ClientDoing → ClientDoing) → IsOf c → Base (forget d) → Start d → Good (ticks_unanswered d c forget)
  unanswered_good d c forget same base h =
      on_cond Good (nat_lt d.client.now (c.deadline.0 + d.client.config.skew_ms)) d (ends_unanswered (forget d) c) (λ _. stays d h)
      (λ _. on_cond Good (is_last_attempt c) (gives_up (forget d) (record (ended c) { lost_lease = false })) (attempts (forget d) (record (ended c) { lost_lease = false })) (λ _. gives_up_good (forget d) (record (ended c) { lost_lease = false }) same base)
      (λ _. attempts_good (forget d) (record (ended c) { lost_lease = false }) same base))

  tick_names_good : (d : ClientDoing) (c : CurrentCall) → IsOf c → (is_append A ≡ true → ⊥) → Start d → Good (ticks_names d c)
  tick_names_good d c same never h =
      on_cond Good (nat_lt d.client.now (c.deadline.0 + d.client.config.skew_ms)) d _ (λ _. stays d h)
      (λ _. on_cond Good (is_last_attempt c) (answers d (answer.Refused Unknown)) (attempts_names d (ended c)) (λ _. (inl refl, tt, h.2, tt)) (λ _. names_good d (ended c) same never (base_of d h)))

  ticks_good : (d : ClientDoing) (c : CurrentCall) (st : Stage) → IsOf c → FineStage None st → Start d → Good (ticks_at d c st)
  ticks_good d c AskedNames same fine h = tick_names_good d c same fine h
  ticks_good d c (HasAnswer reply) same fine h = completes_good d c reply same fine (base_of d h)
  ticks_good d c IsOver same fine h = attempts_good d c same (base_of d h)
  ticks_good d c MustAskAgain same fine h =
      on_cond Good (nat_lt d.client.now c.deadline.0) (asks d c) (ticks_unanswered d c (λ e. e)) (λ _. asks_good d c same (base_of d h)) (λ _. unanswered_good d c (λ e. e) same (base_of d h) h)
  ticks_good d c (AskedWhere number) same fine h = unanswered_good d c (λ e. e) same (base_of d h) h
  ticks_good d c (SentData chunk primary number) same fine h = unanswered_good d c (λ e. forgets e c chunk) same (base_of d h) h
  ticks_good d c (SentMutate chunk number) same fine h = unanswered_good d c (λ e. forgets e c chunk) same (base_of d h) h
  ticks_good d c (SentRead chunk left number) same fine h = unanswered_good d c (λ e. forgets e c chunk) same (base_of d h) h

  takes_at_good : (d : ClientDoing) (c : CurrentCall) (m : Message) (st : Stage) → c.stage ≡ st → IsOf c → FineStage None st → TellsPlace m.body → Start d → Good (takes_at d c m st)
  takes_at_good d c m (HasAnswer reply) is same fine there h = completes_good d c reply same fine (base_of d h)
  takes_at_good d c m other is same fine there h = takes_good d c m.body same (subst (FineStage None) (sym is) fine) there h

  abbrev pub TellsInput : NodeInput → Type 0
  TellsInput (input.Deliver m) = TellsPlace m.body
  TellsInput input.Tick = Unit {0}

  pub does_good : (d : ClientDoing) (i : NodeInput) (c : CurrentCall) → IsOf c → FineStage None c.stage → TellsInput i → Start d → Good (client_does d i (Some c))
  does_good d (input.Deliver m) c same fine there h = takes_at_good d c m c.stage refl same fine there h
  does_good d input.Tick c same fine there h = ticks_good d c c.stage same fine h

  -- a call

  file_good : (d : ClientDoing) (file : ℕ) (c : Call) → c ≡ A → file ≡ File → is_name_call c ≡ false → Base d → Good (calls_file d c file)
  file_good d file (call.Close fd) same of name h = (inl refl, tt, h.2, tt)
  file_good d file (call.Length fd) same of name h = attempts_good d (new_call d.client.config.attempts 0 (call.Length fd) file 0 None) (same, of) h
  file_good d file (call.Write fd offset bytes) same of name h =
      on_cond Good (is_range_too_long offset (length bytes)) (answers d (answer.Refused TooLong)) _ (λ _. (inl refl, tt, h.2, tt))
      (λ _. on_cond Good (length bytes == 0) (answers d answer.Done) _ (λ _. (inl refl, tt, h.2, tt)) (λ _. attempts_good d (new_call d.client.config.attempts 0 (call.Write fd offset bytes) file _ None) (same, of) h))
  file_good d file (call.Append fd bytes) same of name h =
      on_cond Good _ (answers d (answer.Refused TooLong)) _ (λ _. (inl refl, tt, h.2, tt))
      (λ _. attempts_good (record d { client = record d.client { files = with_last_append d.client.files file None } }) (new_call d.client.config.attempts 0 (call.Append fd bytes) file 0 (last_append d.client.files file)) (same, of) (noted_size d.client file None File ∙ h.0, h.1, h.2))
  file_good d file (call.Read fd offset count) same of name h =
      on_cond Good (is_range_too_long offset count) (answers d (answer.Refused TooLong)) _ (λ _. (inl refl, tt, h.2, tt))
      (λ _. on_cond Good (count == 0) (answers d (answer.Bytes [] [])) _ (λ _. (inl refl, tt, h.2, tt)) (λ _. attempts_good d (new_call d.client.config.attempts 0 (call.Read fd offset count) file _ None) (same, of) h))
  file_good d file other same of name h = absurd (true≢false name)

  on_good : (d : ClientDoing) (c : Call) (o : Option ℕ) → c ≡ A → ((file : ℕ) → o ≡ Some file → file ≡ File) → is_name_call c ≡ false → Base d → Good (calls_on d c o)
  on_good d c None same of name h = (inl refl, tt, h.2, tt)
  on_good d c (Some file) same of name h = file_good d file c same (of file refl) name h

  no_append : (c : Call) → is_name_call c ≡ true → is_append c ≡ true → ⊥
  no_append (call.Append fd bytes) name append = true≢false (sym name)
  no_append other name append = true≢false (sym append)

  pub calls_good : (d : ClientDoing) (c : Call) → c ≡ A → (is_name_call c ≡ true → 0 ≡ File) → (is_name_call c ≡ false → (file : ℕ) → table.get d.client.descriptors (fd_of c) ≡ Some file → file ≡ File) → Base d → Good (calls d c)
  calls_good d c same named filed h =
      on_cond Good (is_name_call c) (calls_names d c) (calls_on d c (table.get d.client.descriptors (fd_of c)))
      (λ name. names_good (record d { client = record d.client { call_count = suc d.client.call_count } }) (new_call d.client.config.attempts (suc d.client.call_count) c 0 0 None) (same, named name)
      (λ it. no_append c name (ap is_append same ∙ it)) h)
      (λ plain. on_good d c (table.get d.client.descriptors (fd_of c)) same (filed plain) plain h)
