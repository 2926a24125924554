-- A client's step for its call on a file, followed by the machine.
use Rattle.std.proofs.Common.{◌≡◌, ℕ, zero, suc, ◌+◌, ◌*◌, ◌≤◌, Bool, true, false, List, [], ◌∷◌, Option, Some, None, refl, sym, ap, subst, ◌∙◌, inl, inr, arith}
use Rattle.std.specs.Prelude.{◌==◌, ◌&&◌, not, nat_lt, Contains, option_map}
use Rattle.std.specs.List.{AllByRecursion, list_any}
use Rattle.std.specs.FinMap as table
use Rattle.std.proofs.lemmas.Bool.{and_parts, eqb-true, true≢false}
use Rattle.std.proofs.Math.Nat.{min-eq_left}
use Rattle.gfs_types.specs.declared.ids.DataId.{DataId}
use Rattle.gfs_types.specs.declared.ids.Fd.{Fd}
use Rattle.gfs_types.specs.declared.call.Call.{Call}
use Rattle.gfs_types.specs.declared.call.Call.TheVariants as call
use Rattle.gfs_types.specs.declared.answer.Answer.{Answer}
use Rattle.gfs_types.specs.declared.answer.Answer.TheVariants as answer
use Rattle.gfs_types.specs.declared.refusal.Refusal.{Refusal}
use Rattle.gfs_types.specs.declared.refusal.Refusal.TheVariants.{TooLong, Collected, NoChunk, NoLease, ChunkFull}
use Rattle.messages.specs.declared.event.NodeInput.{NodeInput}
use Rattle.messages.specs.declared.event.NodeInput.TheVariants as input
use Rattle.messages.specs.declared.message.Body.{Body}
use Rattle.messages.specs.declared.message.Body.TheVariants as body
use Rattle.messages.specs.declared.message.Message.{Message}
use Rattle.messages.specs.declared.message.NameReply.{NameReply}
use Rattle.messages.specs.declared.message.Location.{Location}
use Rattle.relaxed_file.specs.Order.{CallId}
use Rattle.relaxed_file.specs.Machine.{Machine, Client, OpenCall, IsOpen, Piece, Told, NoSuchChunk, with_client, with_step, chunk_size}
use Rattle.relaxed_file.specs.Reads.{noted as noted_at, is_length_call}
use Rattle.relaxed_file.specs.Run.{Note, LookPast, MeasureNone}
use Rattle.client_state.specs.declared.kept.Cached.{Cached}
use Rattle.client_state.specs.declared.call.CurrentCall.{CurrentCall}
use Rattle.client_state.specs.declared.call.LiveAttempt.{LiveAttempt}
use Rattle.client_state.specs.declared.call.ToldChunk.{ToldChunk}
use Rattle.client_state.specs.declared.call.Stage.{Stage}
use Rattle.client_state.specs.declared.call.Stage.TheVariants.{AskedNames, AskedWhere, MustAskAgain, SentData, SentMutate, SentRead, IsOver, HasAnswer}
use Rattle.protocol.specs.Tables.{is_empty_list}
use Rattle.protocol.specs.Sending.{moment_of}
use Rattle.protocol.specs.Client.{file_chunk, place_in_file, ClientState, ClientDoing, client_begins, committed, with_current}
use Rattle.protocol.specs.ClientCache.{last_opened, last_opened_of, with_location, is_new_enough}
use Rattle.protocol.specs.ClientAttempts.{is_mutation, is_length, is_append, is_live_at, completes, gives_up, ended, is_last_attempt, ends_refused, asks, reads_next, mutate_planned, chunk_of, goes_on_at, attempts, forgets, asks_anew}
use Rattle.protocol.specs.ClientTakes.{takes_named, takes_wait, gets, told_none, told_location, told, takes_told, is_own_data, takes_pushed, less_live, succeeds, takes_done, takes_bytes, takes_len_is, master_refuses, stays_live, finds_full, primary_refuses, takes_refused, client_takes, pushed_to, reader_refuses}
use Rattle.protocol.specs.ClientStep.{ticks_unanswered, ends_unanswered, ticks_at, takes_at, client_does, client_at}
use Rattle.laws_base.proofs.Steps.{on_cond}
use Rattle.laws_base.specs.FileCalls.{IsOfFile}
use Rattle.laws_base.proofs.ClientWalk.{heard_at, is_told_of, place_at}
use Rattle.laws_machine.specs.FileClients.{id_of, IsKeptNote, IsDoneSoFar, IsNotedChunk, IsStageAt, IsFileCall, IsCallAlike, IsFileClient, IsFileOpen, IsOffered, IsToldAt, IsRefusedAt, IsSaidAt, IsSaid, IsElsewhereSame, IsFollowed}
use Rattle.laws_machine.specs.FileSteps.{FileStepsAreFollowed}
use Rattle.laws_machine.proofs.ClientCaches.{note_put, note_there, noted_and_kept, places_after_put}
use Rattle.protocol_invariant.specs.ClientParts.{index_asked}
use Rattle.relaxed_file.proofs.Tables.{put_same, put_other}
use Rattle.laws_machine.proofs.MachineSteps.{comes_first, put_elsewhere, in_client, same_rise, put_rises, one_more, HaveAll, done_on, stepped_client, step_open}
use Rattle.laws_machine.proofs.FileWalk.{Hand, stays, sends, rests, completes_done, unanswered_done, refused_done, reads_done, goes_on_done, asks_done, dropped_hand, attempts_done, gets_done, length_done, succeeds_done, with_part, open_size}

-- the call that is asked for is a read
a_read : (m : Machine) (id : CallId) (file part : ℕ) (bytes rounds : List ℕ) (ps : List Piece) (c : Call) → IsDoneSoFar m id file part bytes rounds ps c → is_mutation c ≡ false → is_length c ≡ false
    → (fd : Fd) × (offset : ℕ) × (count : ℕ) × (c ≡ call.Read fd offset count)
a_read m id file part bytes rounds ps (call.Read fd offset count) done plain other = (fd, offset, count, refl)
a_read m id file part bytes rounds ps (call.Length fd) done plain other = absurd (true≢false other)
a_read m id file part bytes rounds ps (call.Write fd offset content) done plain other = absurd (true≢false plain)
a_read m id file part bytes rounds ps (call.Append fd content) done plain other = absurd (true≢false plain)
a_read m id file part bytes rounds ps c done plain other = absurd done

module _ (m : Machine) (client : ℕ) (s : ClientState) (x : CurrentCall) (alike : IsFileClient m client s) (o : OpenCall) (open_call : IsFileCall m client x o) (row : IsFileOpen s x.file.0) (moment : ℕ) where
  abbrev d0 : ClientDoing
  d0 = client_begins (client_at s moment)

  abbrev is_open : IsOpen m client o
  is_open = open_call.is_open

  abbrev Goes : ClientDoing → Type 0
  Goes d = IsFollowed m client d

  nothing : Goes d0
  nothing =
      stays m client o is_open d0 refl (record { settings = alike.settings; fds = alike.fds; descriptors = alike.descriptors; kept = alike.kept; places = alike.places; shapes = alike.shapes; call = alike.call })

  hand : Hand m client o is_open d0 x
  hand =
      record {
        settings = alike.settings;
        fds = alike.fds;
        descriptors = alike.descriptors;
        kept = alike.kept;
        places = alike.places;
        shapes = alike.shapes;
        row = (row.0, row.1);
        unanswered = refl;
        call_is = open_call.call_is;
        file_is = open_call.file_is;
        done = open_call.done;
      }

  -- a location is told

  -- the machine after the client's open call took a step, with more pieces
  module _ (change : OpenCall → OpenCall) (asked : (change o).asked ≡ o.asked) (number : (change o).number ≡ o.number) (more : HaveAll o.pieces (change o).pieces) where
    abbrev n : Machine
    n = with_step m client change

    abbrev p : OpenCall
    p = record (change o) { has_begun = true }

    hand_on : Hand n client p (step_open m client change o is_open) d0 x
    hand_on =
        record {
          settings = alike.settings;
          fds = now (λ c. s.fd_count ≡ c.fd_count) alike.fds;
          descriptors = λ fd. now (λ c. table.get s.descriptors fd ≡ c.descriptors fd) (alike.descriptors fd);
          kept = now (λ c. AllByRecursion (IsKeptNote c.notes s.files s.fd_count) s.cache.entries) alike.kept;
          places = alike.places;
          shapes = alike.shapes;
          row = (row.0, row.1);
          unanswered = refl;
          call_is = ap (λ a. a.call) asked ∙ open_call.call_is;
          file_is = ap (λ a. a.file) asked ∙ open_call.file_is;
          done = subst (λ (k : ℕ). IsDoneSoFar n (record { client = client; number = k }) x.file.0 x.index x.bytes x.rounds p.pieces x.asked) (sym number)
              (done_on m client (stepped_client m client change) o.number x.file.0 x.index x.bytes x.rounds o.pieces p.pieces x.asked (same_rise (m.clients client).notes) more open_call.done);
        }
      where
        now : (P : Client → Type 0) → P (stepped_client m client change) → P (n.clients client)
        now = in_client m client (stepped_client m client change)

  past_goes : (fd : Fd) (offset count : ℕ) → x.asked ≡ call.Read fd offset count → Contains o.offers (NoSuchChunk x.index) → Goes (gets d0 (record x { saw_no_holder = false }) [] None)
  past_goes fd offset count is told =
      comes_first m client (gets d0 (record x { saw_no_holder = false }) [] None) (LookPast client x.index) (o, is_open, told) refl refl refl (put_elsewhere m client (stepped_client m client change))
      (gets_done (with_step m client change) client p2 (step_open m client change o is_open) d0 (record x { saw_no_holder = false }) fd offset count is [] None (zero, omega arith, refl)
      (hand_on change refl refl (one_more piece o.pieces)))
    where
      piece : Piece
      piece = record { index = x.index; bytes = []; round = None }

      change : OpenCall → OpenCall
      change c = record c { pieces = piece ∷ c.pieces }

      p2 : OpenCall
      p2 = record (change o) { has_begun = true }

  none_goes : (fd : Fd) → x.asked ≡ call.Length fd → Contains o.offers (NoSuchChunk zero) → Goes (completes d0 x (answer.Length zero))
  none_goes fd is told =
      comes_first m client (completes d0 x (answer.Length zero)) (MeasureNone client) (o, is_open, (ap is_length_call (open_call.call_is ∙ is), told)) refl refl refl (put_elsewhere m client (stepped_client m client change))
      (length_done (with_step m client change) client p2 (step_open m client change o is_open) d0 x zero (ap is_length is) (zero, omega arith, refl) (hand_on change refl refl (λ q there. there)))
    where
      change : OpenCall → OpenCall
      change c = record c { lengths = zero ∷ c.lengths }

      p2 : OpenCall
      p2 = record (change o) { has_begun = true }

  told_none_goes : (c : Call) → x.asked ≡ c → IsToldAt m client o x None → Goes (told_none d0 x c)
  told_none_goes (call.Read fd offset count) is told = past_goes fd offset count is (subst (λ (c : Call). Contains o.offers (NoSuchChunk (index_asked x c))) is told)
  told_none_goes (call.Length fd) is told = none_goes fd is (subst (λ (c : Call). Contains o.offers (NoSuchChunk (index_asked x c))) is told)
  told_none_goes other is told = nothing

  -- the machine after a note
  module _ (l : Location) (told : IsOffered m client x.file.0 o x.asked l) where
    abbrev noted_client : Client
    noted_client = record (m.clients client) { notes = note_put x.file.0 l.index l.round.0 (m.clients client).notes }

    abbrev m1 : Machine
    m1 = with_client m client noted_client

    abbrev m2 : Machine
    m2 = noted_at m client x.file.0 l.index l.round.0

    abbrev o2 : OpenCall
    o2 = record o { has_begun = true }

    open1 : IsOpen m1 client o
    open1 = in_client m client noted_client (λ (c : Client). c.open_call ≡ Some o) is_open

    open2 : IsOpen m2 client o2
    open2 = step_open m1 client (λ c. c) o open1

    both : (P : Client → Type 0) → P (record noted_client { open_call = Some o2 }) → P (m2.clients client)
    both P h =
        in_client m1 client (stepped_client m1 client (λ c. c)) P
        (subst (λ (c : Client). P (record c { open_call = option_map (λ (current : OpenCall). record current { has_begun = true }) c.open_call })) (sym (put_same client noted_client m.clients))
        (subst (λ (q : Option OpenCall). P (record noted_client { open_call = option_map (λ (current : OpenCall). record current { has_begun = true }) q })) (sym is_open) h))

    elsewhere : IsElsewhereSame m client m2
    elsewhere =
        record {
          config = refl;
          clock = refl;
          names = refl;
          file_count = refl;
          files = refl;
          others = λ q not. put_other client (stepped_client m1 client (λ c. c)) m1.clients q not ∙ put_other client noted_client m.clients q not;
        }

    abbrev one : Cached
    one = record { location = l; told = moment_of d0.client.now; opened = record { 0 = last_opened s x.file.0 } }

    few : last_opened s x.file.0 ≤ s.fd_count
    few = let low = row.2 in let last : last_opened s x.file.0 ≡ (row.0).last_opened.0 = ap last_opened_of row.1 in omega (arith, low, last)

    heard_hand : Hand m2 client o2 open2 (heard_at d0 x l) (is_told_of d0 x)
    heard_hand =
        record {
          settings = alike.settings;
          fds = both (λ c. s.fd_count ≡ c.fd_count) alike.fds;
          descriptors = λ fd. both (λ c. table.get s.descriptors fd ≡ c.descriptors fd) (alike.descriptors fd);
          kept = both (λ c. AllByRecursion (IsKeptNote c.notes s.files s.fd_count) (with_location d0.client x.file.0 l).entries)
              (noted_and_kept (m.clients client).notes s.files s.fd_count s.cache (place_at x l.index) one few refl alike.places alike.kept);
          places = places_after_put s.cache (place_at x l.index) one alike.places;
          shapes = alike.shapes;
          row = (row.0, row.1);
          unanswered = refl;
          call_is = open_call.call_is;
          file_is = open_call.file_is;
          done = done_on m1 client (stepped_client m1 client (λ c. c)) o.number x.file.0 x.index x.bytes x.rounds o.pieces o.pieces x.asked (same_rise (m1.clients client).notes) (λ q there. there)
              (done_on m client noted_client o.number x.file.0 x.index x.bytes x.rounds o.pieces o.pieces x.asked (put_rises (m.clients client).notes x.file.0 l.index l.round.0 told.rising) (λ q there. there) open_call.done);
        }

    noted_chunk : IsNotedChunk m2 client x.file.0 o2 x.asked (chunk_of l)
    noted_chunk =
        record {
          noted = both (λ c. c.notes x.file.0 l.index ≡ Some l.round.0) (note_there x.file.0 l.index l.round.0 (m.clients client).notes (place_at x l.index) refl refl);
          last = λ is. subst (λ (k : ℕ). Contains o.offers (Told l.index l.round.0 k)) (told.last is) told.offered;
        }

    heard_goes : Goes (goes_on_at (heard_at d0 x l) (is_told_of d0 x) l)
    heard_goes =
        comes_first m client (goes_on_at (heard_at d0 x l) (is_told_of d0 x) l) (Note client x.file.0 l.index l.round.0 told.count) (o, is_open, (open_call.file_is, told.offered, told.rising)) refl refl refl elsewhere
        (goes_on_done m2 client o2 open2 (heard_at d0 x l) (is_told_of d0 x) l heard_hand noted_chunk)

    location_goes : Goes (told_location d0 x l)
    location_goes =
        on_cond Goes (is_empty_list l.holders) (with_current d0 (record x { stage = MustAskAgain; saw_no_holder = true; is_nobody_serving = true })) (goes_on_at (heard_at d0 x l) (is_told_of d0 x) l)
        (λ _. rests m client o is_open d0 (record x { stage = MustAskAgain; saw_no_holder = true; is_nobody_serving = true }) hand tt) (λ _. heard_goes)

  told_goes : (l : Option Location) → IsToldAt m client o x l → Goes (told d0 x l)
  told_goes None h = told_none_goes x.asked refl h
  told_goes (Some l) h = location_goes l h

  -- messages

  abbrev Said : Stage → Body → Type 0
  Said st b = IsSaidAt m client s.id o x st b

  abbrev Staged : Stage → Type 0
  Staged st = IsStageAt m client x.file.0 o x.asked st

  takes_told_goes : (st : Stage) (number : ℕ) (l : Option Location) → Said st (body.Told number l) → Goes (takes_told d0 x st number l)
  takes_told_goes (AskedWhere asked) number l said = on_cond Goes (asked == number) (told d0 x l) d0 (λ same. told_goes l (said (eqb-true asked number same))) (λ _. nothing)
  takes_told_goes other number l said = nothing

  named_goes : (st : Stage) (number : ℕ) (reply : NameReply) → IsOfFile st → Goes (takes_named d0 x st number reply)
  named_goes AskedNames number reply of = absurd of
  named_goes other number reply of = nothing

  wait_goes : (st : Stage) (number : ℕ) → Goes (takes_wait d0 x st number)
  wait_goes (AskedWhere asked) number =
      let again : CurrentCall = record x { stage = MustAskAgain; saw_no_holder = false; is_nobody_serving = false } in
      on_cond Goes (asked == number) (with_current d0 again) d0 (λ _. rests m client o is_open d0 again hand tt) (λ _. nothing)
  wait_goes other number = nothing

  pushed_goes : (st : Stage) (id : DataId) → Staged st → Goes (takes_pushed d0 x st id)
  pushed_goes (SentData chunk primary number) id at =
      on_cond Goes (is_own_data d0 id number) (pushed_to d0 x chunk primary number) d0
      (λ _. on_cond Goes (is_new_enough d0.client x.told.0) (committed d0 x (mutate_planned d0.client x chunk primary number)) (asks_anew d0 x)
      (λ _. sends m client o is_open d0 x (mutate_planned d0.client x chunk primary number) hand at) (λ _. rests m client o is_open d0 (record x { stage = MustAskAgain }) hand tt)) (λ _. nothing)
  pushed_goes other id at = nothing

  done_goes : (st : Stage) (id : DataId) (place : ℕ) → Staged st → Said st (body.Done id place) → Goes (takes_done d0 x st id place)
  done_goes (SentMutate chunk number) id place at said =
      on_cond Goes (is_own_data d0 id number) (succeeds d0 (less_live x chunk) chunk place) d0
      (λ own.
      let parts = and_parts (id.client.0 == s.id) (id.seq == number) own in
      succeeds_done m client o is_open d0 (less_live x chunk) chunk place hand at.0 (said (eqb-true id.client.0 s.id parts.0) (eqb-true id.seq number parts.1)))
      (λ _. nothing)
  done_goes other id place at said = nothing

  bytes_goes : (st : Stage) (number : ℕ) (bytes : List ℕ) → Staged st → Said st (body.Bytes number bytes) → Goes (takes_bytes d0 x st number bytes)
  bytes_goes (SentRead chunk left asked) number bytes at said =
      on_cond Goes ((asked == number) && not (is_length x.asked)) (gets d0 x bytes (Some chunk.round.0)) d0
      (λ own.
      let parts = and_parts (asked == number) (not (is_length x.asked)) own in
      let plain : is_length x.asked ≡ false = not_true (is_length x.asked) parts.1 in
      let read = a_read m (id_of client o) x.file.0 x.index x.bytes x.rounds o.pieces x.asked open_call.done at.0 plain in
      gets_done m client o is_open d0 x read.0 read.1 read.2 read.3 bytes (Some chunk.round.0) (said (eqb-true asked number parts.0) plain) hand)
      (λ _. nothing)
    where
      not_true : (b : Bool) → not b ≡ true → b ≡ false
      not_true true h = absurd (true≢false (sym h))
      not_true false h = refl
  bytes_goes other number bytes at said = nothing

  len_goes : (st : Stage) (number count : ℕ) → Said st (body.LenIs number count) → Goes (takes_len_is d0 x st number count)
  len_goes (SentRead chunk left asked) number count said =
      on_cond Goes ((asked == number) && is_length x.asked) (completes d0 x (answer.Length (place_in_file (file_chunk d0.client x.file.0) chunk.index count))) d0
      (λ own.
      let parts = and_parts (asked == number) (is_length x.asked) own in
      let told = said (eqb-true asked number parts.0) parts.1 in
      let at : place_in_file (file_chunk d0.client x.file.0) chunk.index count ≡ chunk.index * chunk_size m x.file.0 + count =
      ap (λ (n : ℕ). place_in_file n chunk.index count) (open_size m s x.file.0 row.0 row.1 (alike.shapes x.file.0 row.0 row.1)) ∙ min-eq_left told.0 in
      length_done m client o is_open d0 x (place_in_file (file_chunk d0.client x.file.0) chunk.index count) parts.1 (subst (λ (n : ℕ). Contains o.lengths n) (sym at) told.1) hand)
      (λ _. nothing)
  len_goes other number count said = nothing

  no_live : (now : ℕ) (live : List LiveAttempt) → live ≡ [] → list_any (is_live_at now) live ≡ true → ⊥
  no_live now live none has = true≢false (sym has ∙ ap (λ (ls : List LiveAttempt). list_any (is_live_at now) ls) none)

  master_goes : (r : Refusal) → IsRefusedAt m client o x.live r → Goes (master_refuses d0 x r)
  master_goes TooLong h = completes_done m client o is_open d0 x (answer.Refused TooLong) hand (inr (inr h.0)) (λ live. absurd (no_live d0.client.now x.live h.1 live))
  master_goes Collected h = completes_done m client o is_open d0 x (answer.Refused Collected) hand (inr (inr h)) (λ _. tt)
  master_goes other h = nothing

  full_goes : (chunk : ToldChunk) (d : ClientDoing) (y : CurrentCall) → y.asked ≡ x.asked → Hand m client o is_open d y → Goes (finds_full d y chunk)
  full_goes chunk d y same h =
      let past : CurrentCall = record y { stage = IsOver; index = suc chunk.index } in
      on_cond Goes (is_append y.asked) (with_current d past) (ends_refused d y)
      (λ is. rests m client o is_open d past (with_part m client o is_open d y (suc chunk.index) y.bytes y.rounds h (appends y.asked is h.done)) tt) (λ _. refused_done m client o is_open d y h)
    where
      appends : (c : Call) → is_append c ≡ true → IsDoneSoFar m (id_of client o) y.file.0 y.index y.bytes y.rounds o.pieces c → IsDoneSoFar m (id_of client o) y.file.0 (suc chunk.index) y.bytes y.rounds o.pieces c
      appends (call.Append fd content) is done = done
      appends other is done = absurd (true≢false (sym is))

  primary_goes : (chunk : ToldChunk) (r : Refusal) → Goes (primary_refuses (forgets d0 x chunk) x chunk r)
  primary_goes chunk NoChunk = refused_done m client o is_open (forgets d0 x chunk) (stays_live (forgets d0 x chunk) x chunk) (dropped_hand m client o is_open d0 x chunk hand)
  primary_goes chunk NoLease = refused_done m client o is_open (forgets d0 x chunk) (stays_live (forgets d0 x chunk) x chunk) (dropped_hand m client o is_open d0 x chunk hand)
  primary_goes chunk ChunkFull = full_goes chunk (forgets d0 x chunk) (less_live x chunk) refl (dropped_hand m client o is_open d0 x chunk hand)
  primary_goes chunk other = refused_done m client o is_open (forgets d0 x chunk) (less_live x chunk) (dropped_hand m client o is_open d0 x chunk hand)

  refused_goes : (st : Stage) (number : ℕ) (r : Refusal) → Staged st → Said st (body.Refused number r) → Goes (takes_refused d0 x st number r)
  refused_goes (AskedWhere asked) number r at said = on_cond Goes (asked == number) (master_refuses d0 x r) d0 (λ same. master_goes r (said (eqb-true asked number same))) (λ _. nothing)
  refused_goes (SentMutate chunk asked) number r at said = on_cond Goes (asked == number) (primary_refuses (forgets d0 x chunk) x chunk r) d0 (λ _. primary_goes chunk r) (λ _. nothing)
  refused_goes (SentRead chunk left asked) number r at said =
      let there : ClientDoing = forgets d0 x chunk in
      on_cond Goes (asked == number) (reader_refuses there x chunk left) d0
      (λ _. on_cond Goes (is_new_enough there.client x.told.0) (reads_next there x chunk left) (asks_anew there x) (λ _. reads_done m client o is_open there x chunk left (dropped_hand m client o is_open d0 x chunk hand) at.0 at.1)
      (λ _. rests m client o is_open there (record x { stage = MustAskAgain }) (dropped_hand m client o is_open d0 x chunk hand) tt)) (λ _. nothing)
  refused_goes other number r at said = nothing

  takes_goes : (b : Body) → IsOfFile x.stage → Said x.stage b → Goes (client_takes d0 x b)
  takes_goes (body.Named number reply) of said = named_goes x.stage number reply of
  takes_goes (body.Told number l) of said = takes_told_goes x.stage number l said
  takes_goes (body.Wait number) of said = wait_goes x.stage number
  takes_goes (body.Refused number r) of said = refused_goes x.stage number r open_call.stage said
  takes_goes (body.Pushed id) of said = pushed_goes x.stage id open_call.stage
  takes_goes (body.Done id place) of said = done_goes x.stage id place open_call.stage said
  takes_goes (body.Bytes number bytes) of said = bytes_goes x.stage number bytes open_call.stage said
  takes_goes (body.LenIs number count) of said = len_goes x.stage number count said
  takes_goes other of said = nothing

  has_answer : (reply : Answer) → Staged (HasAnswer reply) → Goes (completes d0 x reply)
  has_answer reply at = completes_done m client o is_open d0 x reply hand at.2 (λ _. at.1)

  takes_at_goes : (y : Message) (st : Stage) → Staged st → IsOfFile x.stage → Said x.stage y.body → Goes (takes_at d0 x y st)
  takes_at_goes y (HasAnswer reply) at of said = has_answer reply at
  takes_at_goes y other at of said = takes_goes y.body of said

  -- ticks

  unanswered_goes : (d : ClientDoing) → Hand m client o is_open d x → Goes (ends_unanswered d x)
  unanswered_goes d h =
      let over : CurrentCall = record (ended x) { lost_lease = false } in
      on_cond Goes (is_last_attempt x) (gives_up d over) (attempts d over) (λ _. unanswered_done m client o is_open d over h) (λ _. attempts_done m client o is_open d over h)

  ticks_unanswered_goes : (forget : ClientDoing → ClientDoing) → Hand m client o is_open (forget d0) x → Goes (ticks_unanswered d0 x forget)
  ticks_unanswered_goes forget h = on_cond Goes (nat_lt d0.client.now (x.deadline.0 + d0.client.config.skew_ms)) d0 (ends_unanswered (forget d0) x) (λ _. nothing) (λ _. unanswered_goes (forget d0) h)

  ticks_goes : (st : Stage) → IsOfFile st → Staged st → Goes (ticks_at d0 x st)
  ticks_goes AskedNames of at = absurd of
  ticks_goes (HasAnswer reply) of at = has_answer reply at
  ticks_goes IsOver of at = attempts_done m client o is_open d0 x hand
  ticks_goes MustAskAgain of at =
      on_cond Goes (nat_lt d0.client.now x.deadline.0) (asks d0 x) (ticks_unanswered d0 x (λ e. e)) (λ _. asks_done m client o is_open d0 x hand) (λ _. ticks_unanswered_goes (λ e. e) hand)
  ticks_goes (AskedWhere number) of at = ticks_unanswered_goes (λ e. e) hand
  ticks_goes (SentData chunk primary number) of at = ticks_unanswered_goes (λ e. forgets e x chunk) (dropped_hand m client o is_open d0 x chunk hand)
  ticks_goes (SentMutate chunk number) of at = ticks_unanswered_goes (λ e. forgets e x chunk) (dropped_hand m client o is_open d0 x chunk hand)
  ticks_goes (SentRead chunk left number) of at = ticks_unanswered_goes (λ e. forgets e x chunk) (dropped_hand m client o is_open d0 x chunk hand)

  pub goes : (i : NodeInput) → IsOfFile x.stage → ((y : Message) → i ≡ input.Deliver y → Said x.stage y.body) → Goes (client_does d0 i (Some x))
  goes (input.Deliver y) of said = takes_at_goes y x.stage open_call.stage of (said y refl)
  goes input.Tick of said = ticks_goes x.stage of open_call.stage

pub file_steps_are_followed : FileStepsAreFollowed
file_steps_are_followed m client s x alike is of row moment i said =
    subst (λ (c : Option CurrentCall). IsFollowed m client (client_does (client_begins (client_at s moment)) i c)) (sym is)
    (goes m client s x alike here.0 here.1 row moment i of (λ y came. told_of i said y came))
  where
    here : (o : OpenCall) × IsFileCall m client x o
    here = elim (subst (λ (c : Option CurrentCall). IsCallAlike m client c) is alike.call) [
      | inl naming ↦ absurd (subst (λ (st : Stage). IsOfFile st) naming of)
      | inr h ↦ h
    ]

    told_of : (j : NodeInput) → IsSaid m client s j → (y : Message) → j ≡ input.Deliver y → IsSaidAt m client s.id here.0 x x.stage y.body
    told_of j h y came = subst (λ (k : NodeInput). IsSaid m client s k) came h x here.0 is here.1.is_open
