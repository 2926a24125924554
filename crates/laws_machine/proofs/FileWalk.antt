-- What a client's step for its call on a file comes to, over a machine that takes no more than its answer.
use Rattle.std.proofs.Common.{◌≡◌, ◌⊎◌, ℕ, suc, ◌+◌, ◌*◌, ◌/◌, ◌<◌, Bool, true, false, cond, List, [], ◌∷◌, ◌++◌, length, Option, Some, None, refl, sym, ap, subst, ◌∙◌, inl, inr, arith, max}
use Rattle.std.specs.Prelude.{◌-◌, ◌==◌, ◌&&◌, ◌||◌, not, nat_lt, Contains, flat_map, filter_map, IfSome, IsSome, IsTrue, option_map, unwrap_or, nat_le}
use Rattle.std.specs.Option.{option_to_list}
use Rattle.std.specs.List.{AllByRecursion, list_any}
use Rattle.std.specs.Map.{lookup}
use Rattle.std.specs.FinMap as table
use Rattle.std.proofs.lemmas.Bool.{and_parts, eqb-true, ltb-true, ltb-false, true≢false}
use Rattle.std.proofs.Math.Nat.{min-eq_left, max-eq_right}
use Rattle.gfs_types.specs.declared.config.Config.{Config}
use Rattle.gfs_types.specs.declared.ids.ServerId.{ServerId}
use Rattle.gfs_types.specs.declared.ids.Fd.{Fd}
use Rattle.gfs_types.specs.declared.call.Call.{Call}
use Rattle.gfs_types.specs.declared.call.Call.TheVariants as call
use Rattle.gfs_types.specs.declared.answer.Answer.{Answer}
use Rattle.gfs_types.specs.declared.answer.Answer.TheVariants as answer
use Rattle.gfs_types.specs.declared.refusal.Refusal.{Refusal}
use Rattle.gfs_types.specs.declared.refusal.Refusal.TheVariants.{NoReplica, Failed, Unknown}
use Rattle.messages.specs.declared.message.Location.{Location}
use Rattle.messages.specs.declared.message.Holder.{Holder}
use Rattle.messages.specs.declared.message.Group.{Group}
use Rattle.relaxed_file.specs.Order.{CallId}
use Rattle.relaxed_file.specs.Parts.{has_part, part_length}
use Rattle.relaxed_file.specs.Machine.{Machine, Client, OpenCall, IsOpen, Piece, put, chunk_size}
use Rattle.relaxed_file.specs.NameStep.{is_name_call}
use Rattle.relaxed_file.specs.Answers.{HasSuccess, IsWrite, IsDone, MayReturn, may_give_up, descriptors_after, returned}
use Rattle.relaxed_file.specs.Run.{Return, after}
use Rattle.relaxed_file.proofs.Tables.{put_same, put_other, at_some}
use Rattle.machine_names.proofs.Chunks.{file_calls_keep_names}
use Rattle.client_state.specs.declared.kept.Cached.{Cached}
use Rattle.client_state.specs.declared.call.CurrentCall.{CurrentCall}
use Rattle.client_state.specs.declared.call.ToldChunk.{ToldChunk}
use Rattle.client_state.specs.declared.call.Stage.TheVariants.{IsOver, HasAnswer}
use Rattle.protocol.specs.PushBuffer.{next_hop}
use Rattle.protocol.specs.Client.{file_chunk, place_in_file, ClientDoing, Plan, committed, with_current, answers, ClientState}
use Rattle.protocol.specs.ClientCache.{is_same_place, last_opened, last_opened_of, is_fresh, fresh_one, cached}
use Rattle.protocol.specs.ClientAttempts.{is_mutation, is_length, is_append, read_count, has_next_part, is_live_at, completes, last_refusal, gives_up, ended, is_last_attempt, ends_refused, ask_planned, asks, read_planned, reads_next, again_planned, push_planned_to, push_planned, chunk_of, goes_on_at, will_do, begins_with, begins_at, chunk_to_find, attempts, begins_next_part, forgets}
use Rattle.protocol.specs.ClientTakes.{gets, succeeds}
use Rattle.laws_base.proofs.Steps.{on_cond, none_some, same_some, same_or_not, put_cases, gone_split}
use Rattle.laws_base.proofs.Caches.{found}
use Rattle.laws_base.proofs.ClientWalk.{looked, noted, place_at, attempt_end}
use Rattle.laws_base.proofs.OpenFiles.{HasRow, noted_since, noted_there}
use Rattle.laws_names.specs.FollowedClients.{answer_shown}
use Rattle.laws_machine.specs.FileClients.{id_of, IsKeptNote, AreOfPlaces, IsReadSoFar, IsDoneSoFar, IsNotedChunk, IsLasting, IsStageAt, IsFileClient, IsElsewhereSame, IsFollowed, IsPartSettled, AreOpenAsMade}
use Rattle.laws_machine.proofs.ClientCaches.{all_of, dropped, looked_into, places_after_drop, places_after_look, kept_since}
use Rattle.laws_machine.proofs.ReadPieces.{flat_last, filter_last, IsLast, pieces_end, pieces_grow}
use Rattle.laws_machine.proofs.Parts.{none_below, none_beyond}
use Rattle.laws_machine.specs.ToldShapes.{IsMadeWith}
use Rattle.gfs_types.specs.declared.shape.Shape.{Shape}
use Rattle.client_state.specs.declared.kept.OpenFile.{OpenFile}
use Rattle.protocol.specs.Tables.{Table}
use Rattle.protocol.specs.ClientFiles.{with_append_of, with_last_append, with_one_closed, files_after_close}

-- files stay open as they were made, as an append is noted or a descriptor closes

put_made : (m : Machine) (files : Table OpenFile) (file : ℕ) (f g : OpenFile) → table.get files file ≡ Some f → g.shape ≡ f.shape → AreOpenAsMade m files → AreOpenAsMade m (table.insert files file g)
put_made m files file f g is same h q x at = elim (put_cases files file g q x at) [
  | inl now ↦
      subst (λ (n : ℕ). IsMadeWith m n x.shape) (sym now.0)
      (subst (λ (y : OpenFile). IsMadeWith m file y.shape) now.1 (subst (λ (t : Shape). IsMadeWith m file t) (sym same) (h file f is)))
  | inr before ↦ h q x before
]

pub made_since : (m : Machine) (files : Table OpenFile) (file : ℕ) (index : Option ℕ) → AreOpenAsMade m files → AreOpenAsMade m (with_last_append files file index)
made_since m files file index h = by_row (table.get files file) refl
  where
    by_row : (o : Option OpenFile) → table.get files file ≡ o → AreOpenAsMade m (with_append_of files file index o)
    by_row None is = h
    by_row (Some f) is = put_made m files file f (record f { last_append = index }) is refl h

pub closed_made : (m : Machine) (files : Table OpenFile) (file : ℕ) → AreOpenAsMade m files → AreOpenAsMade m (files_after_close files file)
closed_made m files file h = by_row (table.get files file) refl
  where
    by_row : (o : Option OpenFile) → table.get files file ≡ o → AreOpenAsMade m (with_one_closed files file o)
    by_row None is = h
    by_row (Some f) is =
        let less : OpenFile = record f { descriptors = f.descriptors - 1 } in
        on_cond (AreOpenAsMade m) (nat_le f.descriptors 1) (table.remove files file) (table.insert files file less)
        (λ last q g at. h q g (gone_split files file q g at).1) (λ more. put_made m files file f less is refl h)

-- a client cuts by the size of the machine's file
pub open_size : (m : Machine) (s : ClientState) (file : ℕ) (f : OpenFile) → table.get s.files file ≡ Some f → IsMadeWith m file f.shape → file_chunk s file ≡ chunk_size m file
open_size m s file f is made =
    ap (λ (o : Option OpenFile). max 1 (unwrap_or (option_map (λ (g : OpenFile). g.shape.chunk) o) s.config.chunk)) is ∙ max-eq_right made.2 ∙ ap (λ (x : Shape). x.chunk) made.1

pub same_elsewhere : (m : Machine) (client : ℕ) → IsElsewhereSame m client m
same_elsewhere m client = record { config = refl; clock = refl; names = refl; file_count = refl; files = refl; others = λ q not. refl }

-- a call on a file is in hand, and nothing was sent or answered
pub record InHand (m : Machine) (client : ℕ) (o : OpenCall) (d : ClientDoing) (asked : Call) (file part : ℕ) (bytes rounds : List ℕ) : Type 0 where
  pub settings : d.client.config ≡ m.config
  pub fds : d.client.fd_count ≡ (m.clients client).fd_count
  pub descriptors : (fd : ℕ) → table.get d.client.descriptors fd ≡ (m.clients client).descriptors fd
  pub kept : AllByRecursion (IsKeptNote (m.clients client).notes d.client.files d.client.fd_count) d.client.cache.entries
  pub places : AreOfPlaces d.client.cache.entries
  pub shapes : AreOpenAsMade m d.client.files
  pub row : HasRow d.client.files file
  pub unanswered : d.answer ≡ None
  pub call_is : o.asked.call ≡ asked
  pub file_is : o.asked.file ≡ Some file
  pub done : IsDoneSoFar m (id_of client o) file part bytes rounds o.pieces asked

-- what is done of a call says which it is
pub plain_call : (m : Machine) (id : CallId) (file part : ℕ) (bytes rounds : List ℕ) (ps : List Piece) (c : Call) → IsDoneSoFar m id file part bytes rounds ps c → is_name_call c ≡ false
plain_call m id file part bytes rounds ps (call.Write fd offset content) h = refl
plain_call m id file part bytes rounds ps (call.Append fd content) h = refl
plain_call m id file part bytes rounds ps (call.Read fd offset count) h = refl
plain_call m id file part bytes rounds ps (call.Length fd) h = refl
plain_call m id file part bytes rounds ps other h = absurd h

keeps_descriptors : (m : Machine) (id : CallId) (file part : ℕ) (bytes rounds : List ℕ) (ps : List Piece) (c : Call) (reply : Answer) (ds : ℕ → Option ℕ) → IsDoneSoFar m id file part bytes rounds ps c → descriptors_after ds c reply ≡ ds
keeps_descriptors m id file part bytes rounds ps (call.Write fd offset content) reply ds h = refl
keeps_descriptors m id file part bytes rounds ps (call.Append fd content) reply ds h = refl
keeps_descriptors m id file part bytes rounds ps (call.Read fd offset count) reply ds h = refl
keeps_descriptors m id file part bytes rounds ps (call.Length fd) reply ds h = refl
keeps_descriptors m id file part bytes rounds ps other reply ds h = absurd h

-- it may be given up
abbrev refusal_by : Call → Bool → Bool → Refusal
refusal_by c saw nobody = cond (is_mutation c) (cond saw NoReplica Failed) (cond nobody NoReplica Unknown)

lets_go : (m : Machine) (id : CallId) (file part : ℕ) (bytes rounds : List ℕ) (ps : List Piece) (c : Call) (saw nobody : Bool) → IsDoneSoFar m id file part bytes rounds ps c
    → (may_give_up c (refusal_by c saw nobody) ≡ true) × IsLasting (answer.Refused (refusal_by c saw nobody))
lets_go m id file part bytes rounds ps (call.Write fd offset content) true nobody h = (refl, tt)
lets_go m id file part bytes rounds ps (call.Write fd offset content) false nobody h = (refl, tt)
lets_go m id file part bytes rounds ps (call.Append fd content) true nobody h = (refl, tt)
lets_go m id file part bytes rounds ps (call.Append fd content) false nobody h = (refl, tt)
lets_go m id file part bytes rounds ps (call.Read fd offset count) saw true h = (refl, tt)
lets_go m id file part bytes rounds ps (call.Read fd offset count) saw false h = (refl, tt)
lets_go m id file part bytes rounds ps (call.Length fd) saw true h = (refl, tt)
lets_go m id file part bytes rounds ps (call.Length fd) saw false h = (refl, tt)
lets_go m id file part bytes rounds ps other saw nobody h = absurd h

-- a length looks for no location that is kept
found_by : (x : CurrentCall) (c : Call) (index : ℕ) → chunk_to_find x c ≡ Some index → is_length c ≡ false
found_by x (call.Length fd) index is = none_some index is
found_by x other index is = refl

module _ (m : Machine) (client : ℕ) (o : OpenCall) (is_open : IsOpen m client o) where
  abbrev id : CallId
  id = id_of client o

  abbrev pub Hand : ClientDoing → CurrentCall → Type 0
  Hand d x = InHand m client o d x.asked x.file.0 x.index x.bytes x.rounds

  abbrev pub Noted : CurrentCall → ToldChunk → Type 0
  Noted x chunk = IsNotedChunk m client x.file.0 o x.asked chunk

  abbrev pub Done : ClientDoing → Type 0
  Done d = IsFollowed m client d

  pub stays : (d : ClientDoing) → d.answer ≡ None → IsFileClient m client d.client → Done d
  stays d none alike = record { actions = []; allowed = tt; own = tt; seen = ap (λ (a : Option Answer). answer_shown client a) (sym none); elsewhere = same_elsewhere m client; names = λ n h. h; alike = alike }

  -- one request is sent, or the call waits

  pub sends : (d : ClientDoing) (x : CurrentCall) (p : Plan) → Hand d x → IsStageAt m client x.file.0 o x.asked p.stage → Done (committed d x p)
  sends d x p h at =
      stays (committed d x p) h.unanswered (record {
        settings = h.settings;
        fds = h.fds;
        descriptors = h.descriptors;
        kept = h.kept;
        places = h.places;
        shapes = h.shapes;
        call = inr (o, record { is_open = is_open; call_is = h.call_is; file_is = h.file_is; done = h.done; stage = at });
      })

  pub rests : (d : ClientDoing) (x : CurrentCall) → Hand d x → IsStageAt m client x.file.0 o x.asked x.stage → Done (with_current d x)
  rests d x h at =
      stays (with_current d x) h.unanswered (record {
        settings = h.settings;
        fds = h.fds;
        descriptors = h.descriptors;
        kept = h.kept;
        places = h.places;
        shapes = h.shapes;
        call = inr (o, record { is_open = is_open; call_is = h.call_is; file_is = h.file_is; done = h.done; stage = at });
      })

  -- the call is answered

  pub ends_call : (d : ClientDoing) (reply : Answer) → d.client.config ≡ m.config → d.client.fd_count ≡ (m.clients client).fd_count
      → ((fd : ℕ) → table.get d.client.descriptors fd ≡ descriptors_after (m.clients client).descriptors o.asked.call reply fd)
      → AllByRecursion (IsKeptNote (m.clients client).notes d.client.files d.client.fd_count) d.client.cache.entries → AreOfPlaces d.client.cache.entries
      → AreOpenAsMade m d.client.files → is_name_call o.asked.call ≡ false → MayReturn m client o reply → Done (answers d reply)
  ends_call d reply settings fds descriptors kept places shapes plain may =
      record {
        actions = Return client reply ∷ [];
        allowed = ((o, is_open, may), tt);
        own = (refl, tt);
        seen = refl;
        elsewhere = at (λ n. IsElsewhereSame m client n) (record { config = refl; clock = refl; names = refl; file_count = refl; files = refl; others = λ q apart. put_other client closed m.clients q apart });
        names = λ n same. (file_calls_keep_names m n client same).1 reply o is_open plain;
        alike = at (λ n. IsFileClient n client (answers d reply).client) (record {
          settings = settings;
          fds = in_closed (λ c. d.client.fd_count ≡ c.fd_count) fds;
          descriptors = λ fd. in_closed (λ c. table.get d.client.descriptors fd ≡ c.descriptors fd) (descriptors fd);
          kept = in_closed (λ c. AllByRecursion (IsKeptNote c.notes d.client.files d.client.fd_count) d.client.cache.entries) kept;
          places = places;
          shapes = shapes;
          call = in_closed (λ c. c.open_call ≡ None) refl;
        });
      }
    where
      closed : Client
      closed = record (m.clients client) { open_call = None; descriptors = descriptors_after (m.clients client).descriptors o.asked.call reply }

      at : (P : Machine → Type 0) → P (returned m client o reply) → P (after m (Return client reply))
      at P g = at_some P (λ (c : OpenCall). returned m client c reply) m (m.clients client).open_call o is_open g

      in_closed : (P : Client → Type 0) → P closed → P (put client closed m.clients client)
      in_closed P g = subst P (sym (put_same client closed m.clients)) g

  pub answered : (d : ClientDoing) (x : CurrentCall) (reply : Answer) → Hand d x → MayReturn m client o reply → Done (answers d reply)
  answered d x reply h may =
      ends_call d reply h.settings h.fds (λ fd. h.descriptors fd ∙ ap (λ (ds : ℕ → Option ℕ). ds fd) (sym same)) h.kept h.places h.shapes
      (ap is_name_call h.call_is ∙ plain_call m id x.file.0 x.index x.bytes x.rounds o.pieces x.asked h.done) may
    where
      same : descriptors_after (m.clients client).descriptors o.asked.call reply ≡ (m.clients client).descriptors
      same =
          ap (λ (c : Call). descriptors_after (m.clients client).descriptors c reply) h.call_is
          ∙ keeps_descriptors m id x.file.0 x.index x.bytes x.rounds o.pieces x.asked reply (m.clients client).descriptors h.done

  pub completes_done : (d : ClientDoing) (x : CurrentCall) (reply : Answer) → Hand d x → MayReturn m client o reply → (list_any (is_live_at d.client.now) x.live ≡ true → IsLasting reply) → Done (completes d x reply)
  completes_done d x reply h may lasting =
      on_cond Done (is_mutation x.asked && list_any (is_live_at d.client.now) x.live) (with_current d (record x { stage = HasAnswer reply })) (answers d reply)
      (λ both.
      let parts = and_parts (is_mutation x.asked) (list_any (is_live_at d.client.now) x.live) both in
      rests d (record x { stage = HasAnswer reply }) h (parts.0, lasting parts.1, may)) (λ _. answered d x reply h may)

  gives_up_done : (d : ClientDoing) (x : CurrentCall) → Hand d x → Done (gives_up d x)
  gives_up_done d x h =
      let both = lets_go m id x.file.0 x.index x.bytes x.rounds o.pieces x.asked x.saw_no_holder x.is_nobody_serving h.done in
      completes_done d x (answer.Refused (last_refusal x)) h (inr (inl (ap (λ (c : Call). may_give_up c (last_refusal x)) h.call_is ∙ both.0))) (λ _. both.1)

  pub refused_done : (d : ClientDoing) (x : CurrentCall) → Hand d x → Done (ends_refused d x)
  refused_done d x h = on_cond Done (is_last_attempt x) (gives_up d (ended x)) (with_current d (ended x)) (λ _. gives_up_done d (ended x) h) (λ _. rests d (ended x) h tt)

  pub unanswered_done : (d : ClientDoing) (x : CurrentCall) → Hand d x → Done (gives_up d x)
  unanswered_done d x h = gives_up_done d x h

  -- a location is there

  pub reads_done : (d : ClientDoing) (x : CurrentCall) (chunk : ToldChunk) (left : List Holder) → Hand d x → is_mutation x.asked ≡ false → Noted x chunk → Done (reads_next d x chunk left)
  reads_done d x chunk [] h plain there = refused_done d (record x { is_nobody_serving = true }) h
  reads_done d x chunk (b ∷ rest) h plain there = sends d x (read_planned d.client x chunk b rest) h (plain, there)

  push_to_done : (d : ClientDoing) (x : CurrentCall) (chunk : ToldChunk) (g : Group) (first : Option ServerId) → Hand d x → is_mutation x.asked ≡ true → Noted x chunk → Done (committed d x (push_planned_to d.client x chunk g first))
  push_to_done d x chunk g None h places there = sends d x (again_planned d.client) h tt
  push_to_done d x chunk g (Some first) h places there = sends d x (push_planned_to d.client x chunk g (Some first)) h (places, there)

  push_done : (d : ClientDoing) (x : CurrentCall) (chunk : ToldChunk) (g : Option Group) → Hand d x → is_mutation x.asked ≡ true → Noted x chunk → Done (committed d x (push_planned d.client x chunk g))
  push_done d x chunk None h places there = sends d x (again_planned d.client) h tt
  push_done d x chunk (Some g) h places there = push_to_done d x chunk g (next_hop g.members 0) h places there

  pub goes_on_done : (d : ClientDoing) (x : CurrentCall) (l : Location) → Hand d x → Noted x (chunk_of l) → Done (goes_on_at d x l)
  goes_on_done d x l h there =
      on_cond Done (is_mutation x.asked) (committed d x (push_planned d.client x (chunk_of l) l.group)) (reads_next d x (chunk_of l) l.holders)
      (λ is. push_done d x (chunk_of l) l.group h is there) (λ is. reads_done d x (chunk_of l) l.holders h is there)

  -- an attempt begins

  pub asks_done : (d : ClientDoing) (x : CurrentCall) → Hand d x → Done (asks d x)
  asks_done d x h = sends d (record x { lost_lease = false }) (ask_planned d.client x) h tt

  pub looked_hand : (d : ClientDoing) (x : CurrentCall) (index : ℕ) → Hand d x → Hand (looked d (place_at x index)) x
  looked_hand d x index h =
      record {
        settings = h.settings;
        fds = h.fds;
        descriptors = h.descriptors;
        kept = looked_into (IsKeptNote (m.clients client).notes d.client.files d.client.fd_count) d.client (place_at x index) h.kept;
        places = places_after_look d.client (place_at x index) h.places;
        shapes = h.shapes;
        row = h.row;
        unanswered = h.unanswered;
        call_is = h.call_is;
        file_is = h.file_is;
        done = h.done;
      }

  pub dropped_hand : (d : ClientDoing) (x : CurrentCall) (chunk : ToldChunk) → Hand d x → Hand (forgets d x chunk) x
  dropped_hand d x chunk h =
      record {
        settings = h.settings;
        fds = h.fds;
        descriptors = h.descriptors;
        kept = dropped (IsKeptNote (m.clients client).notes d.client.files d.client.fd_count) (record { file = x.file.0; index = chunk.index }) d.client.cache.entries h.kept;
        places = places_after_drop d.client.cache (record { file = x.file.0; index = chunk.index }) h.places;
        shapes = h.shapes;
        row = h.row;
        unanswered = h.unanswered;
        call_is = h.call_is;
        file_is = h.file_is;
        done = h.done;
      }

  pub appended_hand : (d : ClientDoing) (x : CurrentCall) (index : Option ℕ) → Hand d x → Hand (noted d x.file.0 index) x
  appended_hand d x index h =
      record {
        settings = h.settings;
        fds = h.fds;
        descriptors = h.descriptors;
        kept = kept_since (m.clients client).notes d.client.files (noted d x.file.0 index).client.files d.client.fd_count (noted_since d.client.files x.file.0 index) d.client.cache.entries h.kept;
        places = h.places;
        shapes = made_since m d.client.files x.file.0 index h.shapes;
        row = noted_there d.client.files x.file.0 index h.row;
        unanswered = h.unanswered;
        call_is = h.call_is;
        file_is = h.file_is;
        done = h.done;
      }

  abbrev IsNoteOf : CurrentCall → Cached → Type 0
  IsNoteOf x c = (m.clients client).notes x.file.0 c.location.index ≡ Some c.location.round.0

  -- a location that is found is the client's note
  found_noted : (d : ClientDoing) (x : CurrentCall) (index : ℕ) (e : Cached) → Hand d x → cached d.client (place_at x index) ≡ Some e → (m.clients client).notes x.file.0 e.location.index ≡ Some e.location.round.0
  found_noted d x index e h is = fresh (lookup (is_same_place (place_at x index)) d.client.cache.entries) refl is
    where
      last : last_opened d.client x.file.0 ≡ (h.row.0).last_opened.0
      last = ap last_opened_of h.row.1

      good : (c : Cached) → lookup (is_same_place (place_at x index)) d.client.cache.entries ≡ Some c → is_fresh d.client x.file.0 c ≡ true → IsNoteOf x c
      good c at test =
          let there = found (IsKeptNote (m.clients client).notes d.client.files d.client.fd_count) (is_same_place (place_at x index)) d.client.cache.entries c at
          (all_of (IsKeptNote (m.clients client).notes d.client.files d.client.fd_count) d.client.cache.entries h.kept) in
          let file_is : x.file.0 ≡ (there.0).file = eqb-true x.file.0 (there.0).file (and_parts (x.file.0 == (there.0).file) (index == (there.0).index) there.1).0 in
          let opened = eqb-true c.opened.0 (last_opened d.client x.file.0) (and_parts (c.opened.0 == last_opened d.client x.file.0) (nat_lt (d.client.now - c.told.0) d.client.config.cache_ms) test).0 in
          elim there.2.noted [
            | inl noted ↦ ap (λ (f : ℕ). (m.clients client).notes f c.location.index) file_is ∙ ap (λ (i : ℕ). (m.clients client).notes (there.0).file i) there.2.place ∙ noted
            | inr again ↦ let later = again h.row.0 (ap (λ (f : ℕ). table.get d.client.files f) (sym file_is) ∙ h.row.1) in absurd (omega (arith, later, opened, last))
          ]

      by_test : (c : Cached) (b : Bool) → is_fresh d.client x.file.0 c ≡ b → lookup (is_same_place (place_at x index)) d.client.cache.entries ≡ Some c → cond b (Some c) None ≡ Some e → IsNoteOf x e
      by_test c true test at g = subst (IsNoteOf x) (same_some c e g) (good c at test)
      by_test c false test at g = none_some e g

      fresh : (c : Option Cached) → lookup (is_same_place (place_at x index)) d.client.cache.entries ≡ c → fresh_one d.client x.file.0 c ≡ Some e → IsNoteOf x e
      fresh None at g = none_some e g
      fresh (Some c) at g = by_test c (is_fresh d.client x.file.0 c) refl at g

  begins_with_done : (d : ClientDoing) (x : CurrentCall) (index : ℕ) (e : Option Cached) → cached d.client (place_at x index) ≡ e → is_length x.asked ≡ false → Hand d x → Done (begins_with (looked d (place_at x index)) x e)
  begins_with_done d x index None is plain h = asks_done (looked d (place_at x index)) x (looked_hand d x index h)
  begins_with_done d x index (Some e) is plain h =
      let there : ClientDoing = looked d (place_at x index) in
      let then_ : CurrentCall = record x { told = e.told } in
      on_cond Done (will_do x e) (goes_on_at there then_ e.location) (asks there x)
      (λ _. goes_on_done there then_ e.location (looked_hand d x index h) (record { noted = found_noted d x index e h is; last = λ is_len. absurd (true≢false (sym is_len ∙ plain)) }))
      (λ _. asks_done there x (looked_hand d x index h))

  begins_at_done : (d : ClientDoing) (x : CurrentCall) (p : Option ℕ) → ((index : ℕ) → p ≡ Some index → is_length x.asked ≡ false) → Hand d x → Done (begins_at d x p)
  begins_at_done d x None plain h = asks_done d x h
  begins_at_done d x (Some index) plain h = begins_with_done d x index (cached d.client (place_at x index)) refl (plain index refl) h

  pub attempts_done : (d : ClientDoing) (x : CurrentCall) → Hand d x → Done (attempts d x)
  attempts_done d x h =
      begins_at_done d (record x { deadline = attempt_end d.client; is_nobody_serving = false; last_chunk = None; stage = IsOver }) (chunk_to_find x x.asked) (λ index is. found_by x x.asked index is) h

  -- a part is done

  pub with_part : (d : ClientDoing) (x : CurrentCall) (part : ℕ) (bytes rounds : List ℕ) → Hand d x → IsDoneSoFar m id x.file.0 part bytes rounds o.pieces x.asked → InHand m client o d x.asked x.file.0 part bytes rounds
  with_part d x part bytes rounds h done =
      record {
        settings = h.settings;
        fds = h.fds;
        descriptors = h.descriptors;
        kept = h.kept;
        places = h.places;
        shapes = h.shapes;
        row = h.row;
        unanswered = h.unanswered;
        call_is = h.call_is;
        file_is = h.file_is;
        done = done;
      }

  next_done : (d : ClientDoing) (x : CurrentCall) → InHand m client o d x.asked x.file.0 (suc x.index) x.bytes x.rounds → Done (begins_next_part d x)
  next_done d x h = attempts_done d (record x { index = suc x.index; left = d.client.config.attempts; lost_lease = false }) h

  -- what is no mutation is answered at once
  pub plain_done : (d : ClientDoing) (x : CurrentCall) (reply : Answer) → is_mutation x.asked ≡ false → Done (answers d reply) → Done (completes d x reply)
  plain_done d x reply plain h =
      on_cond Done (is_mutation x.asked && list_any (is_live_at d.client.now) x.live) (with_current d (record x { stage = HasAnswer reply })) (answers d reply)
      (λ live. absurd (true≢false (sym (and_parts (is_mutation x.asked) (list_any (is_live_at d.client.now) x.live) live).0 ∙ plain))) (λ _. h)

  size_is : (d : ClientDoing) (x : CurrentCall) → Hand d x → file_chunk d.client x.file.0 ≡ chunk_size m x.file.0
  size_is d x h = open_size m d.client x.file.0 h.row.0 h.row.1 (h.shapes x.file.0 h.row.0 h.row.1)

  pub or_cases : (a b : Bool) → a || b ≡ true → (a ≡ true) ⊎ (b ≡ true)
  or_cases true b h = inl refl
  or_cases false b h = inr h

  or_none : (a b : Bool) → a || b ≡ false → (a ≡ false) × (b ≡ false)
  or_none true b h = absurd (true≢false h)
  or_none false b h = (refl, h)

  not_true : (b : Bool) → not b ≡ true → b ≡ false
  not_true true h = absurd (true≢false (sym h))
  not_true false h = refl

  not_false : (b : Bool) → not b ≡ false → b ≡ true
  not_false true h = refl
  not_false false h = absurd (true≢false h)

  -- bytes of a read's part
  pub gets_done : (d : ClientDoing) (x : CurrentCall) (fd : Fd) (offset count : ℕ) → x.asked ≡ call.Read fd offset count → (bytes : List ℕ) (round : Option ℕ)
      → Contains o.pieces (record { index = x.index; bytes = bytes; round = round }) → Hand d x → Done (gets d x bytes round)
  gets_done d x fd offset count is bytes round there h =
      on_cond Done (short || not more) (completes d got (answer.Bytes got.bytes got.rounds)) (begins_next_part d got) (λ last. ends (or_cases short (not more) last)) (λ on. goes_on (or_none short (not more) on))
    where
      got : CurrentCall
      got = record x { bytes = x.bytes ++ bytes; rounds = x.rounds ++ option_to_list round }

      piece : Piece
      piece = record { index = x.index; bytes = bytes; round = round }

      short : Bool
      short = nat_lt (length bytes) (read_count (file_chunk d.client x.file.0) x.index x.asked)

      more : Bool
      more = has_next_part (file_chunk d.client x.file.0) x.index x.asked

      short_is : short ≡ nat_lt (length bytes) (part_length (chunk_size m x.file.0) offset count x.index)
      short_is =
          ap (λ (size : ℕ). nat_lt (length bytes) (read_count size x.index x.asked)) (size_is d x h) ∙ ap (λ (c : Call). nat_lt (length bytes) (read_count (chunk_size m x.file.0) x.index c)) is

      more_is : more ≡ has_part (chunk_size m x.file.0) offset count (suc x.index)
      more_is = ap (λ (size : ℕ). has_next_part size x.index x.asked) (size_is d x h) ∙ ap (λ (c : Call). has_next_part (chunk_size m x.file.0) x.index c) is

      so_far : IsDoneSoFar m id x.file.0 x.index x.bytes x.rounds o.pieces (call.Read fd offset count)
      so_far = subst (λ (c : Call). IsDoneSoFar m id x.file.0 x.index x.bytes x.rounds o.pieces c) is h.done

      read : IsReadSoFar (chunk_size m x.file.0) offset count x.index x.bytes x.rounds o.pieces
      read = so_far.2

      bytes_now : got.bytes ≡ flat_map (λ (q : Piece). q.bytes) (read.pieces ++ piece ∷ [])
      bytes_now = ap (λ (bs : List ℕ). bs ++ bytes) read.bytes_are ∙ sym (flat_last (λ (q : Piece). q.bytes) read.pieces piece)

      rounds_now : got.rounds ≡ filter_map (λ (q : Piece). q.round) (read.pieces ++ piece ∷ [])
      rounds_now = ap (λ (rs : List ℕ). rs ++ option_to_list round) read.rounds_are ∙ sym (filter_last (λ (q : Piece). q.round) read.pieces piece)

      ends : (short ≡ true) ⊎ (not more ≡ true) → Done (completes d got (answer.Bytes got.bytes got.rounds))
      ends last =
          let is_last : IsLast (chunk_size m x.file.0) offset count o.pieces piece there x.index = elim last [ inl s ↦ inl (sym short_is ∙ s) | inr n ↦ inr (sym more_is ∙ not_true more n) ] in
          let pieces = pieces_end (chunk_size m x.file.0) offset count o.pieces piece there x.index (offset / chunk_size m x.file.0) read.pieces read.are_whole refl so_far.1 is_last in
          plain_done d got (answer.Bytes got.bytes got.rounds) (ap is_mutation is)
          (answered d x (answer.Bytes got.bytes got.rounds) h
          (subst (λ (c : Call). IsDone m client o c (answer.Bytes got.bytes got.rounds)) (sym (h.call_is ∙ is)) (x.file.0, h.file_is, read.pieces ++ piece ∷ [], pieces, bytes_now, rounds_now, so_far.0)))

      goes_on : (short ≡ false) × (not more ≡ false) → Done (begins_next_part d got)
      goes_on on =
          next_done d got (with_part d x (suc x.index) got.bytes got.rounds h
          (subst (λ (c : Call). IsDoneSoFar m id x.file.0 (suc x.index) got.bytes got.rounds o.pieces c) (sym is) (
            so_far.0,
            sym more_is ∙ not_false more on.1,
            record {
              pieces = read.pieces ++ piece ∷ [];
              are_whole = pieces_grow (chunk_size m x.file.0) offset count o.pieces piece there x.index (offset / chunk_size m x.file.0) read.pieces read.are_whole refl so_far.1 (sym short_is ∙ on.0);
              bytes_are = bytes_now;
              rounds_are = rounds_now;
            },
          )))

  -- a length is told
  pub length_done : (d : ClientDoing) (x : CurrentCall) (n : ℕ) → is_length x.asked ≡ true → Contains o.lengths n → Hand d x → Done (completes d x (answer.Length n))
  length_done d x n is there h = plain_done d x (answer.Length n) (not_mutation x.asked is) (answered d x (answer.Length n) h (subst (λ (c : Call). IsDone m client o c (answer.Length n)) (sym h.call_is) (of_length x.asked is)))
    where
      not_mutation : (c : Call) → is_length c ≡ true → is_mutation c ≡ false
      not_mutation (call.Length fd) has = refl
      not_mutation other has = absurd (true≢false (sym has))

      of_length : (c : Call) → is_length c ≡ true → IsDone m client o c (answer.Length n)
      of_length (call.Length fd) has = there
      of_length other has = absurd (true≢false (sym has))

  -- a part of a mutation is settled

  abbrev IsAnAppend : Call → Type 0
  IsAnAppend c = (fd : Fd) × (content : List ℕ) × (c ≡ call.Append fd content)

  abbrev IsAWrite : Call → Type 0
  IsAWrite c = (fd : Fd) × (offset : ℕ) × (content : List ℕ) × (c ≡ call.Write fd offset content)

  an_append : (c : Call) → is_append c ≡ true → IsAnAppend c
  an_append (call.Append fd content) is = (fd, content, refl)
  an_append other is = absurd (true≢false (sym is))

  a_write : (c : Call) → is_mutation c ≡ true → is_append c ≡ false → IsAWrite c
  a_write (call.Write fd offset content) is plain = (fd, offset, content, refl)
  a_write (call.Append fd content) is plain = absurd (true≢false plain)
  a_write other is plain = absurd (true≢false (sym is))

  append_done : (d : ClientDoing) (x : CurrentCall) (chunk : ToldChunk) (place : ℕ) → Hand d x → IsAnAppend x.asked → IsPartSettled m id x.file.0 x.index chunk.index place x.asked
      → Done (completes (noted d x.file.0 (Some chunk.index)) x (answer.At (place_in_file (file_chunk d.client x.file.0) chunk.index place)))
  append_done d x chunk place h is settled =
      let has : IsPartSettled m id x.file.0 x.index chunk.index place (call.Append is.0 is.1) = subst (λ (c : Call). IsPartSettled m id x.file.0 x.index chunk.index place c) is.2 settled in
      let at : place_in_file (file_chunk d.client x.file.0) chunk.index place ≡ chunk.index * chunk_size m x.file.0 + place =
      ap (λ (size : ℕ). place_in_file size chunk.index place) (size_is d x h) ∙ min-eq_left has.0 in
      let reply : Answer = answer.At (place_in_file (file_chunk d.client x.file.0) chunk.index place) in
      completes_done (noted d x.file.0 (Some chunk.index)) x reply (appended_hand d x (Some chunk.index) h)
      (subst (λ (c : Call). IsDone m client o c reply) (sym (h.call_is ∙ is.2)) (x.file.0, h.file_is, chunk.index, place, at, has.1, has.2)) (λ _. tt)

  write_done : (d : ClientDoing) (x : CurrentCall) (index place : ℕ) → Hand d x → IsAWrite x.asked → IsPartSettled m id x.file.0 x.index index place x.asked
      → Done (cond (has_next_part (file_chunk d.client x.file.0) x.index x.asked) (begins_next_part d x) (completes d x answer.Done))
  write_done d x index place h is settled =
      on_cond Done (has_next_part (file_chunk d.client x.file.0) x.index x.asked) (begins_next_part d x) (completes d x answer.Done) goes_on ends
    where
      offset : ℕ
      offset = is.1

      count : ℕ
      count = length is.2

      so_far : IsDoneSoFar m id x.file.0 x.index x.bytes x.rounds o.pieces (call.Write is.0 is.1 is.2)
      so_far = subst (λ (c : Call). IsDoneSoFar m id x.file.0 x.index x.bytes x.rounds o.pieces c) is.3 h.done

      here : HasSuccess m client id x.file.0 x.index IsWrite
      here = subst (λ (c : Call). IsPartSettled m id x.file.0 x.index index place c) is.3 settled

      next_is : has_next_part (file_chunk d.client x.file.0) x.index x.asked ≡ has_part (chunk_size m x.file.0) offset count (suc x.index)
      next_is = ap (λ (size : ℕ). has_next_part size x.index x.asked) (size_is d x h) ∙ ap (λ (c : Call). has_next_part (chunk_size m x.file.0) x.index c) is.3

      all_done : (part : ℕ) → part < suc x.index → IsTrue (has_part (chunk_size m x.file.0) offset count part) → HasSuccess m client id x.file.0 part IsWrite
      all_done part low has = elim (same_or_not part x.index) [
        | inl same ↦ subst (λ (i : ℕ). HasSuccess m client id x.file.0 i IsWrite) (sym same) here
        | inr other ↦ so_far.2 part (before low other) has
      ]
        where
          before : part < suc x.index → (part ≡ x.index → ⊥) → part < x.index
          before l apart = by_test (nat_lt part x.index) refl
            where
              by_test : (b : Bool) → nat_lt part x.index ≡ b → part < x.index
              by_test true t = ltb-true part x.index t
              by_test false t = let high = ltb-false part x.index t in absurd (apart (omega (arith, l, high)))

      goes_on : has_next_part (file_chunk d.client x.file.0) x.index x.asked ≡ true → Done (begins_next_part d x)
      goes_on more =
          next_done d x (with_part d x (suc x.index) x.bytes x.rounds h
          (subst (λ (c : Call). IsDoneSoFar m id x.file.0 (suc x.index) x.bytes x.rounds o.pieces c) (sym is.3) (so_far.0, sym next_is ∙ more, all_done)))

      ends : has_next_part (file_chunk d.client x.file.0) x.index x.asked ≡ false → Done (completes d x answer.Done)
      ends none =
          let first = none_below (chunk_size m x.file.0) offset count x.index so_far.1 in
          let each : (part : ℕ) → IsTrue (has_part (chunk_size m x.file.0) offset count part) → HasSuccess m client id x.file.0 part IsWrite =
          λ part has. all_done part (none_beyond (chunk_size m x.file.0) offset count x.index part first (sym next_is ∙ none) has) has in
          completes_done d x answer.Done h
          (subst (λ (c : Call). IsDone m client o c answer.Done) (sym (h.call_is ∙ is.3)) (
            subst (λ (f : Option ℕ). IfSome f (λ file. (part : ℕ) → IsTrue (has_part (chunk_size m file) offset count part) → HasSuccess m client id file part IsWrite)) (sym h.file_is) each,
            subst (λ (f : Option ℕ). IsSome f) (sym h.file_is) refl,
            so_far.0,
          )) (λ _. tt)

  pub succeeds_done : (d : ClientDoing) (x : CurrentCall) (chunk : ToldChunk) (place : ℕ) → Hand d x → is_mutation x.asked ≡ true → IsPartSettled m id x.file.0 x.index chunk.index place x.asked → Done (succeeds d x chunk place)
  succeeds_done d x chunk place h mutates settled =
      on_cond Done (is_append x.asked) (completes (noted d x.file.0 (Some chunk.index)) x (answer.At (place_in_file (file_chunk d.client x.file.0) chunk.index place)))
      (cond (has_next_part (file_chunk d.client x.file.0) x.index x.asked) (begins_next_part d x) (completes d x answer.Done))
      (λ is. append_done d x chunk place h (an_append x.asked is) settled) (λ not. write_done d x chunk.index place h (a_write x.asked mutates not) settled)
