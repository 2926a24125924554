-- What the whole machine does to chunks, or for a call on a file, leaves its names.
use Rattle.std.proofs.Common.{◌≡◌, ℕ, suc, ◌+◌, ◌*◌, Bool, true, false, cond, List, [], ◌∷◌, Option, Some, None, refl, sym, ap, subst, ◌∙◌, arith}
use Rattle.std.specs.Prelude.{◌==◌, Contains, IsFalse, option_map, option_and_then, unwrap_or}
use Rattle.std.proofs.lemmas.Bool.{true≢false, eqb-true}
use Rattle.std.proofs.lemmas.Option.{none-some}
use Rattle.gfs_types.specs.declared.call.Call.{Call}
use Rattle.gfs_types.specs.declared.answer.Answer.{Answer}
use Rattle.gfs_types.specs.Image.{image_length}
use Rattle.gfs_types.specs.declared.mutation.Mutation.{Mutation}
use Rattle.relaxed_file.specs.Order.{CallId, Entry, mutations_of}
use Rattle.relaxed_file.specs.Machine.{Machine, Client, Chunk, FileState, OpenCall, IsOpen, Asked, Offer, NoSuchChunk, Piece, new_chunk, put, with_chunk, with_client, chunk_at, chunk_count, chunk_size}
use Rattle.relaxed_file.specs.NameStep.{is_name_call}
use Rattle.relaxed_file.specs.Chunks.{MayAdd, begun_call, chunk_added, placed, with_entry, settled_at}
use Rattle.relaxed_file.specs.Reads.{offer_of, read_slice, looked}
use Rattle.relaxed_file.specs.Answers.{returned}
use Rattle.relaxed_file.specs.Run.{Invoke, Return, Add, OpenRound, CloseRound, Place, Settle, Tell, Note, Look, LookPast, Measure, MeasureNone, Allows, after, asked_file}
use Rattle.relaxed_file.proofs.Tables.{from_some, put_same}
use Rattle.machine_names.specs.NameProjections.{named_state, IsSameCall, AreSameCalls, AreNamesOf, ChunkActionsKeepNames, FileCallsKeepNames}
use Rattle.machine_names.proofs.Calls.{AreSame, AreAllSame, all_same, put_first, with_same_clients, IsUnnamed, unnamed_call, on_file, one_step, called, answered}
use Rattle.machine_names.proofs.Actions.{on_call}

abbrev a_piece : ℕ → List ℕ → Option ℕ → Piece
a_piece index bytes round = record { index = index; bytes = bytes; round = round }

-- files that go with the names as they did
same_files : (m o n : Machine) → AreNamesOf m n → o.config ≡ m.config → o.clock ≡ m.clock → o.names ≡ m.names → o.file_count ≡ m.file_count → ((file : ℕ) → named_state (o.files file) ≡ named_state (m.files file)) → o.clients ≡ m.clients → AreNamesOf o n
same_files m o n h config clock names count files clients =
    with_same_clients m n o n h config clock names count files refl refl refl refl (λ file. refl) (subst (λ (cs : ℕ → Client). AreAllSame cs n.clients) (sym clients) (all_same m n h))

module _ (m n : Machine) (h : AreNamesOf m n) where
  put_file : (file : ℕ) (state : FileState) → named_state state ≡ named_state (m.files file) → (k : ℕ) → named_state (put file state m.files k) ≡ named_state (m.files k)
  put_file file state same k = by_key (k == file) refl
    where
      by_key : (b : Bool) → (k == file) ≡ b → named_state (cond b state (m.files k)) ≡ named_state (m.files k)
      by_key true e = same ∙ ap (λ (x : ℕ). named_state (m.files x)) (sym (eqb-true k file e))
      by_key false e = refl

  chunk_changes : (file index : ℕ) (chunk : Chunk) → AreNamesOf (with_chunk m file index chunk) n
  chunk_changes file index chunk = same_files m (with_chunk m file index chunk) n h refl refl refl refl (put_file file (record (m.files file) { chunks = put index chunk (m.files file).chunks }) refl) refl

  -- the call of a chunk that is added is no name call
  abbrev begun_state : CallId → Client
  begun_state id = record (m.clients id.client) { open_call = begun_call id.number (m.clients id.client).open_call }

  added_named : (id : CallId) (asked : Asked) (file : ℕ) → MayAdd m id asked file → (c d : OpenCall) (b : Bool) → (d.number == id.number) ≡ b → IsSameCall (m.clients id.client) c d
      → IsSameCall (begun_state id) c (cond b (record d { has_begun = true }) d)
  added_named id asked file may c d true e s =
      let asked_is : asked ≡ d.asked = from_some (sym may.0 ∙ ap (m.clients id.client).calls (sym (eqb-true d.number id.number e)) ∙ s.listed) in
      absurd (none-some file (sym s.no_file.1 ∙ ap (λ (a : Asked). a.file) (sym asked_is) ∙ may.1))
  added_named id asked file may c d false e s = record { naming = s.naming; call_is = s.call_is; no_file = s.no_file; begun = s.begun; locks = s.locks; outcomes = s.outcomes; no_offer = s.no_offer; listed = s.listed }

  added_unnamed : (d : OpenCall) (b : Bool) → IsFalse (is_name_call d.asked.call) → IsFalse (is_name_call (cond b (record d { has_begun = true }) d).asked.call)
  added_unnamed d true is = is
  added_unnamed d false is = is

  added_calls : (id : CallId) (asked : Asked) (file : ℕ) → MayAdd m id asked file → (p o : Option OpenCall) → AreSameCalls (m.clients id.client) p o → AreSameCalls (begun_state id) p (begun_call id.number o)
  added_calls id asked file may None None is = tt
  added_calls id asked file may None (Some d) is = added_unnamed d (d.number == id.number) is
  added_calls id asked file may (Some c) None is = absurd is
  added_calls id asked file may (Some c) (Some d) is = added_named id asked file may c d (d.number == id.number) refl is

  added_call : (id : CallId) (asked : Asked) (file : ℕ) → MayAdd m id asked file → AreSame (begun_state id) (n.clients id.client)
  added_call id asked file may = (added_calls id asked file may (n.clients id.client).open_call (m.clients id.client).open_call (h.calls id.client), h.fds id.client)

  adds : (id : CallId) → Allows m (Add id) → AreNamesOf (after m (Add id)) n
  adds id may =
      let asked : Asked = may.0 in
      let file : ℕ = may.1 in
      let named : asked_file m id ≡ Some file = ap (λ (o : Option Asked). option_and_then (λ (a : Asked). a.file) o) may.2.0 ∙ may.2.1 in
      subst (λ (o : Option ℕ). AreNamesOf (unwrap_or (option_map (chunk_added m id) o) m) n) (sym named)
      (with_same_clients m n (chunk_added m id file) n h refl refl refl refl (put_file file (record (m.files file) { chunk_count = suc (chunk_count m file); chunks = put (chunk_count m file) new_chunk (m.files file).chunks }) refl) refl refl refl refl (λ x. refl)
      (put_first m.clients n.clients id.client (begun_state id) (all_same m n h) (added_call id asked file may.2)))

  -- a call on this file is no name call
  its_file : (client file : ℕ) (d : OpenCall) → IsOpen m client d → d.asked.file ≡ Some file → IsUnnamed m n client d
  its_file client file d is on = unnamed_call m n client d h is (λ c. on_file (m.clients client) c d file on)

  -- nor is one that was offered a chunk
  offered_call : (client : ℕ) (d : OpenCall) (offer : Offer) → IsOpen m client d → Contains d.offers offer → IsUnnamed m n client d
  offered_call client d offer is told = unnamed_call m n client d h is (λ c s. none_told (subst (λ (os : List Offer). Contains os offer) s.no_offer told))
    where
      none_told : Contains [] offer → ⊥
      none_told at = let low = at.1 in omega (arith, low)

  places : (client file index : ℕ) (mutation : Mutation) → Allows m (Place client file index mutation) → AreNamesOf (after m (Place client file index mutation)) n
  places client file index mutation may =
      let d : OpenCall = may.0 in
      let o : Machine = with_chunk m file index (with_entry (chunk_at m file index) (record { client = client; number = d.number }) mutation) in
      on_call (λ (x : Machine). AreNamesOf x n) m (λ (current : OpenCall). placed m client current file index mutation) (m.clients client).open_call d may.1
      (one_step o n client d (λ c. c) (λ c. refl) (chunk_changes file index (with_entry (chunk_at m file index) (record { client = client; number = d.number }) mutation)) may.1
      (let u = its_file client file d may.1 may.2.0 in record { none = u.none; unnamed = u.unnamed }))

  tells : (client file index : ℕ) → Allows m (Tell client file index) → AreNamesOf (after m (Tell client file index)) n
  tells client file index may = one_step m n client may.0 (λ c. record c { offers = offer_of m file index ∷ c.offers }) (λ c. refl) h may.1 (its_file client file may.0 may.1 may.2.0)

  notes : (client file index round count : ℕ) → Allows m (Note client file index round count) → AreNamesOf (after m (Note client file index round count)) n
  notes client file index round count may =
      let d : OpenCall = may.0 in
      let u = its_file client file d may.1 may.2.0 in
      let state : Client = record (m.clients client) { notes = put file (put index (Some round) ((m.clients client).notes file)) (m.clients client).notes } in
      let noted_too : AreNamesOf (with_client m client state) n = with_same_clients m n (with_client m client state) n h refl refl refl refl (λ x. refl) refl refl refl refl (λ x. refl)
      (put_first m.clients n.clients client state (all_same m n h) (still state refl refl, h.fds client)) in
      let there : IsOpen (with_client m client state) client d = ap (λ (s : Client). s.open_call) (put_same client state m.clients) ∙ may.1 in
      one_step (with_client m client state) n client d (λ c. c) (λ c. refl) noted_too there (record { none = u.none; unnamed = u.unnamed })
    where
      still : (state : Client) → state.open_call ≡ (m.clients client).open_call → state.calls ≡ (m.clients client).calls → AreSameCalls state (n.clients client).open_call state.open_call
      still state is calls = subst (λ (o : Option OpenCall). AreSameCalls state (n.clients client).open_call o) (sym is) (by_calls (n.clients client).open_call (m.clients client).open_call (h.calls client))
        where
          by_calls : (p o : Option OpenCall) → AreSameCalls (m.clients client) p o → AreSameCalls state p o
          by_calls None None same = tt
          by_calls None (Some d) same = same
          by_calls (Some c) None same = absurd same
          by_calls (Some c) (Some d) s = record { naming = s.naming; call_is = s.call_is; no_file = s.no_file; begun = s.begun; locks = s.locks; outcomes = s.outcomes; no_offer = s.no_offer; listed = ap (λ (cs : ℕ → Option Asked). cs d.number) calls ∙ s.listed }

  looks : (client file index least last : ℕ) (chosen : List Entry) → Allows m (Look client file index least last chosen) → AreNamesOf (after m (Look client file index least last chosen)) n
  looks client file index least last chosen may =
      let d : OpenCall = may.0 in
      on_call (λ (x : Machine). AreNamesOf x n) m (λ (current : OpenCall). looked m client current file index least chosen) (m.clients client).open_call d may.1
      (one_step m n client d (λ c. record c { pieces = a_piece index (read_slice (chunk_size m file) index d.asked.call chosen) (Some least) ∷ c.pieces }) (λ c. refl) h may.1 (its_file client file d may.1 may.2.0))

  looks_past : (client index : ℕ) → Allows m (LookPast client index) → AreNamesOf (after m (LookPast client index)) n
  looks_past client index may = one_step m n client may.0 (λ c. record c { pieces = a_piece index [] None ∷ c.pieces }) (λ c. refl) h may.1 (offered_call client may.0 (NoSuchChunk index) may.1 may.2)

  measures : (client file index told least last : ℕ) (chosen : List Entry) → Allows m (Measure client file index told least last chosen) → AreNamesOf (after m (Measure client file index told least last chosen)) n
  measures client file index told least last chosen may = one_step m n client may.0 (λ c. record c { lengths = (index * chunk_size m file + image_length (mutations_of chosen)) ∷ c.lengths }) (λ c. refl) h may.1 (its_file client file may.0 may.1 may.2.0)

  measures_none : (client : ℕ) → Allows m (MeasureNone client) → AreNamesOf (after m (MeasureNone client)) n
  measures_none client may = one_step m n client may.0 (λ c. record c { lengths = 0 ∷ c.lengths }) (λ c. refl) h may.1 (offered_call client may.0 (NoSuchChunk 0) may.1 may.2.1)

  file_call : (client : ℕ) (c : Call) → IsFalse (is_name_call c) → Allows m (Invoke client c) → AreNamesOf (after m (Invoke client c)) n
  file_call client c is may =
      with_same_clients m n (after m (Invoke client c)) n h refl refl refl refl (λ x. refl) refl refl refl refl (λ x. refl)
      (put_first m.clients n.clients client (called m client c) (all_same m n h) (by_call (n.clients client).open_call (subst (λ (o : Option OpenCall). AreSameCalls (m.clients client) (n.clients client).open_call o) may (h.calls client)), h.fds client))
    where
      by_call : (p : Option OpenCall) → AreSameCalls (m.clients client) p None → AreSameCalls (called m client c) p (called m client c).open_call
      by_call None same = is
      by_call (Some x) same = absurd same

  named_not : (client : ℕ) (c d : OpenCall) → IsFalse (is_name_call d.asked.call) → IsSameCall (m.clients client) c d → ⊥
  named_not client c d unnamed s = true≢false (sym s.naming ∙ ap is_name_call (sym s.call_is) ∙ unnamed)

  file_answer : (client : ℕ) (reply : Answer) (d : OpenCall) → IsOpen m client d → IsFalse (is_name_call d.asked.call) → AreNamesOf (after m (Return client reply)) n
  file_answer client reply d is unnamed =
      let own : IsUnnamed m n client d = unnamed_call m n client d h is (λ c s. named_not client c d unnamed s) in
      on_call (λ (x : Machine). AreNamesOf x n) m (λ (current : OpenCall). returned m client current reply) (m.clients client).open_call d is
      (with_same_clients m n (returned m client d reply) n h refl refl refl refl (λ x. refl) refl refl refl refl (λ x. refl)
      (put_first m.clients n.clients client (answered m client d reply) (all_same m n h) (subst (λ (o : Option OpenCall). AreSameCalls (answered m client d reply) o None) (sym own.none) tt, h.fds client)))

pub chunk_actions_keep_names : ChunkActionsKeepNames
chunk_actions_keep_names m n (Add id) h is may = adds m n h id may
chunk_actions_keep_names m n (OpenRound file index round) h is may = chunk_changes m n h file index (record (chunk_at m file index) { round = round; is_open = true })
chunk_actions_keep_names m n (CloseRound file index) h is may = chunk_changes m n h file index (record (chunk_at m file index) { is_open = false })
chunk_actions_keep_names m n (Place client file index mutation) h is may = places m n h client file index mutation may
chunk_actions_keep_names m n (Settle file index place) h is may = chunk_changes m n h file index (record (chunk_at m file index) { order = settled_at place (chunk_at m file index).order })
chunk_actions_keep_names m n (Tell client file index) h is may = tells m n h client file index may
chunk_actions_keep_names m n (Note client file index round count) h is may = notes m n h client file index round count may
chunk_actions_keep_names m n (Look client file index least last chosen) h is may = looks m n h client file index least last chosen may
chunk_actions_keep_names m n (LookPast client index) h is may = looks_past m n h client index may
chunk_actions_keep_names m n (Measure client file index told least last chosen) h is may = measures m n h client file index told least last chosen may
chunk_actions_keep_names m n (MeasureNone client) h is may = measures_none m n h client may
chunk_actions_keep_names m n other h is may = absurd (true≢false is)

pub file_calls_keep_names : FileCallsKeepNames
file_calls_keep_names m n client h = (file_call m n h client, file_answer m n h client)
