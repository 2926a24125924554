-- What the master and servers answer a client that waits, at the machine.
use Rattle.std.proofs.Common.{◌≡◌, ℕ, zero, ◌+◌, ◌*◌, ◌<◌, ◌≤◌, Bool, true, false, cond, List, ◌∷◌, Option, Some, refl, sym, ap, subst, ◌∙◌, arith}
use Rattle.std.specs.Prelude.{nat_lt, Contains, IfSome, IsTrue, IsFalse}
use Rattle.std.proofs.lemmas.Bool.{lt-ltb, ltb-true, true≢false}
use Rattle.gfs_types.specs.declared.call.Call.{Call}
use Rattle.gfs_types.specs.declared.call.Call.TheVariants as call
use Rattle.gfs_types.specs.declared.refusal.Refusal.TheVariants.{Collected}
use Rattle.gfs_types.specs.Image.{image_length}
use Rattle.messages.specs.declared.message.Holder.{Holder}
use Rattle.messages.specs.declared.message.Location.{Location}
use Rattle.relaxed_file.specs.Order.{CallId, Entry, IsSelection, mutations_of, same_call}
use Rattle.relaxed_file.specs.Parts.{has_part}
use Rattle.relaxed_file.specs.Machine.{Machine, Client, OpenCall, IsOpen, Piece, Told, NoSuchChunk, chunk_at, chunk_count, with_step, chunk_size}
use Rattle.relaxed_file.specs.Reads.{offer_of, reads_part, read_slice, looked, is_length_call}
use Rattle.relaxed_file.specs.Answers.{HasSuccess, IsWrite, uses_chunks}
use Rattle.relaxed_file.specs.Run.{Look, Measure}
use Rattle.relaxed_file.proofs.Tables.{at_some, from_some}
use Rattle.relaxed_file.proofs.Tries.{same_as_itself}
use Rattle.client_state.specs.declared.call.CurrentCall.{CurrentCall}
use Rattle.client_state.specs.declared.call.ToldChunk.{ToldChunk}
use Rattle.client_state.specs.declared.call.Stage.{Stage}
use Rattle.client_state.specs.declared.call.Stage.TheVariants.{SentMutate, SentRead}
use Rattle.protocol.specs.ClientAttempts.{is_mutation, is_length}
use Rattle.protocol_invariant.specs.ClientParts.{index_asked}
use Rattle.laws_machine.specs.FileClients.{id_of, IsDoneSoFar, IsStageAt, IsFileCall, IsOffered, IsRefusedAt, IsPartSettled}
use Rattle.laws_machine.specs.FileAnswers.{Gives, LocationsAreOffered, NoChunkIsOffered, CollectedFilesAreRefused, IsSeenAt, ReadsAreLooks, LengthsAreMeasured, IsOfPart, SettledEntriesAreSuccesses}
use Rattle.laws_machine.proofs.MachineSteps.{in_client, stepped_client, step_open}
use Rattle.laws_machine.proofs.NotesBelow.{notes_are_of_opened_rounds}

-- the open call after a step of it, and the client's notes
module _ (m : Machine) (client : ℕ) (change : OpenCall → OpenCall) (o : OpenCall) (is : IsOpen m client o) where
  abbrev pub stepped_call : OpenCall
  stepped_call = record (change o) { has_begun = true }

  pub is_stepped : (p : OpenCall) → IsOpen (with_step m client change) client p → stepped_call ≡ p
  is_stepped p now = from_some (sym (step_open m client change o is) ∙ now)

  pub notes_stepped : (P : (ℕ → ℕ → Option ℕ) → Type 0) → P (m.clients client).notes → P ((with_step m client change).clients client).notes
  notes_stepped P h = in_client m client (stepped_client m client change) (λ (c : Client). P c.notes) h

module _ (m : Machine) (client : ℕ) (x : CurrentCall) (o : OpenCall) (h : IsFileCall m client x o) where
  -- offers

  offering : ℕ → OpenCall → OpenCall
  offering index c = record c { offers = offer_of m x.file.0 index ∷ c.offers }

  offer_there : (index : ℕ) (l : Location) → l.index ≡ index → index < chunk_count m x.file.0 → (chunk_at m x.file.0 index).round ≡ l.round.0 → offer_of m x.file.0 index ≡ Told l.index l.round.0 (chunk_count m x.file.0)
  offer_there index l is low round =
      ap (λ (b : Bool). cond b (Told index (chunk_at m x.file.0 index).round (chunk_count m x.file.0)) (NoSuchChunk index)) (lt-ltb index (chunk_count m x.file.0) low)
      ∙ ap (λ (r : ℕ). Told index r (chunk_count m x.file.0)) round ∙ ap (λ (i : ℕ). Told i l.round.0 (chunk_count m x.file.0)) (sym is)

  offer_past : (index : ℕ) → chunk_count m x.file.0 ≤ index → offer_of m x.file.0 index ≡ NoSuchChunk index
  offer_past index high = by_test (nat_lt index (chunk_count m x.file.0)) refl
    where
      by_test : (b : Bool) → nat_lt index (chunk_count m x.file.0) ≡ b → cond b (Told index (chunk_at m x.file.0 index).round (chunk_count m x.file.0)) (NoSuchChunk index) ≡ NoSuchChunk index
      by_test true is = let low = ltb-true index (chunk_count m x.file.0) is in absurd (omega (arith, low, high))
      by_test false is = refl

  -- reads

  staged : (st : Stage) → x.stage ≡ st → IsStageAt m client x.file.0 o x.asked st
  staged st is = subst (λ (s : Stage). IsStageAt m client x.file.0 o x.asked s) is h.stage

  reads_it : (c : Call) (size index : ℕ) (bytes rounds : List ℕ) (ps : List Piece) → chunk_size m x.file.0 ≡ size → is_mutation c ≡ false → is_length c ≡ false → IsDoneSoFar m (id_of client o) x.file.0 index bytes rounds ps c → reads_part size index c ≡ true
  reads_it (call.Read fd offset count) size index bytes rounds ps same plain other done = ap (λ (z : ℕ). has_part z offset count index) (sym same) ∙ done.1
  reads_it (call.Length fd) size index bytes rounds ps same plain other done = absurd (true≢false other)
  reads_it (call.Write fd offset content) size index bytes rounds ps same plain other done = absurd (true≢false plain)
  reads_it (call.Append fd content) size index bytes rounds ps same plain other done = absurd (true≢false plain)
  reads_it c size index bytes rounds ps same plain other done = absurd done

  pub looks : (chunk : ToldChunk) (left : List Holder) (number : ℕ) → x.stage ≡ SentRead chunk left number → IsFalse (is_length x.asked) → chunk.index ≡ x.index → (version : ℕ) (chosen : List Entry)
      → IsSeenAt m x.file.0 chunk.index chunk.round.0 version chosen
      → Gives m client (Look client x.file.0 x.index chunk.round.0 version chosen) (λ n p. Contains p.pieces (record { index = x.index; bytes = read_slice (chunk_size m x.file.0) x.index x.asked chosen; round = Some chunk.round.0 }))
  looks chunk left number at plain same version chosen seen = (
    (
      o,
      h.is_open,
      (
        h.file_is,
        ap (λ (c : Call). reads_part (chunk_size m x.file.0) x.index c) h.call_is ∙ reads_it x.asked (chunk_size m x.file.0) x.index x.bytes x.rounds o.pieces refl here.0 plain h.done,
        (
          subst (λ (i : ℕ). i < chunk_count m x.file.0) same seen.count,
          subst (λ (i : ℕ). (m.clients client).notes x.file.0 i ≡ Some chunk.round.0) same here.1.noted,
          seen.version_is,
          subst (λ (i : ℕ). IsSelection version (chunk_at m x.file.0 i).order chosen) same seen.selection,
        ),
      ),
    ),
    at_some (λ n. (p : OpenCall) → IsOpen n client p → Contains p.pieces wanted) (λ (c : OpenCall). looked m client c x.file.0 x.index chunk.round.0 chosen) m (m.clients client).open_call o h.is_open
        (λ p now. subst (λ (c : OpenCall). Contains c.pieces wanted) (is_stepped m client change o h.is_open p now) (zero, omega arith, pieces_are)),
  )
    where
      here : IsStageAt m client x.file.0 o x.asked (SentRead chunk left number)
      here = staged (SentRead chunk left number) at

      wanted : Piece
      wanted = record { index = x.index; bytes = read_slice (chunk_size m x.file.0) x.index x.asked chosen; round = Some chunk.round.0 }

      taken : Piece
      taken = record { index = x.index; bytes = read_slice (chunk_size m x.file.0) x.index o.asked.call chosen; round = Some chunk.round.0 }

      change : OpenCall → OpenCall
      change c = record c { pieces = taken ∷ c.pieces }

      pieces_are : taken ≡ wanted
      pieces_are = ap (λ (c : Call). record { index = x.index; bytes = read_slice (chunk_size m x.file.0) x.index c chosen; round = Some chunk.round.0 }) h.call_is

  length_call : (c : Call) → is_length c ≡ true → is_length_call c ≡ true
  length_call (call.Length fd) is = refl
  length_call other is = absurd (true≢false (sym is))

  pub measures : (chunk : ToldChunk) (left : List Holder) (number : ℕ) → x.stage ≡ SentRead chunk left number → IsTrue (is_length x.asked) → (version : ℕ) (chosen : List Entry)
      → IsSeenAt m x.file.0 chunk.index chunk.round.0 version chosen
      → Gives m client (Measure client x.file.0 chunk.index chunk.round.0 chunk.round.0 version chosen) (λ n p. Contains p.lengths (chunk.index * chunk_size m x.file.0 + image_length (mutations_of chosen)))
  measures chunk left number at is version chosen seen = (
    (o, h.is_open, (h.file_is, ap is_length_call h.call_is ∙ length_call x.asked is, here.1.last is, omega arith, (seen.count, here.1.noted, seen.version_is, seen.selection))),
    λ p now. subst (λ (c : OpenCall). Contains c.lengths found) (is_stepped m client change o h.is_open p now) (zero, omega arith, refl),
  )
    where
      here : IsStageAt m client x.file.0 o x.asked (SentRead chunk left number)
      here = staged (SentRead chunk left number) at

      found : ℕ
      found = chunk.index * chunk_size m x.file.0 + image_length (mutations_of chosen)

      change : OpenCall → OpenCall
      change c = record c { lengths = found ∷ c.lengths }

  -- entries

  pub succeeds_here : (chunk : ToldChunk) (number : ℕ) → x.stage ≡ SentMutate chunk number → chunk.index < chunk_count m x.file.0 → (e : Entry) → Contains (chunk_at m x.file.0 chunk.index).order e → e.call ≡ id_of client o
      → IsTrue e.settled → e.round ≤ chunk.round.0 → (place : ℕ) (c : Call) → IsOfPart (chunk_size m x.file.0) x.index chunk.index place c e.mutation → IsPartSettled m (id_of client o) x.file.0 x.index chunk.index place c
  succeeds_here chunk number at low e there own settled early place (call.Write fd offset content) part =
      subst (λ (i : ℕ). HasSuccess m client (id_of client o) x.file.0 i IsWrite) part.0 (chunk.round.0, (staged (SentMutate chunk number) at).1.noted, e, there, (own_call, settled, early), part.1)
    where
      own_call : IsTrue (same_call (id_of client o) e.call)
      own_call = ap (λ (k : CallId). same_call (id_of client o) k) own ∙ same_as_itself (id_of client o)
  succeeds_here chunk number at low e there own settled early place (call.Append fd content) part =
      (part.0, low, (chunk.round.0, (staged (SentMutate chunk number) at).1.noted, e, there, (own_call, settled, early), part.1))
    where
      own_call : IsTrue (same_call (id_of client o) e.call)
      own_call = ap (λ (k : CallId). same_call (id_of client o) k) own ∙ same_as_itself (id_of client o)
  succeeds_here chunk number at low e there own settled early place other part = tt

  uses_them : (c : Call) (index : ℕ) (bytes rounds : List ℕ) (ps : List Piece) → IsDoneSoFar m (id_of client o) x.file.0 index bytes rounds ps c → uses_chunks c ≡ true
  uses_them (call.Write fd offset content) index bytes rounds ps done = refl
  uses_them (call.Append fd content) index bytes rounds ps done = refl
  uses_them (call.Read fd offset count) index bytes rounds ps done = refl
  uses_them (call.Length fd) index bytes rounds ps done = refl
  uses_them other index bytes rounds ps done = absurd done

  pub is_collected : IsTrue (m.files x.file.0).is_collected → IsRefusedAt m client o x.live Collected
  is_collected is = (x.file.0, h.file_is, is, ap uses_chunks h.call_is ∙ uses_them x.asked x.index x.bytes x.rounds o.pieces h.done)

pub locations_are_offered : LocationsAreOffered
locations_are_offered config m reached client x o h l last = (
  (o, h.is_open, (h.file_is, last.is_there)),
  λ p now. subst (λ (c : OpenCall). IsOffered (with_step m client change) client x.file.0 c x.asked l) (is_stepped m client change o h.is_open p now) (record {
    count = chunk_count m x.file.0;
    offered = (zero, omega arith, offer_there m client x o h l.index l refl last.count last.round);
    rising = notes_stepped m client change o h.is_open (λ notes. IfSome (notes x.file.0 l.index) (λ before. before ≤ l.round.0)) (subst (λ (r : ℕ). IfSome ((m.clients client).notes x.file.0 l.index) (λ before. before ≤ r)) last.round
        (notes_are_of_opened_rounds config m reached client x.file.0 l.index));
    last = last.last;
  }),
)
  where
    change : OpenCall → OpenCall
    change c = record c { offers = offer_of m x.file.0 l.index ∷ c.offers }

pub no_chunk_is_offered : NoChunkIsOffered
no_chunk_is_offered m client x o h there past = (
  (o, h.is_open, (h.file_is, there)),
  λ p now. subst (λ (c : OpenCall). Contains c.offers (NoSuchChunk (index_asked x x.asked))) (is_stepped m client change o h.is_open p now) (zero, omega arith, offer_past m client x o h (index_asked x x.asked) past),
)
  where
    change : OpenCall → OpenCall
    change c = record c { offers = offer_of m x.file.0 (index_asked x x.asked) ∷ c.offers }

pub collected_files_are_refused : CollectedFilesAreRefused
collected_files_are_refused m client x o h is = is_collected m client x o h is

pub reads_are_looks : ReadsAreLooks
reads_are_looks m client x o h chunk left number at plain same version chosen seen = looks m client x o h chunk left number at plain same version chosen seen

pub lengths_are_measured : LengthsAreMeasured
lengths_are_measured m client x o h chunk left number at is version chosen seen = measures m client x o h chunk left number at is version chosen seen

pub settled_entries_are_successes : SettledEntriesAreSuccesses
settled_entries_are_successes m client x o h chunk number at low e there own settled early place part = succeeds_here m client x o h chunk number at low e there own settled early place x.asked part
