-- An answer is what states during the call gave: what the call was told, what it read and what it came to is from them, and no note is past the last opened round.
use Rattle.std.proofs.Common.{◌≡◌, ℕ, suc, ◌/◌, ◌≤◌, Bool, true, false, cond, List, [], ◌∷◌, length, Option, Some, None, refl, sym, ◌∙◌, ap, subst, inl, inr, ⊎_elim, arith}
use Rattle.std.specs.Prelude.{◌⊎◌, Contains, MatchBool, nat_lt, IsTrue}
use Rattle.std.specs.List.{AllByRecursion}
use Rattle.std.proofs.lemmas.Bool.{cases_lt, true≢false, false≢true}
use Rattle.gfs_types.specs.declared.call.Call.{Call}
use Rattle.gfs_types.specs.declared.call.Call.TheVariants as call
use Rattle.gfs_types.specs.declared.answer.Answer.{Answer}
use Rattle.gfs_types.specs.declared.answer.Answer.TheVariants as answer
use Rattle.gfs_types.specs.declared.refusal.Refusal.{Refusal}
use Rattle.gfs_types.specs.declared.refusal.Refusal.TheVariants.{BadFd, TooLong, Collected, Unknown, NoMemory}
use Rattle.gfs_types.specs.declared.ids.Fd.{Fd}
use Rattle.gfs_types.specs.declared.config.Config.{Config}
use Rattle.relaxed_file.specs.Order.{Entry, IsSelection}
use Rattle.relaxed_file.specs.Parts.{part_length}
use Rattle.relaxed_file.specs.Machine.{Machine, new_machine, Asked, OpenCall, IsOpen, Outcome, Replies, Opens, Offer, Told, NoSuchChunk, Piece, chunk_at, chunk_count, chunk_size}
use Rattle.relaxed_file.specs.Reads.{offer_of, read_slice}
use Rattle.relaxed_file.specs.NameStep.{is_name_call}
use Rattle.relaxed_file.specs.Answers.{IsDone, ArePieces, IsCause, MayReturn, may_give_up, uses_chunks}
use Rattle.relaxed_file.specs.Run.{Action, Visible, shown, Allows, after, LeadsTo, IsReached}
use Rattle.relaxed_file.specs.RunLaws.{IsGiven, WasGiven, WereGiven, ReadsGiveSelections, IsMeasured, LengthsAreMeasured, ComesTo, CameTo, NameCallsAnswerOneMoment, OpensFindTheirFile}
use Rattle.relaxed_file.proofs.Tables.{from_some, contained, all_more}
use Rattle.relaxed_file.proofs.Reached.{leads_on, leads_by, kept_to}
use Rattle.relaxed_file.proofs.Grows.{grows_step, grows_to, known_when_reached}
use Rattle.relaxed_file.proofs.CallSteps.{IsPieceOf, by_look, by_none, GetsPiece, GetsOffer, GetsOutcome, IsLengthOf, by_measure, by_no_chunk, GetsLength, Goes, CallStep, call_step}
use Rattle.relaxed_file.proofs.NoteSteps.{NoteStep, note_step}
use Rattle.relaxed_file.proofs.Effects.{named_not_long}
use Rattle.relaxed_file.proofs.StaleReads.{offered_there, offered_index}

abbrev told_index : Offer → ℕ → ℕ
told_index (Told index round count) other = index
told_index (NoSuchChunk index) other = other

abbrev told_round : Offer → ℕ → ℕ
told_round (Told index round count) other = round
told_round (NoSuchChunk index) other = other

abbrev told_count : Offer → ℕ → ℕ
told_count (Told index round count) other = count
told_count (NoSuchChunk index) other = other

abbrev IsTold : Offer → Type 0
IsTold (Told index round count) = Unit {0}
IsTold (NoSuchChunk index) = ⊥

-- what was told is of the chunk that was asked for
told_of : (index round count i r n : ℕ) (b : Bool) → Told index round count ≡ cond b (Told i r n) (NoSuchChunk i) → (index ≡ i) × (round ≡ r) × (count ≡ n)
told_of index round count i r n true is = (ap (λ o. told_index o index) is, ap (λ o. told_round o round) is, ap (λ o. told_count o count) is)
told_of index round count i r n false is = absurd (subst IsTold is tt)

-- what a state gives a read of a chunk
abbrev GivesTo : Machine → ℕ → Call → Piece → Type 0
GivesTo m file (call.Read fd offset count) piece = IsGiven m file offset count piece.index piece.bytes piece.round
GivesTo m file other piece = Unit {0}

look_given : (m : Machine) (file : ℕ) (asked : Call) (index least last : ℕ) (chosen : List Entry) → least ≤ (chunk_at m file index).round → least ≤ last
    → IsSelection last (chunk_at m file index).order chosen
    → GivesTo m file asked (record { index = index; bytes = read_slice (chunk_size m file) index asked chosen; round = Some least })
look_given m file (call.Read fd offset count) index least last chosen below l selection = (below, last, chosen, l, selection, refl)
look_given m file other index least last chosen below l selection = tt

nothing_given : (m : Machine) (file : ℕ) (asked : Call) (index : ℕ) → chunk_count m file ≤ index → GivesTo m file asked (record { index = index; bytes = []; round = None })
nothing_given m file (call.Read fd offset count) index past = (past, refl)
nothing_given m file other index past = tt

module _ (config : Config) (client : ℕ) where
  record WasTold (m : Machine) (number : ℕ) (asked : Asked) (offer : Offer) : Type 0 where
    old : Machine
    reached : IsReached config old
    way : LeadsTo old m
    call_then : OpenCall
    open_then : IsOpen old client call_then
    number_is : call_then.number ≡ number
    asked_is : call_then.asked ≡ asked
    file : ℕ
    index : ℕ
    on : call_then.asked.file ≡ Some file
    is : offer ≡ offer_of old file index

  record WasRead (m : Machine) (number : ℕ) (asked : Asked) (piece : Piece) : Type 0 where
    old : Machine
    reached : IsReached config old
    way : LeadsTo old m
    call_then : OpenCall
    open_then : IsOpen old client call_then
    number_is : call_then.number ≡ number
    asked_is : call_then.asked ≡ asked
    file : ℕ
    on : call_then.asked.file ≡ Some file
    gives : GivesTo old file call_then.asked.call piece

  record HasCome (m : Machine) (number : ℕ) (asked : Asked) (outcome : Outcome) : Type 0 where
    old : Machine
    reached : IsReached config old
    way : LeadsTo old m
    call_then : OpenCall
    open_then : IsOpen old client call_then
    number_is : call_then.number ≡ number
    asked_is : call_then.asked ≡ asked
    comes : ComesTo old client call_then.asked.call outcome

  record HasMeasured (m : Machine) (number : ℕ) (asked : Asked) (found : ℕ) : Type 0 where
    old : Machine
    new : Machine
    reached : IsReached config old
    between : LeadsTo old new
    way : LeadsTo new m
    call_old : OpenCall
    open_old : IsOpen old client call_old
    number_old : call_old.number ≡ number
    call_new : OpenCall
    open_new : IsOpen new client call_new
    number_new : call_new.number ≡ number
    asked_is : call_old.asked ≡ asked
    file : ℕ
    on : call_old.asked.file ≡ Some file
    is : IsMeasured old new file found

  abbrev CallHolds : Machine → Option OpenCall → Type 0
  CallHolds m None = Unit {0}
  CallHolds m (Some c) =
      AllByRecursion (WasTold m c.number c.asked) c.offers × AllByRecursion (WasRead m c.number c.asked) c.pieces × AllByRecursion (HasCome m c.number c.asked) c.outcomes
      × AllByRecursion (HasMeasured m c.number c.asked) c.lengths

  abbrev NoteHolds : ℕ → Option ℕ → Type 0
  NoteHolds round None = Unit {0}
  NoteHolds round (Some noted) = noted ≤ round

  record Holds (m : Machine) : Type 0 where
    reached : IsReached config m
    notes : (file index : ℕ) → NoteHolds (chunk_at m file index).round ((m.clients client).notes file index)
    call_now : CallHolds m (m.clients client).open_call

  raised : (round later : ℕ) (note : Option ℕ) → round ≤ later → NoteHolds round note → NoteHolds later note
  raised round later None l h = tt
  raised round later (Some noted) l h = omega (arith, l, h)

  -- a round that the open call was told is at most the last one
  told_below : (m : Machine) (c : OpenCall) (file index round count : ℕ) → AllByRecursion (WasTold m c.number c.asked) c.offers → c.asked.file ≡ Some file
      → Contains c.offers (Told index round count) → round ≤ (chunk_at m file index).round
  told_below m c file index round count all on there =
      let was : WasTold m c.number c.asked (Told index round count) = contained (WasTold m c.number c.asked) c.offers (Told index round count) all there in
      let same : was.file ≡ file = from_some (sym was.on ∙ ap (λ (s : Asked). s.file) was.asked_is ∙ on) in
      let told : (index ≡ was.index) × (round ≡ (chunk_at was.old was.file was.index).round) × (count ≡ chunk_count was.old was.file) =
      told_of index round count was.index (chunk_at was.old was.file was.index).round (chunk_count was.old was.file) (nat_lt was.index (chunk_count was.old was.file)) was.is in
      let rose : (chunk_at was.old was.file was.index).round ≤ (chunk_at m was.file was.index).round =
      (((grows_to was.old m was.way (known_when_reached config was.old was.reached)).files was.file).chunks was.index).round in
      let here : (chunk_at m was.file was.index).round ≡ (chunk_at m file index).round =
      ap (λ f. (chunk_at m f was.index).round) same ∙ ap (λ i. (chunk_at m file i).round) (sym told.0) in
      omega (arith, told.1, rose, here)

  -- a piece that the open call reads
  piece_read : (m : Machine) (c : OpenCall) (piece : Piece) → Holds m → IsOpen m client c → AllByRecursion (WasTold m c.number c.asked) c.offers → IsPieceOf m client c piece
      → WasRead m c.number c.asked piece
  piece_read m c piece h is_open told (by_look file index least last chosen may is) =
      let below : NoteHolds (chunk_at m file index).round (Some least) = subst (NoteHolds (chunk_at m file index).round) (may.2).1 (h.notes file index) in
      record {
        old = m;
        reached = h.reached;
        way = ([], tt, refl);
        call_then = c;
        open_then = is_open;
        number_is = refl;
        asked_is = refl;
        file = file;
        on = may.0;
        gives = subst (GivesTo m file c.asked.call) (sym is) (look_given m file c.asked.call index least last chosen below (may.2).2 (may.2).3);
      }
  piece_read m c piece h is_open told (by_none index past is) =
      let was : WasTold m c.number c.asked (NoSuchChunk index) = contained (WasTold m c.number c.asked) c.offers (NoSuchChunk index) told past in
      let same : index ≡ was.index = offered_index was.old was.file index was.index was.is in
      let none : chunk_count was.old was.file ≤ was.index = ⊎_elim (λ there. absurd (offered_there was.old was.file index was.index there was.is)) (λ l. l) (cases_lt was.index (chunk_count was.old was.file)) in
      record {
        old = was.old;
        reached = was.reached;
        way = was.way;
        call_then = was.call_then;
        open_then = was.open_then;
        number_is = was.number_is;
        asked_is = was.asked_is;
        file = was.file;
        on = was.on;
        gives = subst (GivesTo was.old was.file (was.call_then).asked.call) (sym is) (nothing_given was.old was.file (was.call_then).asked.call index (omega (arith, same, none)));
      }

  -- a length that the open call measures
  length_measured : (m : Machine) (c : OpenCall) (found : ℕ) → IsOpen m client c → AllByRecursion (WasTold m c.number c.asked) c.offers → IsLengthOf m client c found
      → HasMeasured m c.number c.asked found
  length_measured m c found is_open all (by_measure file index told least last chosen may is) =
      let was : WasTold m c.number c.asked (Told index told (suc index)) = contained (WasTold m c.number c.asked) c.offers (Told index told (suc index)) all may.2 in
      let same : was.file ≡ file = from_some (sym was.on ∙ ap (λ (s : Asked). s.file) was.asked_is ∙ may.0) in
      let offer : (index ≡ was.index) × (told ≡ (chunk_at was.old was.file was.index).round) × (suc index ≡ chunk_count was.old was.file) =
      told_of index told (suc index) was.index (chunk_at was.old was.file was.index).round (chunk_count was.old was.file) (nat_lt was.index (chunk_count was.old was.file)) was.is in
      let round : (chunk_at was.old was.file was.index).round ≡ (chunk_at was.old file index).round =
      ap (λ f. (chunk_at was.old f was.index).round) same ∙ ap (λ i. (chunk_at was.old file i).round) (sym offer.0) in
      let count : chunk_count was.old file ≡ suc index = ap (λ f. chunk_count was.old f) (sym same) ∙ sym offer.2 in
      let below : (chunk_at was.old file index).round ≤ last = omega (arith, round, offer.1, may.3, (may.4).2) in
      record {
        old = was.old;
        new = m;
        reached = was.reached;
        between = was.way;
        way = ([], tt, refl);
        call_old = was.call_then;
        open_old = was.open_then;
        number_old = was.number_is;
        call_new = c;
        open_new = is_open;
        number_new = refl;
        asked_is = was.asked_is;
        file = file;
        on = was.on ∙ ap Some same;
        is = inr (index, last, chosen, count, below, (may.4).3, is);
      }
  length_measured m c found is_open all (by_no_chunk past is) =
      let was : WasTold m c.number c.asked (NoSuchChunk 0) = contained (WasTold m c.number c.asked) c.offers (NoSuchChunk 0) all past.1 in
      let same : 0 ≡ was.index = offered_index was.old was.file 0 was.index was.is in
      let none : chunk_count was.old was.file ≤ was.index = ⊎_elim (λ there. absurd (offered_there was.old was.file 0 was.index there was.is)) (λ l. l) (cases_lt was.index (chunk_count was.old was.file)) in
      let count : chunk_count was.old was.file ≡ 0 = omega (arith, same, none) in
      record {
        old = was.old;
        new = m;
        reached = was.reached;
        between = was.way;
        way = ([], tt, refl);
        call_old = was.call_then;
        open_old = was.open_then;
        number_old = was.number_is;
        call_new = c;
        open_new = is_open;
        number_new = refl;
        asked_is = was.asked_is;
        file = was.file;
        on = was.on;
        is = inl (count, is);
      }

  module _ (m : Machine) (action : Action) (allowed : Allows m action) (h : Holds m) where
    abbrev next : Machine
    next = after m action

    step : LeadsTo m next
    step = leads_by m action allowed

    told_later : (c d : OpenCall) (offer : Offer) → Goes m client c d → WasTold m c.number c.asked offer → WasTold next d.number d.asked offer
    told_later c d offer goes was = record {
      old = was.old;
      reached = was.reached;
      way = leads_on was.old m next was.way step;
      call_then = was.call_then;
      open_then = was.open_then;
      number_is = was.number_is ∙ goes.0;
      asked_is = was.asked_is ∙ goes.1;
      file = was.file;
      index = was.index;
      on = was.on;
      is = was.is;
    }

    read_later : (c d : OpenCall) (piece : Piece) → Goes m client c d → WasRead m c.number c.asked piece → WasRead next d.number d.asked piece
    read_later c d piece goes was = record {
      old = was.old;
      reached = was.reached;
      way = leads_on was.old m next was.way step;
      call_then = was.call_then;
      open_then = was.open_then;
      number_is = was.number_is ∙ goes.0;
      asked_is = was.asked_is ∙ goes.1;
      file = was.file;
      on = was.on;
      gives = was.gives;
    }

    offers_go : (c d : OpenCall) → IsOpen m client c → Goes m client c d → GetsOffer m c d → AllByRecursion (WasTold m c.number c.asked) c.offers → AllByRecursion (WasTold next d.number d.asked) d.offers
    offers_go c d is goes (inl kept) all = subst (AllByRecursion (WasTold next d.number d.asked)) (sym kept) (all_more c.offers (λ offer. told_later c d offer goes) all)
    offers_go c d is goes (inr more) all = subst (AllByRecursion (WasTold next d.number d.asked)) (sym more.3) (
      record {
        old = m;
        reached = h.reached;
        way = step;
        call_then = c;
        open_then = is;
        number_is = goes.0;
        asked_is = goes.1;
        file = more.0;
        index = more.1;
        on = (more.2).0;
        is = refl;
      },
      all_more c.offers (λ offer. told_later c d offer goes) all,
    )

    pieces_go : (c d : OpenCall) → IsOpen m client c → Goes m client c d → AllByRecursion (WasTold m c.number c.asked) c.offers → GetsPiece m client c d
        → AllByRecursion (WasRead m c.number c.asked) c.pieces → AllByRecursion (WasRead next d.number d.asked) d.pieces
    pieces_go c d is goes told (inl kept) all = subst (AllByRecursion (WasRead next d.number d.asked)) (sym kept) (all_more c.pieces (λ piece. read_later c d piece goes) all)
    pieces_go c d is goes told (inr more) all = subst (AllByRecursion (WasRead next d.number d.asked)) (sym more.2)
        (read_later c d more.0 goes (piece_read m c more.0 h is told more.1), all_more c.pieces (λ piece. read_later c d piece goes) all)

    come_later : (c d : OpenCall) (outcome : Outcome) → Goes m client c d → HasCome m c.number c.asked outcome → HasCome next d.number d.asked outcome
    come_later c d outcome goes was = record {
      old = was.old;
      reached = was.reached;
      way = leads_on was.old m next was.way step;
      call_then = was.call_then;
      open_then = was.open_then;
      number_is = was.number_is ∙ goes.0;
      asked_is = was.asked_is ∙ goes.1;
      comes = was.comes;
    }

    outcomes_go : (c d : OpenCall) → IsOpen m client c → Goes m client c d → GetsOutcome m client c d → AllByRecursion (HasCome m c.number c.asked) c.outcomes
        → AllByRecursion (HasCome next d.number d.asked) d.outcomes
    outcomes_go c d is goes (inl kept) all = subst (AllByRecursion (HasCome next d.number d.asked)) (sym kept) (all_more c.outcomes (λ outcome. come_later c d outcome goes) all)
    outcomes_go c d is goes (inr more) all = subst (AllByRecursion (HasCome next d.number d.asked)) (sym more.4) (
      record { old = m; reached = h.reached; way = step; call_then = c; open_then = is; number_is = goes.0; asked_is = goes.1; comes = more.3 },
      all_more c.outcomes (λ outcome. come_later c d outcome goes) all,
    )

    measured_later : (c d : OpenCall) (found : ℕ) → Goes m client c d → HasMeasured m c.number c.asked found → HasMeasured next d.number d.asked found
    measured_later c d found goes was = record {
      old = was.old;
      new = was.new;
      reached = was.reached;
      between = was.between;
      way = leads_on was.new m next was.way step;
      call_old = was.call_old;
      open_old = was.open_old;
      number_old = was.number_old ∙ goes.0;
      call_new = was.call_new;
      open_new = was.open_new;
      number_new = was.number_new ∙ goes.0;
      asked_is = was.asked_is ∙ goes.1;
      file = was.file;
      on = was.on;
      is = was.is;
    }

    lengths_go : (c d : OpenCall) → IsOpen m client c → Goes m client c d → AllByRecursion (WasTold m c.number c.asked) c.offers → GetsLength m client c d
        → AllByRecursion (HasMeasured m c.number c.asked) c.lengths → AllByRecursion (HasMeasured next d.number d.asked) d.lengths
    lengths_go c d is goes told (inl kept) all = subst (AllByRecursion (HasMeasured next d.number d.asked)) (sym kept) (all_more c.lengths (λ found. measured_later c d found goes) all)
    lengths_go c d is goes told (inr more) all = subst (AllByRecursion (HasMeasured next d.number d.asked)) (sym more.2)
        (measured_later c d more.0 goes (length_measured m c more.0 is told more.1), all_more c.lengths (λ found. measured_later c d found goes) all)

    call_goes : (v : Option Visible) → CallStep m client v (m.clients client).open_call (next.clients client).open_call → CallHolds next (next.clients client).open_call
    call_goes v (inl made) = subst (CallHolds next) (sym made.3) (tt, tt, tt, tt)
    call_goes v (inr (inl ended)) = subst (CallHolds next) (sym ended.4) tt
    call_goes v (inr (inr (others, inl going))) =
        let before : CallHolds m (Some going.0) = subst (CallHolds m) going.2 h.call_now in
        subst (CallHolds next) (sym going.3) (
          offers_go going.0 going.1 going.2 going.4 (going.4).3 before.0,
          pieces_go going.0 going.1 going.2 going.4 before.0 (going.4).2 before.1,
          outcomes_go going.0 going.1 going.2 going.4 (going.4).4 before.2,
          lengths_go going.0 going.1 going.2 going.4 before.0 (going.4).6 before.3,
        )
    call_goes v (inr (inr (others, inr none))) = subst (CallHolds next) (sym none.1) tt

    note_goes : (file index : ℕ) (note : Option ℕ) → NoteStep m client file index note → NoteHolds (chunk_at next file index).round note
    note_goes file index note step_of =
        let rose : (chunk_at m file index).round ≤ (chunk_at next file index).round =
        (((grows_step m action allowed (known_when_reached config m h.reached)).files file).chunks index).round in
        raised (chunk_at m file index).round (chunk_at next file index).round note rose (by_kind step_of)
      where
        by_kind : NoteStep m client file index note → NoteHolds (chunk_at m file index).round note
        by_kind (inl kept) = subst (NoteHolds (chunk_at m file index).round) (sym kept) (h.notes file index)
        by_kind (inr (inl gone)) = subst (NoteHolds (chunk_at m file index).round) (sym gone) tt
        by_kind (inr (inr noted)) =
            let now : CallHolds m (Some noted.0) = subst (CallHolds m) noted.1 h.call_now in
            subst (NoteHolds (chunk_at m file index).round) (sym noted.6) (told_below m noted.0 file index noted.3 noted.4 now.0 noted.2 noted.5)

    holds_next : Holds next
    holds_next = record {
      reached = leads_on (new_machine config) m next h.reached step;
      notes = λ file index. note_goes file index ((next.clients client).notes file index) (note_step m client file index action allowed);
      call_now = call_goes (shown action) (call_step m client action allowed);
    }

  holds_first : Holds (new_machine config)
  holds_first = record { reached = ([], tt, refl); notes = λ file index. tt; call_now = tt }

  holds_then : (m : Machine) → IsReached config m → Holds m
  holds_then m way = kept_to Holds (λ k action allowed h. holds_next k action allowed h) (new_machine config) m way holds_first

match_more : (b : Bool) (P Q R : Type 0) → (Q → R) → MatchBool b P Q → MatchBool b P R
match_more true P Q R f h = h
match_more false P Q R f h = f h

-- the pieces of an answer were given
module _ (config : Config) (m : Machine) (client file : ℕ) (fd : Fd) (offset count : ℕ) (current : OpenCall)
    (open_now : IsOpen m client current) (on : current.asked.file ≡ Some file) (asked_is : current.asked.call ≡ call.Read fd offset count)
    (all : AllByRecursion (WasRead config client m current.number current.asked) current.pieces) where
  was_given : (piece : Piece) → WasRead config client m current.number current.asked piece → WasGiven config m client file offset count piece
  was_given piece was =
      let same : was.file ≡ file = from_some (sym was.on ∙ ap (λ (s : Asked). s.file) was.asked_is ∙ on) in
      let what : (was.call_then).asked.call ≡ call.Read fd offset count = ap (λ (s : Asked). s.call) was.asked_is ∙ asked_is in (
        was.old,
        was.reached,
        was.way,
        (was.call_then, current, was.open_then, open_now, was.number_is),
        subst (λ f. IsGiven was.old f offset count piece.index piece.bytes piece.round) same
            (subst (λ c. GivesTo was.old was.file c piece) what was.gives),
      )

  in_order : (index : ℕ) (pieces : List Piece) → ArePieces (chunk_size m file) offset count current.pieces index pieces → WereGiven config m client file offset count index pieces
  in_order index [] are = are
  in_order index (piece ∷ rest) are = (
    are.2,
    was_given piece (contained (WasRead config client m current.number current.asked) current.pieces piece all are.1),
    match_more (nat_lt (length piece.bytes) (part_length (chunk_size m file) offset count index)) (rest ≡ []) _ _ (in_order (suc index) rest) are.3,
  )

pub reads_give_selections : ReadsGiveSelections
reads_give_selections config m client file fd offset count bytes rounds reached a =
    let current : OpenCall = a.0 in
    let done : IsDone m client current (call.Read fd offset count) (answer.Bytes bytes rounds) = subst (λ c. IsDone m client current c (answer.Bytes bytes rounds)) a.3 a.4 in
    let h : Holds config client m = holds_then config client m reached in
    let now : CallHolds config client m (Some current) = subst (CallHolds config client m) a.1 h.call_now in
    let same : done.0 ≡ file = from_some (sym done.1 ∙ a.2) in
    let pieces : ArePieces (chunk_size m file) offset count current.pieces (offset / chunk_size m file) done.2 =
    subst (λ f. ArePieces (chunk_size m f) offset count current.pieces (offset / chunk_size m f) done.2) same done.3 in
    (done.2, in_order config m client file fd offset count current a.1 a.2 a.3 now.1 (offset / chunk_size m file) done.2 pieces, done.4, done.5)

-- what a call came to
came_to : (config : Config) (m : Machine) (client : ℕ) (current : OpenCall) (outcome : Outcome) → IsReached config m → IsOpen m client current → Contains current.outcomes outcome
    → CameTo config m client current.asked.call outcome
came_to config m client current outcome reached is there =
    let h : Holds config client m = holds_then config client m reached in
    let now : CallHolds config client m (Some current) = subst (CallHolds config client m) is h.call_now in
    let was : HasCome config client m current.number current.asked outcome = contained (HasCome config client m current.number current.asked) current.outcomes outcome now.2 there in
    (was.old, was.reached, was.way, (was.call_then, current, was.open_then, is, was.number_is), subst (λ a. ComesTo was.old client a.call outcome) was.asked_is was.comes)

-- an answer to a name call that is no refusal
done_is : (m : Machine) (client : ℕ) (current : OpenCall) (c : Call) (reply : Answer) → IsTrue (is_name_call c) → IsDone m client current c reply → Contains current.outcomes (Replies reply)
done_is m client current (call.Close fd) reply named done = absurd (false≢true named)
done_is m client current (call.Length fd) reply named done = absurd (false≢true named)
done_is m client current (call.Write fd offset bytes) reply named done = absurd (false≢true named)
done_is m client current (call.Append fd bytes) reply named done = absurd (false≢true named)
done_is m client current (call.Read fd offset count) reply named done = absurd (false≢true named)
done_is m client current other reply named done = done

given_up_is : (c : Call) (reason : Refusal) → IsTrue (is_name_call c) → IsTrue (may_give_up c reason) → reason ≡ Unknown
given_up_is (call.Close fd) reason named h = absurd (false≢true named)
given_up_is (call.Length fd) reason named h = absurd (false≢true named)
given_up_is (call.Write fd offset bytes) reason named h = absurd (false≢true named)
given_up_is (call.Append fd bytes) reason named h = absurd (false≢true named)
given_up_is (call.Read fd offset count) reason named h = absurd (false≢true named)
given_up_is name_call Unknown named h = refl
given_up_is name_call other named h = absurd (false≢true h)

no_chunks : (c : Call) → IsTrue (is_name_call c) → IsTrue (uses_chunks c) → ⊥
no_chunks (call.Length fd) named h = false≢true named
no_chunks (call.Write fd offset bytes) named h = false≢true named
no_chunks (call.Append fd bytes) named h = false≢true named
no_chunks (call.Read fd offset count) named h = false≢true named
no_chunks other named h = false≢true h

cause_is : (m : Machine) (client : ℕ) (current : OpenCall) (reason : Refusal) → IsTrue (is_name_call current.asked.call) → IsCause m client current reason → reason ≡ NoMemory
cause_is m client current BadFd named cause = absurd (true≢false (sym named ∙ cause.0))
cause_is m client current TooLong named cause = absurd (named_not_long (chunk_size m cause.0) current.asked.chunks_before current.asked.call named cause.2)
cause_is m client current Collected named cause = absurd (no_chunks current.asked.call named cause.3)
cause_is m client current NoMemory named cause = refl
cause_is m client current other named cause = absurd cause

module _ (config : Config) (m : Machine) (client : ℕ) (current : OpenCall) (reached : IsReached config m) (is : IsOpen m client current) (named : IsTrue (is_name_call current.asked.call)) where
  abbrev IsSaid : Answer → Type 0
  IsSaid reply = CameTo config m client current.asked.call (Replies reply) ⊎ ((reply ≡ answer.Refused Unknown) ⊎ (reply ≡ answer.Refused NoMemory))

  refused_by : (reason : Refusal) → MayReturn m client current (answer.Refused reason) → IsSaid (answer.Refused reason)
  refused_by reason (inl came) = inl (came_to config m client current (Replies (answer.Refused reason)) reached is came)
  refused_by reason (inr (inl gives)) = inr (inl (ap (λ r. answer.Refused r) (given_up_is current.asked.call reason named gives)))
  refused_by reason (inr (inr cause)) = inr (inr (ap (λ r. answer.Refused r) (cause_is m client current reason named cause)))

  said : (reply : Answer) → MayReturn m client current reply → IsSaid reply
  said (answer.Refused reason) may = refused_by reason may
  said other may = inl (came_to config m client current (Replies other) reached is (done_is m client current current.asked.call other named may))

pub name_calls_answer_one_moment : NameCallsAnswerOneMoment
name_calls_answer_one_moment config m client current reply reached is named may = said config m client current reached is named reply may

pub opens_find_their_file : OpensFindTheirFile
opens_find_their_file config m client current fd file reached is may = came_to config m client current (Opens file) reached is may.0

pub lengths_are_measured : LengthsAreMeasured
lengths_are_measured config m client file fd found reached a =
    let current : OpenCall = a.0 in
    let done : IsDone m client current (call.Length fd) (answer.Length found) = subst (λ c. IsDone m client current c (answer.Length found)) a.3 a.4 in
    let h : Holds config client m = holds_then config client m reached in
    let now : CallHolds config client m (Some current) = subst (CallHolds config client m) a.1 h.call_now in
    let was : HasMeasured config client m current.number current.asked found = contained (HasMeasured config client m current.number current.asked) current.lengths found now.3 done in
    let same : was.file ≡ file = from_some (sym was.on ∙ ap (λ (s : Asked). s.file) was.asked_is ∙ a.2) in (
      was.old,
      was.new,
      was.reached,
      was.between,
      was.way,
      (was.call_old, current, was.open_old, a.1, was.number_old),
      (was.call_new, current, was.open_new, a.1, was.number_new),
      subst (λ f. IsMeasured was.old was.new f found) same was.is,
    )
