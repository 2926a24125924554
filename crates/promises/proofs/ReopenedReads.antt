-- What a read shows of bytes that a settled entry keeps, whose call was answered before the file was opened again.
use Rattle.std.proofs.Common.{◌≡◌, ℕ, zero, suc, ◌+◌, ◌-◌, ◌*◌, ◌/◌, ◌<◌, ◌≤◌, min, List, [], ◌∷◌, ◌++◌, append_assoc, length, length-append, take, drop, Some, None, refl, sym, ◌∙◌, ap, subst, inl, inr, arith}
use Rattle.std.specs.Prelude.{Contains, slice_get, IsSomeAnd}
use Rattle.std.specs.List.{AllByRecursion}
use Rattle.std.proofs.lemmas.Bool.{cases_lt, ltb-false}
use Rattle.std.proofs.lemmas.Option.{none-some}
use Rattle.std.proofs.Math.Nat.{div-mul-le_self}
use Rattle.gfs_types.specs.declared.call.Call.{Call}
use Rattle.gfs_types.specs.declared.call.Call.TheVariants as call
use Rattle.gfs_types.specs.declared.answer.Answer.{Answer}
use Rattle.gfs_types.specs.declared.answer.Answer.TheVariants as answer
use Rattle.gfs_types.specs.declared.ids.Fd.{Fd}
use Rattle.gfs_types.specs.declared.config.Config.{Config}
use Rattle.gfs_types.specs.Mutations.{end_of}
use Rattle.gfs_types.specs.Image.{image_length, image_slice}
use Rattle.relaxed_file.specs.Laws.{LeaveAlone}
use Rattle.relaxed_file.specs.Order.{Entry, mutations_of}
use Rattle.relaxed_file.specs.Parts.{part_start, part_end, part_length}
use Rattle.relaxed_file.specs.Machine.{Machine, new_machine, Chunk, Asked, OpenCall, IsOpen, Piece, chunk_at, chunk_count, chunk_size}
use Rattle.relaxed_file.specs.Reads.{IsLook, MayLookPast, read_slice}
use Rattle.relaxed_file.specs.Answers.{IsDone, ArePieces}
use Rattle.relaxed_file.specs.Run.{Action, Return, ReturnFd, Visible, Answered, after, after_all, IsLawful, IsRunTo, LeadsTo, IsReached}
use Rattle.relaxed_file.proofs.Tables.{from_some, contained, all_more}
use Rattle.relaxed_file.proofs.Reached.{lawful_after, after_all-append, leads_on, leads_by}
use Rattle.relaxed_file.proofs.Grows.{Grows, grows_to, known_when_reached}
use Rattle.relaxed_file.proofs.Rounds.{IsWithin, every_order}
use Rattle.relaxed_file.proofs.Apart.{below_top}
use Rattle.relaxed_file.proofs.CallSteps.{IsPieceOf, by_look, by_none}
use Rattle.relaxed_file.proofs.Successes.{settled_entries_stay}
use Rattle.relaxed_file.proofs.InCall.{IsNoFd}
use Rattle.relaxed_file.proofs.OwnReads.{selected, has_place}
use Rattle.relaxed_file.proofs.StaleReads.{length_from, reaches_end}
use Rattle.promises.specs.Answered.{waiting_call, WasAnswered, fd_of}
use Rattle.promises.proofs.Lists.{in_front}
use Rattle.promises.proofs.WaitingCalls.{waiting_since, waiting-append}
use Rattle.promises.proofs.Descriptors.{file_opened}
use Rattle.promises.proofs.AnswerMoments.{AnsweredIn, answered_in, then, past, reached, to_past, way, descriptors_are_of_one_file}
use Rattle.promises.proofs.SincePieces.{ReadSince, pieces_since}
use Rattle.promises.proofs.PieceBytes.{IsFair, IsFound, begin, within, find, bytes_of}
use Rattle.promises.proofs.ReadPieces.{leads_to, fair_piece, size_at}
use Rattle.promises.proofs.KeptRanges.{IsKept, cut_at, no_bytes, is_shown, by_round}
use Rattle.promises.specs.Readers.{IsReadAfterOpen}
use Rattle.promises.proofs.Follows.{Follows, follows_to, follows_open, look_is_late, never_past}
use Rattle.promises.proofs.Opens.{OpenAnswer, open_answer}

-- the rounds of an order are at most the chunk's
round_at : (least most : ℕ) (order : List Entry) (place : ℕ) (e : Entry) → IsWithin least most order → slice_get order place ≡ Some e → e.round ≤ most
round_at least most [] place e h is = absurd (none-some e is)
round_at least most (x ∷ rest) zero e h is = subst (λ (f : Entry). f.round ≤ most) (from_some is) (below_top x.round most rest h.1)
round_at least most (x ∷ rest) (suc place) e h is = round_at x.round most rest place e h.1 is

-- an answer after another answer
answered_later : (trace : List Visible) (client other : ℕ) (asked again : Call) (reply next : Answer) (w : WasAnswered trace client asked reply) → WasAnswered w.rest other again next
    → WasAnswered trace other again next
answered_later trace client other asked again reply next w v = record {
  before = w.before ++ Answered client reply ∷ v.before;
  rest = v.rest;
  is = w.is ∙ ap (λ l. w.before ++ Answered client reply ∷ l) v.is ∙ sym (append_assoc w.before (Answered client reply ∷ v.before) (Answered other next ∷ v.rest));
  waited = waiting-append other w.before (Answered client reply ∷ v.before) None ∙ waiting_since other _ _ v.before v.waited;
}

module _ (config : Config) (trace : List Visible) (m : Machine) (run : IsRunTo config trace m) (client : ℕ) (fd : Fd) (asked : Call) (reply : Answer) (plain : IsNoFd reply)
    (file reader offset count : ℕ) (found rounds : List ℕ) (h : IsReadAfterOpen trace run.0 client fd asked reply file reader offset count found rounds)
    (index o : ℕ) (bytes : List ℕ) (kept : IsKept (chunk_size m file) (then config trace m run client asked reply plain h.put) file index o bytes)
    (end_is : end_of (kept.entry).mutation ≡ o + length bytes) where
  abbrev size : ℕ
  size = chunk_size m file

  -- where the first call is answered
  abbrev at_put : Machine
  at_put = then config trace m run client asked reply plain h.put

  abbrev past_put : Machine
  past_put = past config trace m run client asked reply plain h.put

  reached_put : IsReached config at_put
  reached_put = reached config trace m run client asked reply plain h.put

  abbrev r : ℕ
  r = (kept.entry).round

  -- where the Open is answered
  at_open : OpenAnswer config run.0 past_put reader (h.opened).0 file (h.open_file).rest
  at_open = open_answer config trace m run client asked reply plain h.put reader file h.path h.opened h.open_file h.open_of

  abbrev before_open : Machine
  before_open = after_all (new_machine config) at_open.front

  abbrev now : Machine
  now = after before_open (ReturnFd reader (h.opened).0 file)

  to_open : LeadsTo at_put before_open
  to_open = leads_on at_put past_put before_open (to_past config trace m run client asked reply plain h.put) at_open.way

  by_open : LeadsTo before_open now
  by_open = leads_by before_open (ReturnFd reader (h.opened).0 file) at_open.allowed

  reached_open : IsReached config before_open
  reached_open = (at_open.front, at_open.lawful, refl)

  reached_now : IsReached config now
  reached_now = leads_on (new_machine config) before_open now reached_open by_open

  grown : Grows at_put before_open
  grown = grows_to at_put before_open to_open (known_when_reached config at_put reached_put)

  -- by then the chunk was there, and the entry's round had opened
  has_chunk : index < chunk_count at_put file
  has_chunk = elim (cases_lt index (chunk_count at_put file)) [
    | inl there ↦ there
    | inr past_all ↦ absurd (none-some kept.entry (subst (λ (c : Chunk). slice_get c.order kept.place ≡ Some kept.entry) (((known_when_reached config at_put reached_put).files file) index past_all) kept.there))
  ]

  follows_now : Follows reader file index r now
  follows_now =
      let top : r ≤ (chunk_at at_put file index).round = round_at 0 _ _ kept.place kept.entry (every_order config at_put reached_put file index) kept.there in
      let later : (chunk_at at_put file index).round ≤ (chunk_at before_open file index).round = ((grown.files file).chunks index).round in
      let more : chunk_count at_put file ≤ chunk_count before_open file = (grown.files file).count in
      follows_open reader file index r before_open (h.opened).0 (known_when_reached config before_open reached_open) at_open.allowed (omega (arith, more, has_chunk)) (omega (arith, top, later))

  entry_there : (k : Machine) → LeadsTo now k → slice_get (chunk_at k file index).order kept.place ≡ Some kept.entry
  entry_there k to = settled_entries_stay config at_put k reached_put (leads_on at_put before_open k to_open (leads_on before_open now k by_open to)) file index kept.place kept.entry kept.there kept.settled

  -- the read, from there on
  abbrev at_read : AnsweredIn now at_open.back reader (call.Read h.through offset count) (answer.Bytes found rounds) (h.read).before (h.read).rest
  at_read = answered_in now at_open.back reader _ _ (h.read).before (h.read).rest at_open.lawful_back tt (at_open.then ∙ (h.read).is) (waiting_since reader _ _ (h.read).before (h.read).waited)

  abbrev then_read : Machine
  then_read = after_all now at_read.front

  reached_read : IsReached config then_read
  reached_read = leads_on (new_machine config) now then_read reached_now (at_read.front, at_read.lawful, refl)

  abbrev gives : IsDone then_read reader at_read.current (call.Read h.through offset count) (answer.Bytes found rounds)
  gives = subst (λ c. IsDone then_read reader at_read.current c (answer.Bytes found rounds)) at_read.call_is at_read.may

  abbrev up_to_read : List Action
  up_to_read = at_open.front ++ ReturnFd reader (h.opened).0 file ∷ at_read.front

  read_lawful : IsLawful (new_machine config) up_to_read
  read_lawful = lawful_after (new_machine config) at_open.front (ReturnFd reader (h.opened).0 file ∷ at_read.front) at_open.lawful (at_open.allowed, at_read.lawful)

  read_ends : after_all (new_machine config) up_to_read ≡ then_read
  read_ends = after_all-append (new_machine config) at_open.front (ReturnFd reader (h.opened).0 file ∷ at_read.front)

  read_whole : run.0 ≡ up_to_read ++ Return reader (answer.Bytes found rounds) ∷ at_read.back
  read_whole = at_open.is ∙ ap (λ l. at_open.front ++ ReturnFd reader (h.opened).0 file ∷ l) at_read.is
      ∙ sym (append_assoc at_open.front (ReturnFd reader (h.opened).0 file ∷ at_read.front) (Return reader (answer.Bytes found rounds) ∷ at_read.back))

  same_read : gives.0 ≡ file
  same_read = descriptors_are_of_one_file config trace m run reader h.through gives.0 file
      (subst (λ l. Contains l (ReturnFd reader (h.through).0 gives.0)) (sym read_whole) (in_front up_to_read (Return reader (answer.Bytes found rounds) ∷ at_read.back) _
      (file_opened config up_to_read read_lawful reader at_read.current h.through gives.0 (subst (λ k. IsOpen k reader at_read.current) (sym read_ends) at_read.open_now) (ap fd_of at_read.call_is) gives.1)))
      h.read_of

  -- the file keeps its size
  sized : (k : Machine) → LeadsTo now k → chunk_size k file ≡ size
  sized k to =
      size_at config at_put k m file index kept.place kept.entry reached_put kept.there (leads_on at_put before_open k to_open (leads_on before_open now k by_open to)) (way config trace m run client asked reply plain h.put)

  pieces_in_order : ArePieces size offset count (at_read.current).pieces (offset / size) gives.2
  pieces_in_order =
      subst (λ (n : ℕ). ArePieces n offset count (at_read.current).pieces (offset / n) gives.2) (ap (λ (f : ℕ). chunk_size then_read f) same_read ∙ sized then_read (at_read.front, at_read.lawful, refl)) gives.3

  abbrev Since : Piece → Type 0
  Since = ReadSince now at_read.front reader (at_read.current).asked

  since : AllByRecursion Since (at_read.current).pieces
  since = pieces_since now at_read.front reader at_read.lawful (call.Read h.through offset count) at_read.current (ap (waiting_call reader None) at_read.seen ∙ (h.read).waited) at_read.open_now

  on_way : (d after_d : List Action) → at_read.front ≡ d ++ after_d → LeadsTo now (after_all now d)
  on_way d after_d is = leads_to now at_read.front d after_d at_read.lawful is

  -- a piece of the entry's chunk names no earlier round, and its selection has the entry
  record IsLate (piece : Piece) : Type 0 where
    named : ℕ
    round_is : piece.round ≡ Some named
    late : r ≤ named
    chosen : List Entry
    has : Contains chosen kept.entry
    gave : piece.bytes ≡ image_slice (mutations_of chosen) (part_start size offset index) (part_length size offset count index)

  late_by : (k : Machine) → LeadsTo now k → (c : OpenCall) → IsOpen k reader c → c.asked ≡ (at_read.current).asked → (piece : Piece) → piece.index ≡ index → IsPieceOf k reader c piece → IsLate piece
  late_by k to c is_open same piece here (by_none i gone is) =
      let on : c.asked.file ≡ Some file = ap (λ (a : Asked). a.file) same ∙ gives.1 ∙ ap Some same_read in
      absurd (never_past reader file index r k c (follows_to reader file index r now k to follows_now) is_open on (subst (MayLookPast c) (ap (λ (p : Piece). p.index) (sym is) ∙ here) gone))
  late_by k to c is_open same piece here (by_look f i least last chosen may is) =
      let index_is : i ≡ index = ap (λ (p : Piece). p.index) (sym is) ∙ here in
      let file_is : f ≡ file = from_some (sym may.0 ∙ ap (λ (a : Asked). a.file) same ∙ gives.1) ∙ same_read in
      let call_is : c.asked.call ≡ call.Read h.through offset count = ap (λ (a : Asked). a.call) same ∙ at_read.call_is in
      let look : IsLook k reader file index least last chosen = subst (λ g. IsLook k reader g index least last chosen) file_is (subst (λ j. IsLook k reader f j least last chosen) index_is may.2) in
      let reaches : r ≤ least = look_is_late reader file index r k least last chosen (follows_to reader file index r now k to follows_now) look in
      let most : least ≤ last = look.2 in
      record {
        named = least;
        round_is = ap (λ (p : Piece). p.round) is;
        late = reaches;
        chosen = chosen;
        has = has_place chosen kept.entry (selected last look.3 kept.place kept.entry (entry_there k to) kept.settled (omega (arith, reaches, most)));
        gave = ap (λ (p : Piece). p.bytes) is ∙ ap (λ g. read_slice (chunk_size k g) i c.asked.call chosen) file_is ∙ (λ j. read_slice (sized k to j) (index_is j) (call_is j) chosen);
      }

  late : (piece : Piece) → Contains (at_read.current).pieces piece → piece.index ≡ index → IsLate piece
  late piece there here =
      let s : Since piece = contained Since (at_read.current).pieces piece since there in
      late_by (after_all now s.0) (on_way s.0 s.1 s.2) s.3 s.4 s.5 piece here s.6

  -- so where the range reaches the entry's end, the piece does too
  piece_reaches : (piece : Piece) → IsLate piece → index * size + o + length bytes ≤ offset + count → o + length bytes ≤ part_start size offset index + length piece.bytes
  piece_reaches piece s until =
      let far : end_of (kept.entry).mutation ≤ image_length (mutations_of s.chosen) = reaches_end (s.has).0 s.chosen kept.entry (s.has).1 (s.has).2 in
      let long : length (image_slice (mutations_of s.chosen) (part_start size offset index) (part_length size offset count index))
      ≡ min (part_length size offset count index) (image_length (mutations_of s.chosen) - part_start size offset index) = length_from (mutations_of s.chosen) _ _ in
      let gave : length piece.bytes ≡ length (image_slice (mutations_of s.chosen) (part_start size offset index) (part_length size offset count index)) = ap (λ l. length l) s.gave in
      let room : o + length bytes ≤ size = kept.room in
      omega (arith, far, end_is, long, gave, room, until)

  pieces_reach : (pieces : List Piece) → ArePieces size offset count (at_read.current).pieces index pieces → index * size + o + length bytes ≤ offset + count
      → o + length bytes ≤ part_start size offset index + length (bytes_of pieces)
  pieces_reach [] are until =
      let none : part_end size offset count index ≤ part_start size offset index = ltb-false _ _ are in
      let room : o + length bytes ≤ size = kept.room in
      omega (arith, none, room, until)
  pieces_reach (piece ∷ rest) are until =
      let l : o + length bytes ≤ part_start size offset index + length piece.bytes = piece_reaches piece (late piece are.1 are.2) until in
      let whole : length (piece.bytes ++ bytes_of rest) ≡ length piece.bytes + length (bytes_of rest) = length-append piece.bytes (bytes_of rest) in
      omega (arith, l, whole)

  pub reaches_to : offset / size ≡ index → index * size + o + length bytes ≤ offset + count → index * size + o + length bytes ≤ offset + length found
  reaches_to first until =
      let low : offset / size * size ≤ offset = div-mul-le_self offset size in
      let prod : offset / size * size ≡ index * size = ap (λ k. k * size) first in
      let far : o + length bytes ≤ part_start size offset index + length (bytes_of gives.2) =
      pieces_reach gives.2 (subst (λ i. ArePieces size offset count (at_read.current).pieces i gives.2) first pieces_in_order) until in
      let long : length found ≡ length (bytes_of gives.2) = ap (λ l. length l) gives.4 in
      omega (arith, low, prod, far, long)

  fair : AllByRecursion (IsFair size offset count) (at_read.current).pieces
  fair = all_more (at_read.current).pieces
      (λ piece s. fair_piece size offset count (after_all now s.0) reader s.3 piece h.through file (ap (λ (a : Asked). a.file) s.5 ∙ gives.1 ∙ ap Some same_read) (sized _ (on_way s.0 s.1 s.2)) (ap (λ (a : Asked). a.call) s.5 ∙ at_read.call_is) s.6) since

  module _ (from : offset ≤ index * size + o) (until_end : index * size + o + length bytes ≤ offset + length found) where
    module _ (some : 0 < length bytes) where
      found_piece : IsFound size offset count (at_read.current).pieces gives.2 (offset / size) index o (length bytes) (index * size + o - begin size offset (offset / size))
      found_piece =
          let low : offset / size * size ≤ offset = div-mul-le_self offset size in
          let begin_is : begin size offset (offset / size) ≡ offset = omega (arith, low) in
          let long : length found ≡ length (bytes_of gives.2) = ap (λ l. length l) gives.4 in
          let most : length (bytes_of gives.2) ≤ (offset + count) - begin size offset (offset / size) = within size offset count _ fair gives.2 (offset / size) pieces_in_order in
          find size offset count _ fair index o (length bytes) (index * size + o) some kept.room refl (omega (arith, most, begin_is, long, until_end, from, some))
          gives.2 (offset / size) pieces_in_order (omega (arith, begin_is, from)) (omega (arith, begin_is, long, until_end))

      round_is_late : IsSomeAnd (slice_get rounds (index - offset / size)) (λ named. r ≤ named)
      round_is_late =
          let s : IsLate found_piece.piece = late found_piece.piece found_piece.there found_piece.index_is in
          let same : s.named ≡ found_piece.named = from_some (sym s.round_is ∙ found_piece.round_is) in
          let is_late : r ≤ found_piece.named = let l : r ≤ s.named = s.late in omega (arith, l, same) in
          subst (λ o. IsSomeAnd o (λ named. r ≤ named)) (sym (ap (λ l. slice_get l (index - offset / size)) gives.5 ∙ found_piece.place)) is_late

    abbrev direct : WasAnswered (h.put).rest reader (call.Read h.through offset count) (answer.Bytes found rounds)
    direct = answered_later (h.put).rest reader reader _ _ _ _ h.open_file h.read

    pub shows : LeaveAlone o (length bytes) (cut_at config (chunk_size m file) at_put m file index o bytes (reached config trace m run client asked reply plain h.put) (way config trace m run client asked reply plain h.put) kept).1
        → take (length bytes) (drop (index * size + o - offset) found) ≡ bytes
    shows alone = elim (cases_lt 0 (length bytes)) [
      | inl some ↦ is_shown config trace m run client asked reply plain h.put reader file h.through offset count found rounds direct h.read_of index o bytes kept from until_end alone
          (by_round config trace m run client asked reply plain h.put reader file h.through offset count found rounds direct h.read_of index o bytes kept from until_end (round_is_late some))
      | inr none ↦ no_bytes bytes _ (omega (arith, none))
    ]
