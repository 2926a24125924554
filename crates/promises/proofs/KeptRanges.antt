-- A range of a chunk whose bytes a settled entry keeps, and what a read that is answered later shows of it.
use Rattle.std.proofs.Common.{◌≡◌, ℕ, ◌+◌, ◌-◌, ◌*◌, ◌/◌, ◌<◌, ◌≤◌, Bool, true, false, cond, List, [], ◌∷◌, ◌++◌, length, take, drop, Option, Some, None, refl, sym, ◌∙◌, ap, subst, inl, inr, arith}
use Rattle.std.specs.Prelude.{slice_get, IsTrue, IsSomeAnd}
use Rattle.std.specs.List.{AllByRecursion}
use Rattle.std.proofs.lemmas.Bool.{cases_lt}
use Rattle.std.proofs.lemmas.Option.{none-some}
use Rattle.std.proofs.Math.Nat.{div-mul-le_self}
use Rattle.gfs_types.specs.declared.call.Call.{Call}
use Rattle.gfs_types.specs.declared.call.Call.TheVariants as call
use Rattle.gfs_types.specs.declared.answer.Answer.{Answer}
use Rattle.gfs_types.specs.declared.answer.Answer.TheVariants as answer
use Rattle.gfs_types.specs.declared.ids.Fd.{Fd}
use Rattle.gfs_types.specs.declared.config.Config.{Config}
use Rattle.gfs_types.specs.Mutations.{covers}
use Rattle.gfs_types.specs.Image.{newer, image_slice}
use Rattle.relaxed_file.specs.Order.{Entry, IsSelection, mutations_of, last_cover}
use Rattle.relaxed_file.specs.Laws.{LeaveAlone}
use Rattle.relaxed_file.specs.Parts.{part_start, part_length}
use Rattle.relaxed_file.specs.Machine.{Machine, new_machine, Asked, OpenCall, Piece, chunk_at, chunk_size}
use Rattle.relaxed_file.specs.Reads.{IsLook, read_slice}
use Rattle.relaxed_file.specs.Answers.{IsDone, ArePieces}
use Rattle.relaxed_file.specs.Run.{Action, Return, Visible, after, after_all, IsRunTo, LeadsTo, IsReached}
use Rattle.relaxed_file.proofs.Tables.{from_some, contained, all_more}
use Rattle.relaxed_file.proofs.Reached.{leads_on}
use Rattle.relaxed_file.proofs.Known.{Known}
use Rattle.relaxed_file.proofs.Grows.{OrderGrows, grows_to, known_when_reached}
use Rattle.relaxed_file.proofs.CallSteps.{IsPieceOf, by_look, by_none}
use Rattle.relaxed_file.proofs.Successes.{settled_entries_stay}
use Rattle.relaxed_file.proofs.InCall.{IsNoFd}
use Rattle.promises.specs.Answered.{waiting_call, WasAnswered, IsOf}
use Rattle.promises.proofs.Lists.{parted}
use Rattle.promises.proofs.WaitingCalls.{waiting_since}
use Rattle.promises.proofs.AnswerMoments.{AnsweredIn, answered_in, at, then, past, reached, to_past, reached_past, ends, way, later_file, descriptors_are_of_one_file}
use Rattle.promises.proofs.SincePieces.{ReadSince, pieces_since}
use Rattle.promises.proofs.PieceBytes.{IsFair, IsFound, begin, within, find, bytes_of}
use Rattle.promises.proofs.ReadPieces.{leads_from, leads_to, fair_piece, slice_there, size_at}

-- fewer entries cover no more
none_of_newer : {A : Type 0} (a b : Option A) → newer a b ≡ None → (a ≡ None) × (b ≡ None)
none_of_newer a None is = (is, refl)
none_of_newer a (Some x) is = absurd (none-some x (sym is))

not_there : {A : Type 0} (b : Bool) (x : A) → cond b (Some x) None ≡ None → b ≡ false
not_there true x is = absurd (none-some x (sym is))
not_there false x is = refl

none_covers : (place : ℕ) (old new : List Entry) → OrderGrows old new → last_cover new place ≡ None → last_cover old place ≡ None
none_covers place [] new grown none = refl
none_covers place (e ∷ old) [] grown none = absurd grown
none_covers place (e ∷ old) (f ∷ new) grown none =
    let both = none_of_newer (cond (covers place f.mutation) (Some f) None) (last_cover new place) none in
    let left : covers place e.mutation ≡ false = ap (covers place) (grown.0).2 ∙ not_there (covers place f.mutation) f both.0 in
    ap (λ o. newer (cond (covers place e.mutation) (Some e) None) o) (none_covers place old new grown.1 both.1) ∙ ap (λ b. cond b (Some e) None) left

later_grows : (before after : List Entry) (e f : Entry) (old new : List Entry) → length before ≡ length after → OrderGrows (before ++ e ∷ old) (after ++ f ∷ new) → OrderGrows old new
later_grows [] [] e f old new same grown = grown.1
later_grows [] (y ∷ after) e f old new same grown = absurd (omega (arith, same))
later_grows (x ∷ before) [] e f old new same grown = absurd (omega (arith, same))
later_grows (x ∷ before) (y ∷ after) e f old new same grown = later_grows before after e f old new (omega (arith, same)) grown.1

pub no_bytes : (bytes xs : List ℕ) → length bytes ≡ 0 → take (length bytes) xs ≡ bytes
no_bytes [] xs is = refl
no_bytes (b ∷ bytes) xs is = absurd (omega (arith, is))

-- the entry is settled at its place, and keeps the bytes in each selection up to its round or later, until a later entry covers some of them
pub record IsKept (size : ℕ) (s : Machine) (file index offset : ℕ) (bytes : List ℕ) : Type 0 where
  pub place : ℕ
  pub entry : Entry
  pub there : slice_get (chunk_at s file index).order place ≡ Some entry
  pub settled : IsTrue entry.settled
  pub room : offset + length bytes ≤ size
  pub keeps : (last : ℕ) (before later chosen : List Entry) → entry.round ≤ last → LeaveAlone offset (length bytes) later → IsSelection last (before ++ entry ∷ later) chosen
      → image_slice (mutations_of chosen) offset (length bytes) ≡ bytes

-- where it stands at the end
abbrev pub CutAt : Machine → ℕ → ℕ → Entry → ℕ → Type 0
CutAt m file index entry place = (before : List Entry) × (later : List Entry) × ((chunk_at m file index).order ≡ before ++ entry ∷ later) × (length before ≡ place)

pub cut_at : (config : Config) (size : ℕ) (s m : Machine) (file index offset : ℕ) (bytes : List ℕ) → IsReached config s → LeadsTo s m → (kept : IsKept size s file index offset bytes) → CutAt m file index kept.entry kept.place
cut_at config size s m file index offset bytes is_reached way_there kept = parted _ kept.place kept.entry (settled_entries_stay config s m is_reached way_there file index kept.place kept.entry kept.there kept.settled)

module _ (config : Config) (trace : List Visible) (m : Machine) (run : IsRunTo config trace m) (client : ℕ) (asked : Call) (reply : Answer) (plain : IsNoFd reply) (one : WasAnswered trace client asked reply)
    (reader file : ℕ) (fe : Fd) (offset count : ℕ) (found rounds : List ℕ) (two : WasAnswered one.rest reader (call.Read fe offset count) (answer.Bytes found rounds)) (two_of : IsOf run.0 reader fe file)
    (index o : ℕ) (bytes : List ℕ) (kept : IsKept (chunk_size m file) (then config trace m run client asked reply plain one) file index o bytes)
    (begins : offset ≤ index * chunk_size m file + o) (reach : index * chunk_size m file + o + length bytes ≤ offset + length found) where
  abbrev then_one : Machine
  then_one = then config trace m run client asked reply plain one

  abbrev past_one : Machine
  past_one = past config trace m run client asked reply plain one

  abbrev at_one : AnsweredIn (new_machine config) run.0 client asked reply one.before one.rest
  at_one = at config trace m run client asked reply plain one

  abbrev reached_one : IsReached config then_one
  reached_one = reached config trace m run client asked reply plain one

  to_past_one : LeadsTo then_one past_one
  to_past_one = to_past config trace m run client asked reply plain one

  reached_past_one : IsReached config past_one
  reached_past_one = reached_past config trace m run client asked reply plain one

  abbrev at_two : AnsweredIn past_one at_one.back reader (call.Read fe offset count) (answer.Bytes found rounds) two.before two.rest
  at_two = answered_in past_one at_one.back reader _ _ two.before two.rest at_one.lawful_back tt (at_one.then ∙ two.is) (waiting_since reader _ _ two.before two.waited)

  abbrev then_two : Machine
  then_two = after_all past_one at_two.front

  reached_two : IsReached config then_two
  reached_two = leads_on (new_machine config) past_one then_two reached_past_one (at_two.front, at_two.lawful, refl)

  two_to_end : LeadsTo then_two m
  two_to_end = leads_from past_one m at_one.back at_two.front (Return reader (answer.Bytes found rounds) ∷ at_two.back) at_one.lawful_back at_two.is (ends config trace m run client asked reply plain one)

  abbrev done : IsDone then_two reader at_two.current (call.Read fe offset count) (answer.Bytes found rounds)
  done = subst (λ c. IsDone then_two reader at_two.current c (answer.Bytes found rounds)) at_two.call_is at_two.may

  same_two : done.0 ≡ file
  same_two = descriptors_are_of_one_file config trace m run reader fe done.0 file (later_file config trace m run client asked reply plain one reader _ _ two.before two.rest at_two fe done.0 refl done.1) two_of

  abbrev size : ℕ
  size = chunk_size m file

  -- the file keeps its size
  sized : (k : Machine) → LeadsTo past_one k → chunk_size k file ≡ size
  sized k to =
      size_at config then_one k m file index kept.place kept.entry reached_one kept.there (leads_on then_one past_one k to_past_one to) (way config trace m run client asked reply plain one)

  pieces_are : ArePieces size offset count (at_two.current).pieces (offset / size) done.2
  pieces_are =
      subst (λ (n : ℕ). ArePieces n offset count (at_two.current).pieces (offset / n) done.2) (ap (λ (f : ℕ). chunk_size then_two f) same_two ∙ sized then_two (at_two.front, at_two.lawful, refl)) done.3

  abbrev Since : Piece → Type 0
  Since = ReadSince past_one at_two.front reader (at_two.current).asked

  since : AllByRecursion Since (at_two.current).pieces
  since = pieces_since past_one at_two.front reader at_two.lawful (call.Read fe offset count) at_two.current (ap (waiting_call reader None) at_two.seen ∙ two.waited) at_two.open_now

  on_the_way : (d : List Action) (left : List Action) → at_two.front ≡ d ++ left → LeadsTo past_one (after_all past_one d)
  on_the_way d left is = leads_to past_one at_two.front d left at_two.lawful is

  fair_since : (piece : Piece) → Since piece → IsFair size offset count piece
  fair_since piece s = fair_piece size offset count (after_all past_one s.0) reader s.3 piece fe file (ap (λ (a : Asked). a.file) s.5 ∙ done.1 ∙ ap Some same_two) (sized _ (on_the_way s.0 s.1 s.2)) (ap (λ (a : Asked). a.call) s.5 ∙ at_two.call_is) s.6

  fair : AllByRecursion (IsFair size offset count) (at_two.current).pieces
  fair = all_more (at_two.current).pieces fair_since since

  abbrev at_end : CutAt m file index kept.entry kept.place
  at_end = cut_at config size then_one m file index o bytes reached_one (way config trace m run client asked reply plain one) kept

  abbrev first : ℕ
  first = offset / size

  abbrev x : ℕ
  x = index * size + o

  begin_is : begin size offset first ≡ offset
  begin_is = let l : first * size ≤ offset = div-mul-le_self offset size in omega (arith, l)

  -- the round that a look names is no earlier than the entry's, where the look may be the read's
  abbrev ReachRound : Type 0
  ReachRound =
      (k : Machine) (least last : ℕ) (chosen : List Entry) → LeadsTo past_one k → IsLook k reader file index least last chosen → slice_get rounds (index - first) ≡ Some least → (kept.entry).round ≤ least

  module _ (some : 0 < length bytes) where
    long : length found ≡ length (bytes_of done.2)
    long = ap (λ l. length l) done.4

    far : x + length bytes ≤ offset + count
    far =
        let most : length (bytes_of done.2) ≤ (offset + count) - begin size offset first = within size offset count _ fair done.2 first pieces_are in
        omega (arith, most, begin_is, long, reach, begins, some)

    place : IsFound size offset count (at_two.current).pieces done.2 first index o (length bytes) (x - begin size offset first)
    place = find size offset count _ fair index o (length bytes) x some kept.room refl far done.2 first pieces_are (omega (arith, begin_is, begins)) (omega (arith, begin_is, long, reach))

    piece_since : Since place.piece
    piece_since = contained Since (at_two.current).pieces place.piece since place.there

    abbrev look_since : Machine
    look_since = after_all past_one piece_since.0

    to_look : LeadsTo past_one look_since
    to_look = on_the_way piece_since.0 piece_since.1 piece_since.2

    look_to_end : LeadsTo look_since m
    look_to_end = leads_on _ then_two m (leads_from past_one then_two at_two.front piece_since.0 piece_since.1 at_two.lawful piece_since.2 refl) two_to_end

    -- the round that the read names of the chunk is the one of the look that gave the piece
    record IsLookOf : Type 0 where
      last : ℕ
      chosen : List Entry
      look : IsLook look_since reader file index place.named last chosen
      named_is : slice_get rounds (index - first) ≡ Some place.named
      gave : (place.piece).bytes ≡ image_slice (mutations_of chosen) (part_start size offset index) (part_length size offset count index)

    looked_by : (c : OpenCall) → c.asked ≡ (at_two.current).asked → IsPieceOf look_since reader c place.piece → IsLookOf
    looked_by c same (by_none i gone is) = absurd (none-some place.named (ap (λ (p : Piece). p.round) (sym is) ∙ place.round_is))
    looked_by c same (by_look f i least last chosen may is) =
        let index_is : i ≡ index = ap (λ (p : Piece). p.index) (sym is) ∙ place.index_is in
        let round_is : least ≡ place.named = from_some (ap (λ (p : Piece). p.round) (sym is) ∙ place.round_is) in
        let file_is : f ≡ file = from_some (sym may.0 ∙ ap (λ (a : Asked). a.file) same ∙ done.1) ∙ same_two in
        let call_is : c.asked.call ≡ call.Read fe offset count = ap (λ (a : Asked). a.call) same ∙ at_two.call_is in
        let look : IsLook look_since reader file index least last chosen =
        subst (λ g. IsLook look_since reader g index least last chosen) file_is (subst (λ j. IsLook look_since reader f j least last chosen) index_is may.2) in
        record {
          last = last;
          chosen = chosen;
          look = subst (λ r. IsLook look_since reader file index r last chosen) round_is look;
          named_is = ap (λ l. slice_get l (index - first)) done.5 ∙ place.place;
          gave = ap (λ (p : Piece). p.bytes) is ∙ ap (λ g. read_slice (chunk_size look_since g) i c.asked.call chosen) file_is
              ∙ (λ j. read_slice (sized look_since to_look j) (index_is j) (call_is j) chosen);
        }

    looked : IsLookOf
    looked = looked_by piece_since.3 piece_since.5 piece_since.6

    reaches : ReachRound → (kept.entry).round ≤ place.named
    reaches rounds_reach = rounds_reach look_since place.named looked.last looked.chosen to_look looked.look looked.named_is

    shown_whole : LeaveAlone o (length bytes) at_end.1 → ReachRound → take (length bytes) (drop (x - offset) found) ≡ bytes
    shown_whole alone rounds_reach =
        let up_to : (kept.entry).round ≤ looked.last = let l : place.named ≤ looked.last = (looked.look).2 in omega (arith, reaches rounds_reach, l) in
        let known : Known look_since = known_when_reached config look_since (leads_on (new_machine config) past_one look_since reached_past_one to_look) in
        let cut : CutAt look_since file index kept.entry kept.place = cut_at config size then_one look_since file index o bytes reached_one (leads_on then_one past_one look_since to_past_one to_look) kept in
        let grown : OrderGrows (chunk_at look_since file index).order (chunk_at m file index).order = (((grows_to look_since m look_to_end known).files file).chunks index).order in
        let parts : OrderGrows (cut.0 ++ kept.entry ∷ cut.1) (at_end.0 ++ kept.entry ∷ at_end.1) =
        subst (λ l. OrderGrows l (at_end.0 ++ kept.entry ∷ at_end.1)) cut.2 (subst (OrderGrows (chunk_at look_since file index).order) at_end.2 grown) in
        let later : OrderGrows cut.1 at_end.1 = later_grows cut.0 at_end.0 kept.entry kept.entry cut.1 at_end.1 (cut.3 ∙ sym at_end.3) parts in
        let there : image_slice (mutations_of looked.chosen) o (length bytes) ≡ bytes =
        kept.keeps looked.last cut.0 cut.1 looked.chosen up_to (λ p from until. none_covers p cut.1 at_end.1 later (alone p from until)) (subst (λ l. IsSelection looked.last l looked.chosen) cut.2 (looked.look).3) in
        ap (λ l. take (length bytes) (drop (x - offset) l)) done.4 ∙ ap (λ k. take (length bytes) (drop (x - k) (bytes_of done.2))) (sym begin_is) ∙ place.bytes_are
        ∙ ap (λ l. take (length bytes) (drop (o - part_start size offset index) l)) looked.gave
        ∙ slice_there o (part_start size offset index) (part_length size offset count index) (length bytes) (mutations_of looked.chosen) bytes place.starts
        (subst (λ l. (o - part_start size offset index) + length bytes ≤ length l) looked.gave place.long) refl there

    -- the read names a round of the chunk that is no earlier than the entry's
    pub round_named : ReachRound → (named : ℕ) × (slice_get rounds (index - first) ≡ Some named) × ((kept.entry).round ≤ named)
    round_named rounds_reach = (place.named, looked.named_is, reaches rounds_reach)

  pub is_shown : LeaveAlone o (length bytes) at_end.1 → ReachRound → take (length bytes) (drop (x - offset) found) ≡ bytes
  is_shown alone rounds_reach = elim (cases_lt 0 (length bytes)) [
    | inl some ↦ shown_whole some alone rounds_reach
    | inr none ↦ no_bytes bytes _ (omega (arith, none))
  ]

  -- the round is the one that the read names of the chunk
  pub by_round : IsSomeAnd (slice_get rounds (index - first)) (λ named. (kept.entry).round ≤ named) → ReachRound
  by_round named k least last chosen to look is = subst (λ l. IsSomeAnd l (λ round. (kept.entry).round ≤ round)) is named
