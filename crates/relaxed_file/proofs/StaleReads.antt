-- A client that appended a record reads some of it.
use Rattle.std.proofs.Common.{◌≡◌, ℕ, zero, suc, ◌+◌, ◌-◌, ◌*◌, ◌/◌, ◌<◌, ◌≤◌, min, Bool, true, false, cond, List, [], ◌∷◌, ◌++◌, length, Some, refl, sym, ◌∙◌, ap, subst, ⊎_elim, arith, lt-ltb, length-append}
use Rattle.std.specs.Prelude.{Contains, nat_lt, flat_map}
use Rattle.std.specs.List.{slice_index_or}
use Rattle.std.proofs.lemmas.Bool.{true≢false, cases_lt}
use Rattle.std.proofs.lemmas.Option.{none-some}
use Rattle.std.proofs.lemmas.Nat.{div-mul-add}
use Rattle.gfs_types.specs.declared.call.Call.TheVariants as call
use Rattle.gfs_types.specs.declared.answer.Answer.TheVariants as answer
use Rattle.gfs_types.specs.declared.ids.Fd.{Fd}
use Rattle.gfs_types.specs.declared.config.Config.{Config}
use Rattle.gfs_types.specs.declared.shape.Shape.{Shape}
use Rattle.gfs_types.specs.declared.mutation.Mutation.{Mutation}
use Rattle.gfs_types.specs.Mutations.{end_of}
use Rattle.gfs_types.specs.Image.{image_length, image_slice, bytes_from}
use Rattle.relaxed_file.specs.Order.{Entry, mutations_of}
use Rattle.relaxed_file.specs.Parts.{has_part, part_start, part_length}
use Rattle.relaxed_file.specs.Machine.{Machine, new_machine, Asked, OpenCall, Offer, Told, NoSuchChunk, Piece, chunk_at, chunk_count, chunk_size}
use Rattle.relaxed_file.specs.Reads.{offer_of, IsLook, read_slice}
use Rattle.relaxed_file.specs.Answers.{IsDone, ArePieces}
use Rattle.relaxed_file.specs.Run.{Return, Visible, Called, Answered, Allows, after, LeadsTo, IsReached, asked_now}
use Rattle.relaxed_file.specs.RunLaws.{IsOwnSuccess}
use Rattle.relaxed_file.specs.NotRuns.{NoStaleRead}
use Rattle.relaxed_file.proofs.Tables.{from_some, contained}
use Rattle.relaxed_file.proofs.Reached.{leads_on, leads_by}
use Rattle.relaxed_file.proofs.Known.{Known, made_by_count}
use Rattle.relaxed_file.proofs.Grows.{grows_to, known_when_reached}
use Rattle.relaxed_file.proofs.ShapesKept.{shapes_stay}
use Rattle.relaxed_file.proofs.Successes.{AnsweredAppend, answered}
use Rattle.relaxed_file.proofs.OwnReads.{own_successes_are_read}
use Rattle.relaxed_file.proofs.CallSteps.{IsPieceOf, by_look, by_none}
use Rattle.relaxed_file.proofs.Moments.{leads, Split, split_shows}
use Rattle.relaxed_file.proofs.InCall.{WasRead, WasTold, Exchange, exchange, answered_way, answers_now}
use Rattle.relaxed_file.proofs.NotRuns.{shows_run}

pub length_from : (ms : List Mutation) (place count : ℕ) → length (bytes_from ms place count) ≡ count
length_from ms place zero = refl
length_from ms place (suc count) = let more : length (bytes_from ms (suc place) count) ≡ count = length_from ms (suc place) count in omega arith

-- the image reaches the end of each mutation
pub reaches_end : (k : ℕ) (chosen : List Entry) (e : Entry) → k < length chosen → slice_index_or chosen k e ≡ e → end_of e.mutation ≤ image_length (mutations_of chosen)
reaches_end k [] e l is = absurd (omega arith)
reaches_end zero (x ∷ rest) e l is = let same : end_of x.mutation ≡ end_of e.mutation = ap (λ (w : Entry). end_of w.mutation) is in omega arith
reaches_end (suc k) (x ∷ rest) e l is = let more : end_of e.mutation ≤ image_length (mutations_of rest) = reaches_end k rest e (omega arith) is in omega arith

pub empty_front : (xs ys : List ℕ) → [] ≡ xs ++ ys → length xs ≡ 0
empty_front xs ys h = let whole : 0 ≡ length (xs ++ ys) = ap (λ (l : List ℕ). length l) h in omega (arith, whole, length-append xs ys)

abbrev index_of : Offer → ℕ
index_of (Told index round count) = index
index_of (NoSuchChunk index) = index

abbrev is_none : Offer → Type 0
is_none (Told index round count) = ⊥
is_none (NoSuchChunk index) = Unit {0}

index_of_offer : (index round count : ℕ) (b : Bool) → index_of (cond b (Told index round count) (NoSuchChunk index)) ≡ index
index_of_offer index round count true = refl
index_of_offer index round count false = refl

-- what is offered of a chunk that is there
pub offered_there : (m : Machine) (file i j : ℕ) → j < chunk_count m file → NoSuchChunk i ≡ offer_of m file j → ⊥
offered_there m file i j l h =
    subst is_none (h ∙ ap (λ b. cond b (Told j (chunk_at m file j).round (chunk_count m file)) (NoSuchChunk j)) (lt-ltb j (chunk_count m file) l)) tt

pub offered_index : (m : Machine) (file i j : ℕ) → NoSuchChunk i ≡ offer_of m file j → i ≡ j
offered_index m file i j h = ap index_of h ∙ index_of_offer j (chunk_at m file j).round (chunk_count m file) (nat_lt j (chunk_count m file))

-- a record's own part of its chunk
pub part_there : (size index offset count x : ℕ) → x ≡ index * size + offset → offset + count ≤ size → 0 < count → has_part size x count index ≡ true
part_there size index offset count x is room some =
    lt-ltb (x - index * size) (min ((x + count) - index * size) size) (omega arith)

pub part_bytes_there : (size index offset count x end : ℕ) → x ≡ index * size + offset → offset + count ≤ size → 0 < count → offset + count ≤ end
    → 0 < min (part_length size x count index) (end - part_start size x index)
part_bytes_there size index offset count x end is room some far = omega arith

module _ (config : Config) (m n : Machine) (client : ℕ) (fd : Fd) (bytes rounds : List ℕ) (x : ℕ) (later : List Visible) (some : 0 < length bytes) (reached : IsReached config m)
    (a : Exchange m n client (call.Append fd bytes) (answer.At x) (Called client (call.Read fd x (length bytes)) ∷ Answered client (answer.Bytes [] rounds) ∷ later)) where
  abbrev after_append : Machine
  after_append = after a.answered (Return client (answer.At x))

  b : Exchange after_append n client (call.Read fd x (length bytes)) (answer.Bytes [] rounds) later
  b = exchange after_append n client (call.Read fd x (length bytes)) (answer.Bytes [] rounds) later tt a.then

  reached_answer : IsReached config a.answered
  reached_answer = leads_on (new_machine config) m a.answered reached (answered_way m n client (call.Append fd bytes) (answer.At x) _ a)

  answers : Allows a.answered (Return client (answer.At x))
  answers = answers_now m n client (call.Append fd bytes) (answer.At x) _ a

  known : Known a.answered
  known = known_when_reached config a.answered reached_answer

  append_asked : (a.inside).call.asked ≡ asked_now a.at client (call.Append fd bytes)
  append_asked = (a.inside).asked_is

  append_done : IsDone a.answered client (a.inside).call (call.Append fd bytes) (answer.At x)
  append_done = subst (λ c. IsDone a.answered client (a.inside).call c (answer.At x)) (ap (λ (s : Asked). s.call) append_asked) a.may

  abbrev file : ℕ
  file = append_done.0

  it : AnsweredAppend config a.answered client file bytes x
  it = answered config a.answered client file fd bytes x reached_answer
      ((a.inside).call, (a.inside).open_now, append_done.1, ap (λ (s : Asked). s.call) append_asked, a.may)

  to_read : LeadsTo a.answered b.answered
  to_read = leads_on a.answered after_append b.answered (leads_by a.answered (Return client (answer.At x)) answers) (answered_way after_append n client (call.Read fd x (length bytes)) (answer.Bytes [] rounds) later b)

  read_asked : (b.inside).call.asked ≡ asked_now b.at client (call.Read fd x (length bytes))
  read_asked = (b.inside).asked_is

  read_done : IsDone b.answered client (b.inside).call (call.Read fd x (length bytes)) (answer.Bytes [] rounds)
  read_done = subst (λ c. IsDone b.answered client (b.inside).call c (answer.Bytes [] rounds)) (ap (λ (s : Asked). s.call) read_asked) b.may

  -- both calls are on one file
  append_file : ((a.at).clients client).descriptors fd.0 ≡ Some file
  append_file = ap (λ (s : Asked). s.file) (sym append_asked) ∙ append_done.1

  read_file : ((b.at).clients client).descriptors fd.0 ≡ Some read_done.0
  read_file = ap (λ (s : Asked). s.file) (sym read_asked) ∙ read_done.1

  to_call : LeadsTo a.at b.at
  to_call = leads_on a.at a.answered b.at
      (leads_on a.at (after a.at a.action) a.answered (leads_by a.at a.action a.allowed) (leads _ a.answered [] (a.inside).since))
      (leads_on a.answered after_append b.at (leads_by a.answered (Return client (answer.At x)) answers) (leads after_append b.at [] b.before))

  same_file : file ≡ read_done.0
  same_file =
      let first : Known a.at = known_when_reached config a.at (leads_on (new_machine config) m a.at reached (leads m a.at [] a.before)) in
      let counted : fd.0 ≤ ((a.at).clients client).fd_count = ⊎_elim
      (λ late. absurd (none-some _ (sym ((first.clients client).no_more_descriptors fd.0 late) ∙ append_file)))
      (λ l. l) (cases_lt ((a.at).clients client).fd_count fd.0) in
      from_some (sym append_file ∙ ((grows_to a.at b.at to_call first).clients client).descriptors fd.0 read_done.0 counted read_file)

  -- where the record lies
  abbrev size : ℕ
  size = chunk_size a.answered file

  size_is : (k : Machine) → LeadsTo a.answered k → chunk_size k file ≡ size
  size_is k way = ap (λ (shape : Shape). shape.chunk) (shapes_stay config a.answered k file reached_answer way (made_by_count a.answered file it.index known it.has_chunk))

  index_is : (k : Machine) → LeadsTo a.answered k → x / chunk_size k file ≡ it.index
  index_is k way =
      let small : it.offset < size = let room : it.offset + length bytes ≤ size = it.room in omega arith in
      ap (λ s. x / s) (size_is k way) ∙ ap (λ y. y / size) it.is ∙ div-mul-add it.index size it.offset small

  -- what a look of the read gives isn't empty
  look_gives : (k : Machine) (c : OpenCall) (index least last : ℕ) (chosen : List Entry) → LeadsTo after_append k → c.asked ≡ asked_now b.at client (call.Read fd x (length bytes))
      → index ≡ it.index → IsLook k client file index least last chosen → 0 < length (read_slice (chunk_size k file) index c.asked.call chosen)
  look_gives k c index least last chosen way asked same look =
      let here : IsLook k client file it.index least last chosen = subst (λ i. IsLook k client file i least last chosen) same look in
      let own : IsOwnSuccess a.answered client file it.index it.entry =
      (it.current, it.open_now, it.there, it.noted, it.note_is, it.success) in
      let there : Contains chosen it.entry = own_successes_are_read config a.answered k client file it.index it.entry (answer.At x) least last chosen reached_answer own answers way here in
      let whole : LeadsTo a.answered k = leads_on a.answered after_append k (leads_by a.answered (Return client (answer.At x)) answers) way in
      let far : end_of (it.entry).mutation ≤ image_length (mutations_of chosen) = reaches_end there.0 chosen it.entry there.1 there.2 in
      let end_is : end_of (it.entry).mutation ≡ it.offset + length bytes = ap end_of it.what in
      let enough : 0 < min (part_length size x (length bytes) it.index) (image_length (mutations_of chosen) - part_start size x it.index) =
      part_bytes_there size it.index it.offset (length bytes) x _ it.is it.room some (omega (arith, far, end_is)) in
      let count : length (image_slice (mutations_of chosen) (part_start size x it.index) (part_length size x (length bytes) it.index))
      ≡ min (part_length size x (length bytes) it.index) (image_length (mutations_of chosen) - part_start size x it.index) = length_from (mutations_of chosen) _ _ in
      let given : 0 < length (read_slice size it.index (call.Read fd x (length bytes)) chosen) = omega (arith, enough, count) in
      subst (λ s. 0 < length (read_slice s index c.asked.call chosen)) (sym (size_is k whole))
      (subst (λ i. 0 < length (read_slice size i c.asked.call chosen)) (sym same)
      (subst (λ (w : Asked). 0 < length (read_slice size it.index w.call chosen)) (sym asked) given))

  abbrev start : Machine
  start = after b.at b.action

  to_start : LeadsTo after_append start
  to_start = leads_on after_append b.at start (leads after_append b.at [] b.before) (leads_by b.at b.action b.allowed)

  asked_file_is : (c : OpenCall) (f : ℕ) → c.asked ≡ asked_now b.at client (call.Read fd x (length bytes)) → c.asked.file ≡ Some f → f ≡ file
  asked_file_is c f asked on = from_some (sym on ∙ ap (λ (s : Asked). s.file) asked ∙ read_file) ∙ sym same_file

  -- no piece of the read is empty
  piece_gives : (piece : Piece) → WasRead start client (asked_now b.at client (call.Read fd x (length bytes))) piece → piece.index ≡ it.index → 0 < length piece.bytes
  piece_gives piece read same = by_kind read.5
    where
      by_kind : IsPieceOf read.0 client read.2 piece → 0 < length piece.bytes
      by_kind (by_look f index least last chosen may is) =
          let f_is : f ≡ file = asked_file_is read.2 f read.4 may.0 in
          let index_same : index ≡ it.index = ap (λ (p : Piece). p.index) (sym is) ∙ same in
          let look : IsLook read.0 client file index least last chosen = subst (λ g. IsLook read.0 client g index least last chosen) f_is may.2 in
          subst (λ (l : List ℕ). 0 < length l) (ap (λ (p : Piece). p.bytes) (sym is))
          (subst (λ g. 0 < length (read_slice (chunk_size read.0 g) index read.2.asked.call chosen)) (sym f_is)
          (look_gives read.0 read.2 index least last chosen (leads_on after_append start read.0 to_start (leads start read.0 [] read.1)) read.4 index_same look))
      by_kind (by_none index past is) =
          let told : WasTold start client (asked_now b.at client (call.Read fd x (length bytes))) (NoSuchChunk index) =
          contained (WasTold start client (asked_now b.at client (call.Read fd x (length bytes)))) _ (NoSuchChunk index) read.6 past in
          let f_is : told.4 ≡ file = asked_file_is told.2 told.4 told.3 (told.6).0 in
          let at_index : told.5 ≡ it.index = sym (offered_index told.0 told.4 index told.5 told.7) ∙ ap (λ (p : Piece). p.index) (sym is) ∙ same in
          let way : LeadsTo a.answered told.0 = leads_on a.answered after_append told.0 (leads_by a.answered (Return client (answer.At x)) answers)
          (leads_on after_append start told.0 to_start (leads start told.0 [] told.1)) in
          let more : chunk_count a.answered file ≤ chunk_count told.0 file = ((grows_to a.answered told.0 way known).files file).count in
          let there : it.index < chunk_count a.answered file = it.has_chunk in
          absurd (offered_there told.0 file index it.index (omega arith)
          (subst (λ j. NoSuchChunk index ≡ offer_of told.0 file j) at_index (subst (λ g. NoSuchChunk index ≡ offer_of told.0 g told.5) f_is told.7)))

  no_pieces : (pieces : List Piece) → ArePieces size x (length bytes) (b.inside).call.pieces it.index pieces → [] ≡ flat_map (λ piece. piece.bytes) pieces → ⊥
  no_pieces [] are none = true≢false (sym (part_there size it.index it.offset (length bytes) x it.is it.room some) ∙ are)
  no_pieces (piece ∷ rest) are none =
      let read : WasRead start client (asked_now b.at client (call.Read fd x (length bytes))) piece =
      contained (WasRead start client (asked_now b.at client (call.Read fd x (length bytes)))) (b.inside).call.pieces piece (b.inside).pieces are.1 in
      let given : 0 < length piece.bytes = piece_gives piece read are.2 in
      let empty : length piece.bytes ≡ 0 = empty_front piece.bytes (flat_map (λ p. p.bytes) rest) none in
      omega (arith, given, empty)

  stale : ⊥
  stale =
      let pieces : List Piece = read_done.2 in
      let are : ArePieces size x (length bytes) (b.inside).call.pieces it.index pieces =
      subst (λ i. ArePieces size x (length bytes) (b.inside).call.pieces i pieces) (index_is b.answered to_read)
      (subst (λ s. ArePieces s x (length bytes) (b.inside).call.pieces (x / chunk_size b.answered file) pieces) (size_is b.answered to_read)
      (subst (λ f. ArePieces (chunk_size b.answered f) x (length bytes) (b.inside).call.pieces (x / chunk_size b.answered f) pieces) (sym same_file) read_done.3)) in
      no_pieces pieces are read_done.4

pub no_stale_read : NoStaleRead
no_stale_read config before later client fd bytes rounds x some run =
    let cut : Split (new_machine config) run.0 before _ = split_shows before _ run.0 _ (shows_run config _ run) in
    stale config cut.at run.0 client fd bytes rounds x later some (leads _ cut.at before cut.front)
    (exchange cut.at run.0 client (call.Append fd bytes) (answer.At x) _ tt cut.back)
