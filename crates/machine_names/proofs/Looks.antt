-- What a read of a record's range is answered begins with what it saw of the record's chunk.
use Rattle.std.proofs.Common.{◌≡◌, ℕ, ◌+◌, ◌*◌, ◌/◌, ◌<◌, ◌≤◌, List, [], ◌∷◌, ◌++◌, Some, sym, ◌∙◌, ap, subst, arith}
use Rattle.std.specs.Prelude.{flat_map, filter_map}
use Rattle.std.specs.List.{cons_option}
use Rattle.std.proofs.lemmas.Bool.{true≢false}
use Rattle.std.proofs.lemmas.Nat.{div-mul-add}
use Rattle.gfs_types.specs.declared.call.Call.TheVariants as call
use Rattle.gfs_types.specs.declared.answer.Answer.TheVariants as answer
use Rattle.gfs_types.specs.declared.ids.Fd.{Fd}
use Rattle.gfs_types.specs.declared.config.Config.{Config}
use Rattle.gfs_types.specs.declared.shape.Shape.{Shape}
use Rattle.relaxed_file.specs.Order.{Entry}
use Rattle.relaxed_file.specs.Machine.{Machine, new_machine, Asked, OpenCall, NoSuchChunk, Piece, chunk_count, chunk_size}
use Rattle.relaxed_file.specs.Reads.{offer_of, IsLook, MayLook, read_slice}
use Rattle.relaxed_file.specs.Answers.{IsDone, ArePieces}
use Rattle.relaxed_file.specs.Run.{Look, Visible, Allows, after, LeadsTo, IsReached, asked_now}
use Rattle.relaxed_file.proofs.Tables.{contained}
use Rattle.relaxed_file.proofs.Reached.{leads_on, leads_by}
use Rattle.relaxed_file.proofs.Known.{made_by_count}
use Rattle.relaxed_file.proofs.Grows.{grows_to, known_when_reached}
use Rattle.relaxed_file.proofs.ShapesKept.{shapes_stay}
use Rattle.relaxed_file.proofs.CallSteps.{IsPieceOf, by_look, by_none}
use Rattle.relaxed_file.proofs.Moments.{leads}
use Rattle.relaxed_file.proofs.InCall.{WasRead, WasTold, Exchange}
use Rattle.relaxed_file.proofs.StaleReads.{offered_there, offered_index, part_there}

-- the look behind the first piece, and the round that it names
pub record FirstLook (m : Machine) (client file index : ℕ) (fd : Fd) (x count : ℕ) (bytes rounds : List ℕ) : Type 0 where
  pub at : Machine
  pub way : LeadsTo m at
  pub least : ℕ
  pub last : ℕ
  pub chosen : List Entry
  pub look : IsLook at client file index least last chosen
  pub allowed : Allows at (Look client file index least last chosen)
  pub more_bytes : List ℕ
  pub bytes_are : bytes ≡ read_slice (chunk_size at file) index (call.Read fd x count) chosen ++ more_bytes
  pub more_rounds : List ℕ
  pub rounds_are : rounds ≡ least ∷ more_rounds

module _ (config : Config) (m n : Machine) (client : ℕ) (fd : Fd) (file index offset count x : ℕ) (bytes rounds : List ℕ) (later : List Visible) (reached : IsReached config m)
    (is : x ≡ index * chunk_size m file + offset) (room : offset + count ≤ chunk_size m file) (some : 0 < count) (has : index < chunk_count m file)
    (b : Exchange m n client (call.Read fd x count) (answer.Bytes bytes rounds) later)
    (on_file : (g : ℕ) → ((b.at).clients client).descriptors fd.0 ≡ Some g → g ≡ file) where
  abbrev asked : Asked
  asked = asked_now b.at client (call.Read fd x count)

  abbrev start : Machine
  start = after b.at b.action

  to_start : LeadsTo m start
  to_start = leads_on m b.at start (leads m b.at [] b.before) (leads_by b.at b.action b.allowed)

  asked_is : (b.inside).call.asked ≡ asked
  asked_is = (b.inside).asked_is

  done : IsDone b.answered client (b.inside).call (call.Read fd x count) (answer.Bytes bytes rounds)
  done = subst (λ c. IsDone b.answered client (b.inside).call c (answer.Bytes bytes rounds)) (ap (λ (s : Asked). s.call) asked_is) b.may

  file_of_call : (c : OpenCall) (f : ℕ) → c.asked ≡ asked → c.asked.file ≡ Some f → f ≡ file
  file_of_call c f same on = on_file f (ap (λ (s : Asked). s.file) (sym same) ∙ on)

  to_answer : LeadsTo m b.answered
  to_answer = leads_on m start b.answered to_start (leads start b.answered [] (b.inside).since)

  abbrev size : ℕ
  size = chunk_size m file

  size_is : (k : Machine) → LeadsTo m k → chunk_size k file ≡ size
  size_is k way = ap (λ (shape : Shape). shape.chunk) (shapes_stay config m k file reached way (made_by_count m file index (known_when_reached config m reached) has))

  abbrev Looked : Type 0
  Looked = FirstLook m client file index fd x count bytes rounds

  first_piece : (piece : Piece) (rest : List Piece) → WasRead start client asked piece → piece.index ≡ index
      → bytes ≡ piece.bytes ++ flat_map (λ p. p.bytes) rest → rounds ≡ cons_option piece.round (filter_map (λ p. p.round) rest) → Looked
  first_piece piece rest read same bytes_are rounds_are = by_kind read.5
    where
      by_kind : IsPieceOf read.0 client read.2 piece → Looked
      by_kind (by_look f i least last chosen may piece_is) =
          let f_is : f ≡ file = file_of_call read.2 f read.4 may.0 in
          let i_is : i ≡ index = ap (λ (p : Piece). p.index) (sym piece_is) ∙ same in
          let here : MayLook read.0 client read.2 file index least last chosen =
          subst (λ j. MayLook read.0 client read.2 file j least last chosen) i_is (subst (λ g. MayLook read.0 client read.2 g i least last chosen) f_is may) in
          record {
            at = read.0;
            way = leads_on m start read.0 to_start (leads start read.0 [] read.1);
            least = least;
            last = last;
            chosen = chosen;
            look = here.2;
            allowed = (read.2, read.3, here);
            more_bytes = flat_map (λ p. p.bytes) rest;
            bytes_are = bytes_are ∙ ap (λ (s : List ℕ). s ++ flat_map (λ p. p.bytes) rest) (
                ap (λ (p : Piece). p.bytes) piece_is
                ∙ ap (λ g. read_slice (chunk_size read.0 g) i (read.2).asked.call chosen) f_is
                ∙ ap (λ j. read_slice (chunk_size read.0 file) j (read.2).asked.call chosen) i_is
                ∙ ap (λ (a : Asked). read_slice (chunk_size read.0 file) index a.call chosen) read.4);
            more_rounds = filter_map (λ p. p.round) rest;
            rounds_are = rounds_are ∙ ap (λ (p : Piece). cons_option p.round (filter_map (λ q. q.round) rest)) piece_is;
          }
      by_kind (by_none i past piece_is) =
          let told : WasTold start client asked (NoSuchChunk i) = contained (WasTold start client asked) _ (NoSuchChunk i) read.6 past in
          let f_is : told.4 ≡ file = file_of_call told.2 told.4 told.3 (told.6).0 in
          let at_index : told.5 ≡ index = sym (offered_index told.0 told.4 i told.5 told.7) ∙ ap (λ (p : Piece). p.index) (sym piece_is) ∙ same in
          let way : LeadsTo m told.0 = leads_on m start told.0 to_start (leads start told.0 [] told.1) in
          let more : chunk_count m file ≤ chunk_count told.0 file = ((grows_to m told.0 way (known_when_reached config m reached)).files file).count in
          absurd (offered_there told.0 file i index (omega (arith, more, has))
          (subst (λ j. NoSuchChunk i ≡ offer_of told.0 file j) at_index (subst (λ g. NoSuchChunk i ≡ offer_of told.0 g told.5) f_is told.7)))

  by_pieces : (pieces : List Piece) → ArePieces size x count (b.inside).call.pieces index pieces → bytes ≡ flat_map (λ p. p.bytes) pieces → rounds ≡ filter_map (λ p. p.round) pieces → Looked
  by_pieces [] are bytes_are rounds_are = absurd (true≢false (sym (part_there size index offset count x is room some) ∙ are))
  by_pieces (piece ∷ rest) are bytes_are rounds_are =
      first_piece piece rest (contained (WasRead start client asked) (b.inside).call.pieces piece (b.inside).pieces are.1) are.2 bytes_are rounds_are

  index_is : x / chunk_size b.answered file ≡ index
  index_is =
      let small : offset < size = omega (arith, room, some) in
      ap (λ s. x / s) (size_is b.answered to_answer) ∙ ap (λ y. y / size) is ∙ div-mul-add index size offset small

  done_on : done.0 ≡ file
  done_on = file_of_call (b.inside).call done.0 asked_is done.1

  pub first_look : FirstLook m client file index fd x count bytes rounds
  first_look = by_pieces done.2
      (subst (λ i. ArePieces size x count (b.inside).call.pieces i done.2) index_is
      (subst (λ s. ArePieces s x count (b.inside).call.pieces (x / chunk_size b.answered file) done.2) (size_is b.answered to_answer)
      (subst (λ g. ArePieces (chunk_size b.answered g) x count (b.inside).call.pieces (x / chunk_size b.answered g) done.2) done_on done.3)))
      done.4 done.5
