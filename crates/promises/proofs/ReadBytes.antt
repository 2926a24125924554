-- Each byte that a read was answered is zero, or one that a call put there.
use Rattle.std.proofs.Common.{◌≡◌, ℕ, zero, suc, ◌+◌, ◌-◌, ◌*◌, ◌/◌, ◌<◌, ◌≤◌, ◌⊎◌, min, Bool, true, false, cond, List, [], ◌∷◌, ◌++◌, append_assoc, length, get_or, take, drop, Some, None, refl, sym, ◌∙◌, ap, subst, inl, inr, arith, length-take, length-drop}
use Rattle.std.specs.Prelude.{Contains, slice_get}
use Rattle.std.specs.List.{AllByRecursion}
use Rattle.std.proofs.lemmas.Bool.{cases_lt, and_parts, ltb-true, leb-true}
use Rattle.std.proofs.lemmas.Option.{none-some, slice_get-get_or, get_or_from_slice_get, slice_get_within}
use Rattle.std.proofs.lemmas.List.{get_or-take, get_or-drop}
use Rattle.std.proofs.Math.Nat.{div-mul-le_self, lt-div-mul-add}
use Rattle.gfs_types.specs.declared.call.Call.{Call}
use Rattle.gfs_types.specs.declared.call.Call.TheVariants as call
use Rattle.gfs_types.specs.declared.answer.Answer.TheVariants as answer
use Rattle.gfs_types.specs.declared.ids.Fd.{Fd}
use Rattle.gfs_types.specs.declared.config.Config.{Config}
use Rattle.gfs_types.specs.declared.mutation.Mutation.{Mutation}
use Rattle.gfs_types.specs.declared.mutation.Mutation.TheVariants.{Write, Append, Pad}
use Rattle.gfs_types.specs.Mutations.{covers, byte_of}
use Rattle.gfs_types.specs.Image.{newer, last_that, byte_at, image_slice}
use Rattle.relaxed_file.specs.Order.{Entry, IsSelection, mutations_of}
use Rattle.relaxed_file.specs.Parts.{part_start, part_end, part_length, part_bytes}
use Rattle.relaxed_file.specs.Machine.{Machine, new_machine, Asked, OpenCall, Piece, chunk_at, chunk_size, IsOpen}
use Rattle.relaxed_file.specs.Reads.{read_slice}
use Rattle.relaxed_file.specs.Answers.{IsDone, ArePieces}
use Rattle.relaxed_file.specs.Sources.{sources_of}
use Rattle.relaxed_file.specs.Run.{Action, Return, Visible, Called, visible, after_all, IsLawful, IsRunTo}
use Rattle.relaxed_file.specs.RunLaws.{IsAskedOf, ComesFrom}
use Rattle.relaxed_file.proofs.Tables.{from_some, contained, all_more}
use Rattle.relaxed_file.proofs.GoingOn.{visible-append}
use Rattle.relaxed_file.proofs.CallSteps.{IsPieceOf, by_look, by_none}
use Rattle.relaxed_file.proofs.Sources.{no_other_byte}
use Rattle.promises.specs.Answered.{waiting_call, WasAnswered, IsOf, fd_of}
use Rattle.promises.specs.Promises.{InEachRun, Puts, WasPut, NoOtherByteIsRead}
use Rattle.promises.proofs.Lists.{parts_of, in_front}
use Rattle.promises.proofs.Descriptors.{was_called, was_opened}
use Rattle.promises.proofs.AnswerMoments.{AnsweredIn, at, then, its_file, lawful_parts, descriptors_are_of_one_file}
use Rattle.promises.proofs.SincePieces.{ReadSince, pieces_since}
use Rattle.promises.proofs.PieceBytes.{IsFair, IsFound, begin, within, find, bytes_of}
use Rattle.promises.proofs.ReadPieces.{leads_to, fair_piece, slice_from, call_size, leads_from}

-- one element of a list by its place
one_at : (xs : List ℕ) (k b : ℕ) → slice_get xs k ≡ Some b → take 1 (drop k xs) ≡ b ∷ []
one_at [] k b is = absurd (none-some b is)
one_at (x ∷ xs) zero b is = λ i. from_some is i ∷ []
one_at (x ∷ xs) (suc k) b is = one_at xs k b is

-- what is found passes the test
passes : {A : Type 0} (test : A → Bool) (b : Bool) (x y : A) → test x ≡ b → cond b (Some x) None ≡ Some y → test y ≡ true
passes test true x y same is = ap test (sym (from_some is)) ∙ same
passes test false x y same is = absurd (none-some y is)

pub last_passes : {A : Type 0} (test : A → Bool) (xs : List A) (y : A) → last_that test xs ≡ Some y → test y ≡ true
last_passes test [] y is = absurd (none-some y is)
last_passes test (x ∷ xs) y is =
    elim (last_that test xs) as (λ o. last_that test xs ≡ o → newer (cond (test x) (Some x) None) o ≡ Some y → test y ≡ true) [
      | None ↦ λ none h. passes test (test x) x y refl h
      | Some z ↦ λ some h. last_passes test xs y (some ∙ h)
    ] refl is

-- an element of a part of a list
taken_at : (n d j : ℕ) (bytes : List ℕ) → j < length (take n (drop d bytes)) → slice_get bytes (d + j) ≡ Some (get_or (take n (drop d bytes)) j 0)
taken_at n d j bytes l =
    let long : length (take n (drop d bytes)) ≡ min n (length (drop d bytes)) = length-take n (drop d bytes) in
    let left : length (drop d bytes) ≡ length bytes - d = length-drop d bytes in
    let below : d + j < length bytes = omega (arith, l, long, left) in
    slice_get-get_or bytes (d + j) 0 below ∙ ap Some (sym (get_or-take n (drop d bytes) j 0 (omega (arith, l, long)) ∙ get_or-drop d bytes j 0))

contains_byte : (bytes : List ℕ) (k b : ℕ) → slice_get bytes k ≡ Some b → Contains bytes b
contains_byte bytes k b is = (k, slice_get_within bytes k b is, get_or_from_slice_get bytes k b b is)

abbrev PutHere : Call → ℕ → ℕ → Type 0
PutHere c place byte = (fd : Fd) × (fd_of c ≡ Some fd) × Puts c place byte

-- what a mutation has at a place, its call put there, but for the zeros of a pad
put_there : (size index o : ℕ) (c : Call) (mutation : Mutation) → IsAskedOf size index c mutation → covers o mutation ≡ true
    → (byte_of o mutation ≡ 0) ⊎ PutHere c (index * size + o) (byte_of o mutation)
put_there size index o (call.Write fd offset bytes) (Write start content) asked covered =
    let both = and_parts _ _ covered in
    let from : start ≤ o = leb-true _ _ both.0 in
    let until : o < start + length content = ltb-true _ _ both.1 in
    let start_is : start ≡ offset - index * size = asked.0 in
    let here : o - start < length (part_bytes size offset bytes index) = subst (λ l. o - start < length l) asked.1 (omega (arith, from, until)) in
    let place : (index * size - offset) + (o - start) ≡ (index * size + o) - offset = omega (arith, from, start_is) in
    let byte : slice_get bytes ((index * size - offset) + (o - start)) ≡ Some (get_or content (o - start) 0) =
    taken_at (part_length size offset (length bytes) index) (index * size - offset) (o - start) bytes here ∙ ap (λ l. Some (get_or l (o - start) 0)) (sym asked.1) in
    inr (fd, refl, (omega (arith, from, start_is), ap (slice_get bytes) (sym place) ∙ byte))
put_there size index o (call.Append fd bytes) (Append start content) asked covered =
    let both = and_parts _ _ covered in
    let from : start ≤ o = leb-true _ _ both.0 in
    let until : o < start + length content = ltb-true _ _ both.1 in
    let there : slice_get content (o - start) ≡ Some (get_or content (o - start) 0) = slice_get-get_or content (o - start) 0 (omega (arith, from, until)) in
    inr (fd, refl, subst (λ l. Contains l (get_or content (o - start) 0)) asked.0 (contains_byte content (o - start) _ there))
put_there size index o c (Pad start end) asked covered = inl refl
put_there size index o c mutation asked covered = absurd asked

-- chunks without a place give no byte
none_of_zero : (size offset count : ℕ) (found pieces : List Piece) (index : ℕ) → (0 < size → ⊥) → ArePieces size offset count found index pieces → length (bytes_of pieces) ≡ 0
none_of_zero size offset count found [] index none are = refl
none_of_zero size offset count found (piece ∷ rest) index none are =
    let has : part_start size offset index < part_end size offset count index = ltb-true _ _ are.0 in absurd (none (omega (arith, has)))

module _ (config : Config) (trace : List Visible) (m : Machine) (run : IsRunTo config trace m) (client file : ℕ) (fd : Fd) (offset count : ℕ) (found rounds : List ℕ)
    (w : WasAnswered trace client (call.Read fd offset count) (answer.Bytes found rounds)) (w_of : IsOf run.0 client fd file) (place byte : ℕ) (is_read : slice_get found place ≡ Some byte) where
  abbrev first_machine : Machine
  first_machine = new_machine config

  abbrev at_read : AnsweredIn (new_machine config) run.0 client (call.Read fd offset count) (answer.Bytes found rounds) w.before w.rest
  at_read = at config trace m run client (call.Read fd offset count) (answer.Bytes found rounds) tt w

  abbrev then_read : Machine
  then_read = then config trace m run client (call.Read fd offset count) (answer.Bytes found rounds) tt w

  abbrev done : IsDone then_read client at_read.current (call.Read fd offset count) (answer.Bytes found rounds)
  done = subst (λ c. IsDone then_read client at_read.current c (answer.Bytes found rounds)) at_read.call_is at_read.may

  file_is : done.0 ≡ file
  file_is = descriptors_are_of_one_file config trace m run client fd done.0 file (its_file config trace m run client _ (answer.Bytes found rounds) tt w fd done.0 refl done.1) w_of

  abbrev size : ℕ
  size = chunk_size then_read file

  pieces_are : ArePieces size offset count (at_read.current).pieces (offset / size) done.2
  pieces_are = subst (λ (f : ℕ). ArePieces (chunk_size then_read f) offset count (at_read.current).pieces (offset / chunk_size then_read f) done.2) file_is done.3

  abbrev Since : Piece → Type 0
  Since = ReadSince first_machine at_read.front client (at_read.current).asked

  since : AllByRecursion Since (at_read.current).pieces
  since = pieces_since first_machine at_read.front client at_read.lawful (call.Read fd offset count) at_read.current (ap (waiting_call client None) at_read.seen ∙ w.waited) at_read.open_now

  -- the file of the open call keeps its size
  sized : (d left : List Action) → at_read.front ≡ d ++ left → (c : OpenCall) → IsOpen (after_all first_machine d) client c → c.asked ≡ (at_read.current).asked → chunk_size (after_all first_machine d) file ≡ size
  sized d left is c is_open same =
      sym (call_size config (after_all first_machine d) then_read client c file (leads_to first_machine at_read.front d left at_read.lawful is) is_open (ap (λ (a : Asked). a.file) same ∙ done.1 ∙ ap Some file_is)
      (leads_from first_machine then_read at_read.front d left at_read.lawful is refl))

  fair_since : (piece : Piece) → Since piece → IsFair size offset count piece
  fair_since piece s =
      fair_piece size offset count (after_all first_machine s.0) client s.3 piece fd file (ap (λ (a : Asked). a.file) s.5 ∙ done.1 ∙ ap Some file_is) (sized s.0 s.1 s.2 s.3 s.4 s.5) (ap (λ (a : Asked). a.call) s.5 ∙ at_read.call_is) s.6

  fair : AllByRecursion (IsFair size offset count) (at_read.current).pieces
  fair = all_more (at_read.current).pieces fair_since since

  abbrev first : ℕ
  first = offset / size

  abbrev x : ℕ
  x = offset + place

  abbrev t : ℕ
  t = x / size

  abbrev o : ℕ
  o = x - t * size

  x_is : x ≡ t * size + o
  x_is = let l : t * size ≤ x = div-mul-le_self x size in omega (arith, l)

  begin_is : begin size offset first ≡ offset
  begin_is = let l : first * size ≤ offset = div-mul-le_self offset size in omega (arith, l)

  inside : place < length (bytes_of done.2)
  inside = subst (λ l. place < length l) done.4 (slice_get_within found place byte is_read)

  abbrev Comes : Type 0
  Comes = (byte ≡ 0) ⊎ WasPut config run.0 w.before file x byte

  module _ (some : 0 < size) where
    room : o + 1 ≤ size
    room = let l : x < t * size + size = lt-div-mul-add some in omega (arith, l, x_is)

    far : x + 1 ≤ offset + count
    far =
        let most : length (bytes_of done.2) ≤ (offset + count) - begin size offset first = within size offset count _ fair done.2 first pieces_are in
        omega (arith, most, begin_is, inside)

    piece_at : IsFound size offset count (at_read.current).pieces done.2 first t o 1 (x - begin size offset first)
    piece_at = find size offset count _ fair t o 1 x (omega arith) room x_is far done.2 first pieces_are (omega (arith, begin_is)) (omega (arith, begin_is, inside))

    byte_there : take 1 (drop (o - part_start size offset t) (piece_at.piece).bytes) ≡ byte ∷ []
    byte_there =
        let skip : x - begin size offset first ≡ place = omega (arith, begin_is) in
        sym piece_at.bytes_are ∙ ap (λ k. take 1 (drop k (bytes_of done.2))) skip ∙ ap (λ l. take 1 (drop place l)) (sym done.4) ∙ one_at found place byte is_read

    -- by what the machine says of a place of a selection
    by_entry : (d left : List Action) → at_read.front ≡ d ++ left → (chosen order : List Entry) → byte ≡ byte_at (mutations_of chosen) o
        → ComesFrom (after_all first_machine d) size (sources_of config d file) t order chosen o → Comes
    by_entry d left is chosen order byte_is (inl none) = inl (byte_is ∙ none.1)
    by_entry d left is chosen order byte_is (inr (e, there, cover, at_place, put)) =
        let parts = lawful_parts first_machine d left (subst (IsLawful first_machine) is at_read.lawful) in
        let asked : Asked = put.0 in
        let same : byte ≡ byte_of o e.mutation = byte_is ∙ at_place in
        let covered : covers o e.mutation ≡ true = last_passes (λ f. covers o f.mutation) chosen e cover in
        elim (put_there size t o asked.call e.mutation put.5 covered) [
          | inl zeros ↦ inl (same ∙ zeros)
          | inr puts ↦ inr (record {
            client = e.call.client;
            asked = asked.call;
            fd = puts.0;
            from = put.2;
            so_far = d;
            left = left ++ Return client (answer.Bytes found rounds) ∷ at_read.back;
            called = subst (λ l. Contains l (Called e.call.client asked.call)) (sym (visible-append d left) ∙ ap visible (sym is) ∙ at_read.seen)
                (in_front (visible d) (visible left) _ (was_called config d parts.0 e.call.client e.call.number asked put.1));
            on = puts.1;
            goes = at_read.is ∙ ap (λ l. l ++ Return client (answer.Bytes found rounds) ∷ at_read.back) is ∙ append_assoc d left (Return client (answer.Bytes found rounds) ∷ at_read.back);
            is_of = was_opened config d parts.0 e.call.client e.call.number asked put.1 puts.0 put.2 puts.1 put.3;
            source = put.4;
            puts = subst (λ b. Puts asked.call x b) (sym same) (subst (λ y. Puts asked.call y (byte_of o e.mutation)) (sym x_is) puts.2);
          })
        ]

    by_piece : (d left : List Action) → at_read.front ≡ d ++ left → (c : OpenCall) → IsOpen (after_all first_machine d) client c → c.asked ≡ (at_read.current).asked → IsPieceOf (after_all first_machine d) client c piece_at.piece → Comes
    by_piece d left is c is_open same (by_none i gone is_piece) = absurd (none-some piece_at.named (ap (λ (p : Piece). p.round) (sym is_piece) ∙ piece_at.round_is))
    by_piece d left is c is_open same (by_look f i least last chosen may is_piece) =
        let index_is : i ≡ t = ap (λ (p : Piece). p.index) (sym is_piece) ∙ piece_at.index_is in
        let file_same : f ≡ file = from_some (sym may.0 ∙ ap (λ (a : Asked). a.file) same ∙ done.1) ∙ file_is in
        let call_is : c.asked.call ≡ call.Read fd offset count = ap (λ (a : Asked). a.call) same ∙ at_read.call_is in
        let size_here : chunk_size (after_all first_machine d) file ≡ size = sized d left is c is_open same in
        let slice_size : chunk_size (after_all first_machine d) f ≡ size = ap (λ (g : ℕ). chunk_size (after_all first_machine d) g) file_same ∙ size_here in
        let given : (piece_at.piece).bytes ≡ image_slice (mutations_of chosen) (part_start size offset t) (part_length size offset count t) =
        ap (λ (p : Piece). p.bytes) is_piece ∙ (λ j. read_slice (slice_size j) (index_is j) (call_is j) chosen) in
        let slice : take 1 (drop (o - part_start size offset t) (piece_at.piece).bytes) ≡ byte_at (mutations_of chosen) o ∷ [] =
        ap (λ l. take 1 (drop (o - part_start size offset t) l)) given
        ∙ slice_from o (part_start size offset t) (part_length size offset count t) 1 (mutations_of chosen) piece_at.starts
        (subst (λ l. (o - part_start size offset t) + 1 ≤ length l) given piece_at.long) in
        let byte_is : byte ≡ byte_at (mutations_of chosen) o =
        (parts_of byte (byte_at (mutations_of chosen) o) [] [] (sym byte_there ∙ slice)).0 in
        let lawful = (lawful_parts first_machine d left (subst (IsLawful first_machine) is at_read.lawful)).0 in
        by_entry d left is chosen (chunk_at (after_all first_machine d) file t).order byte_is
        (subst (λ (n : ℕ). ComesFrom (after_all first_machine d) n (sources_of config d file) t (chunk_at (after_all first_machine d) file t).order chosen o) size_here
        (no_other_byte config d (after_all first_machine d) lawful refl file t last chosen
        (subst (λ g. IsSelection last (chunk_at (after_all first_machine d) g t).order chosen) file_same (subst (λ j. IsSelection last (chunk_at (after_all first_machine d) f j).order chosen) index_is (may.2).3)) o))

    comes : Comes
    comes = let s : Since piece_at.piece = contained Since (at_read.current).pieces piece_at.piece since piece_at.there in by_piece s.0 s.1 s.2 s.3 s.4 s.5 s.6

  answered : Comes
  answered = elim (cases_lt 0 size) [
    | inl some ↦ comes some
    | inr none ↦ let no_byte : length (bytes_of done.2) ≡ 0 = none_of_zero size offset count _ done.2 first (λ pos. omega (arith, none, pos)) pieces_are in absurd (omega (arith, no_byte, inside))
  ]

pub no_other_byte_is_read : InEachRun NoOtherByteIsRead
no_other_byte_is_read config trace m run client file fd offset count found rounds w w_of place byte is_read = answered config trace m run client file fd offset count found rounds w w_of place byte is_read
