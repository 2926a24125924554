-- What a read answers is its pieces together.
use Rattle.std.proofs.Common.{◌≡◌, ℕ, zero, suc, Bool, true, false, cond, List, [], ◌∷◌, ◌++◌, length, take, drop, Option, Some, None, refl, sym, ap, subst, ◌∙◌, arith}
use Rattle.std.specs.Prelude.{IsTrue, Contains, flat_map, filter_map, if◌then◌else◌, ◌&&◌, ◌==◌, nat_lt, MatchBool}
use Rattle.std.specs.Str.{bytes_eq}
use Rattle.std.specs.List.{list_any, cons_option}
use Rattle.std.proofs.lemmas.Bool.{and_parts, eqb-true}
use Rattle.std.proofs.lemmas.List.{take-append-drop, take_all, append-nil}
use Rattle.std.proofs.lemmas.List.Concat.{flat_map-cons}
use Rattle.std.proofs.lemmas.Slice.Eq.{bytes_eq-Decides}
use Rattle.relaxed_file.specs.Parts.{has_part, part_length}
use Rattle.relaxed_file.specs.Machine.{Piece}
use Rattle.relaxed_file.specs.Answers.{ArePieces}
use Rattle.protocol_invariant.specs.Allowed.{has_first_round, after_round, is_read_as}
use Rattle.protocol_allowed.proofs.Tests.{found_in, all_four}

-- some pieces of a read from a chunk on make up these bytes and rounds
abbrev pub AreRead : ℕ → ℕ → ℕ → List Piece → ℕ → List ℕ → List ℕ → Type 0
AreRead size offset count found index bytes rounds =
    (pieces : List Piece) × ArePieces size offset count found index pieces × (bytes ≡ flat_map (λ piece. piece.bytes) pieces) × (rounds ≡ filter_map (λ piece. piece.round) pieces)

pub none_left : {A : Type 0} (xs : List A) → IsTrue (length xs == 0) → xs ≡ []
none_left [] h = refl
none_left (x ∷ xs) h = absurd (let l : suc (length xs) ≡ 0 = eqb-true (suc (length xs)) 0 h in omega arith)

-- the rounds are that of the first piece, if it has one, and the rest
rounds_are : (o : Option ℕ) (rounds rest : List ℕ) → IsTrue (has_first_round o rounds) → after_round o rounds ≡ rest → rounds ≡ cons_option o rest
rounds_are None rounds rest h same = same
rounds_are (Some round) [] rest h same = absurd (let both : false ≡ true = h in cc)
rounds_are (Some round) (first ∷ more) rest h same = let one : round ≡ first = eqb-true round first h in let less : more ≡ rest = same in cc

-- the test of one piece, from what is asked of the rest
abbrev pub is_first : ℕ → ℕ → ℕ → ℕ → List ℕ → List ℕ → Bool → Piece → Bool
is_first size offset count index bytes rounds more piece =
    (piece.index == index) && bytes_eq (take (length piece.bytes) bytes) piece.bytes && has_first_round piece.round rounds
    && (if nat_lt (length piece.bytes) (part_length size offset count index)
    then (length bytes == length piece.bytes) && (length (after_round piece.round rounds) == 0)
    else more)

module _ (size offset count : ℕ) (found : List Piece) where
  module _ (index : ℕ) (bytes rounds : List ℕ) (part : IsTrue (has_part size offset count index)) (piece : Piece) (there : Contains found piece)
      (place : piece.index ≡ index) (same : take (length piece.bytes) bytes ≡ piece.bytes) (first : IsTrue (has_first_round piece.round rounds)) where
    short : nat_lt (length piece.bytes) (part_length size offset count index) ≡ true → IsTrue ((length bytes == length piece.bytes) && (length (after_round piece.round rounds) == 0))
        → AreRead size offset count found index bytes rounds
    short less g =
        let ends : ((length bytes == length piece.bytes) ≡ true) × ((length (after_round piece.round rounds) == 0) ≡ true) = and_parts _ _ g in (
          piece ∷ [],
          (part, there, place, subst (λ b. MatchBool b (◌≡◌ {A = List Piece} [] []) (ArePieces size offset count found (suc index) [])) (sym less) refl),
          sym (let l : length bytes ≡ length piece.bytes = eqb-true _ _ ends.0 in take_all (length piece.bytes) bytes (omega arith)) ∙ same ∙ sym (flat_map-cons (λ (p : Piece). p.bytes) piece [] ∙ append-nil piece.bytes),
          rounds_are piece.round rounds [] first (none_left (after_round piece.round rounds) ends.1),
        )

    whole : nat_lt (length piece.bytes) (part_length size offset count index) ≡ false → AreRead size offset count found (suc index) (drop (length piece.bytes) bytes) (after_round piece.round rounds)
        → AreRead size offset count found index bytes rounds
    whole less rest = (
      piece ∷ rest.0,
      (part, there, place, subst (λ b. MatchBool b (rest.0 ≡ []) (ArePieces size offset count found (suc index) rest.0)) (sym less) rest.1),
      sym (take-append-drop (length piece.bytes) bytes) ∙ ap (λ xs. xs ++ drop (length piece.bytes) bytes) same ∙ ap (λ xs. piece.bytes ++ xs) rest.2 ∙ sym (flat_map-cons (λ (p : Piece). p.bytes) piece rest.0),
      rounds_are piece.round rounds (filter_map (λ (p : Piece). p.round) rest.0) first rest.3,
    )

    by_length : (more b : Bool) → (IsTrue more → AreRead size offset count found (suc index) (drop (length piece.bytes) bytes) (after_round piece.round rounds))
        → nat_lt (length piece.bytes) (part_length size offset count index) ≡ b
        → IsTrue (cond b ((length bytes == length piece.bytes) && (length (after_round piece.round rounds) == 0)) more)
        → AreRead size offset count found index bytes rounds
    by_length more true later less g = short less g
    by_length more false later less g = whole less (later g)

  by_piece : (index : ℕ) (bytes rounds : List ℕ) → IsTrue (has_part size offset count index) → (piece : Piece) → Contains found piece
      → (more : Bool) → (IsTrue more → AreRead size offset count found (suc index) (drop (length piece.bytes) bytes) (after_round piece.round rounds))
      → IsTrue (is_first size offset count index bytes rounds more piece) → AreRead size offset count found index bytes rounds
  by_piece index bytes rounds part piece there more later h =
      let parts : ((piece.index == index) ≡ true) × (bytes_eq (take (length piece.bytes) bytes) piece.bytes ≡ true) × (has_first_round piece.round rounds ≡ true) × _ =
      all_four (piece.index == index) (bytes_eq (take (length piece.bytes) bytes) piece.bytes) (has_first_round piece.round rounds) _ h in
      by_length index bytes rounds part piece there (eqb-true piece.index index parts.0) ((bytes_eq-Decides (take (length piece.bytes) bytes) piece.bytes).0 parts.1) parts.2
      more (nat_lt (length piece.bytes) (part_length size offset count index)) later refl parts.3

  by_part : (index : ℕ) (bytes rounds : List ℕ) (more : Piece → Bool)
      → ((piece : Piece) → IsTrue (more piece) → AreRead size offset count found (suc index) (drop (length piece.bytes) bytes) (after_round piece.round rounds))
      → (b : Bool) → has_part size offset count index ≡ b
      → IsTrue (cond b (list_any (λ piece. is_first size offset count index bytes rounds (more piece) piece) found) ((length bytes == 0) && (length rounds == 0)))
      → AreRead size offset count found index bytes rounds
  by_part index bytes rounds more later true part g =
      let at : (piece : Piece) × Contains found piece × IsTrue (is_first size offset count index bytes rounds (more piece) piece) = found_in (λ piece. is_first size offset count index bytes rounds (more piece) piece) found g in
      by_piece index bytes rounds part at.0 at.1 (more at.0) (later at.0) at.2
  by_part index bytes rounds more later false part g =
      let both : ((length bytes == 0) ≡ true) × ((length rounds == 0) ≡ true) = and_parts _ _ g in
      ([], part, none_left bytes both.0, none_left rounds both.1)

  pub are_read : (fuel index : ℕ) (bytes rounds : List ℕ) → IsTrue (is_read_as fuel size offset count found index bytes rounds) → AreRead size offset count found index bytes rounds
  are_read zero index bytes rounds h = absurd (let both : false ≡ true = h in cc)
  are_read (suc fuel) index bytes rounds h =
      by_part index bytes rounds (λ piece. is_read_as fuel size offset count found (suc index) (drop (length piece.bytes) bytes) (after_round piece.round rounds))
      (λ piece. are_read fuel (suc index) (drop (length piece.bytes) bytes) (after_round piece.round rounds)) (has_part size offset count index) refl h
