-- The pieces of a read pass the test of what it answers.
use Rattle.std.proofs.Common.{◌≡◌, ℕ, zero, suc, ◌+◌, ◌/◌, ◌<◌, Bool, true, false, cond, List, [], ◌∷◌, length, take, drop, Option, Some, None, refl, sym, ap, subst, ◌∙◌, arith}
use Rattle.std.specs.Prelude.{IsTrue, flat_map, filter_map, ◌&&◌, ◌==◌, nat_lt, MatchBool}
use Rattle.std.specs.Str.{bytes_eq}
use Rattle.std.specs.List.{list_any, cons_option}
use Rattle.std.proofs.lemmas.Bool.{eq-eqb}
use Rattle.std.proofs.lemmas.List.{append-nil}
use Rattle.std.proofs.lemmas.List.Concat.{flat_map-cons}
use Rattle.std.proofs.lemmas.Slice.Eq.{bytes_eq-Decides}
use Rattle.std.proofs.Math.Seq.{take-append_seam, drop-append_seam}
use Rattle.relaxed_file.specs.Parts.{part_length}
use Rattle.relaxed_file.specs.Machine.{Piece}
use Rattle.relaxed_file.specs.Answers.{ArePieces}
use Rattle.protocol_invariant.specs.Allowed.{has_first_round, after_round, is_read_as}
use Rattle.protocol_allowed.proofs.Tests.{both_true, all_true, any_of}
use Rattle.protocol_allowed.proofs.Successes.{part_below}
use Rattle.protocol_allowed.proofs.Pieces.{is_first}

abbrev pub bytes_of : List Piece → List ℕ
bytes_of pieces = flat_map (λ piece. piece.bytes) pieces

abbrev pub rounds_of : List Piece → List ℕ
rounds_of pieces = filter_map (λ piece. piece.round) pieces

first_is : (o : Option ℕ) (rest : List ℕ) → IsTrue (has_first_round o (cons_option o rest))
first_is None rest = refl
first_is (Some round) rest = eq-eqb round round refl

rest_is : (o : Option ℕ) (rest : List ℕ) → after_round o (cons_option o rest) ≡ rest
rest_is None rest = refl
rest_is (Some round) rest = refl

taken : (piece : Piece) (rest : List Piece) → take (length piece.bytes) (bytes_of (piece ∷ rest)) ≡ piece.bytes
taken piece rest = ap (take (length piece.bytes)) (flat_map-cons (λ (p : Piece). p.bytes) piece rest) ∙ take-append_seam piece.bytes (bytes_of rest)

left : (piece : Piece) (rest : List Piece) → drop (length piece.bytes) (bytes_of (piece ∷ rest)) ≡ bytes_of rest
left piece rest = ap (drop (length piece.bytes)) (flat_map-cons (λ (p : Piece). p.bytes) piece rest) ∙ drop-append_seam piece.bytes (bytes_of rest)

module _ (size offset count : ℕ) (found : List Piece) where
  -- the tests of what follows a piece
  ends : (piece : Piece) (rest : List Piece) → rest ≡ []
      → IsTrue ((length (bytes_of (piece ∷ rest)) == length piece.bytes) && (length (after_round piece.round (rounds_of (piece ∷ rest))) == 0))
  ends piece rest none =
      both_true (length (bytes_of (piece ∷ rest)) == length piece.bytes) (length (after_round piece.round (rounds_of (piece ∷ rest))) == 0)
      (eq-eqb _ _ (ap (λ ps. length (bytes_of (piece ∷ ps))) none ∙ ap length (flat_map-cons (λ (p : Piece). p.bytes) piece [] ∙ append-nil piece.bytes)))
      (eq-eqb _ _ (ap length (rest_is piece.round (rounds_of rest)) ∙ ap (λ ps. length (rounds_of ps)) none))

  goes_on : (piece : Piece) (rest : List Piece) (index : ℕ) (fuel : ℕ) (b : Bool)
      → (ArePieces size offset count found (suc index) rest → IsTrue (is_read_as fuel size offset count found (suc index) (bytes_of rest) (rounds_of rest)))
      → MatchBool b (rest ≡ []) (ArePieces size offset count found (suc index) rest)
      → IsTrue (cond b ((length (bytes_of (piece ∷ rest)) == length piece.bytes) && (length (after_round piece.round (rounds_of (piece ∷ rest))) == 0))
      (is_read_as fuel size offset count found (suc index) (drop (length piece.bytes) (bytes_of (piece ∷ rest))) (after_round piece.round (rounds_of (piece ∷ rest)))))
  goes_on piece rest index fuel true later none = ends piece rest none
  goes_on piece rest index fuel false later are =
      subst (λ bytes. IsTrue (is_read_as fuel size offset count found (suc index) bytes (after_round piece.round (rounds_of (piece ∷ rest))))) (sym (left piece rest))
      (subst (λ rounds. IsTrue (is_read_as fuel size offset count found (suc index) (bytes_of rest) rounds)) (sym (rest_is piece.round (rounds_of rest))) (later are))

  -- the first number is above what is left of the range's chunks
  pub read_as : (fuel index : ℕ) (pieces : List Piece) → (offset + count) / size < index + fuel → ArePieces size offset count found index pieces
      → IsTrue (is_read_as (suc fuel) size offset count found index (bytes_of pieces) (rounds_of pieces))
  read_as fuel index [] enough none =
      subst (λ b. IsTrue (cond b (list_any (λ piece. is_first size offset count index [] [] (is_read_as fuel size offset count found (suc index) (drop (length piece.bytes) []) (after_round piece.round [])) piece) found) true)) (sym none) refl
  read_as zero index (piece ∷ rest) enough are = absurd (let l : index < suc ((offset + count) / size) = part_below size offset count index are.0 in omega arith)
  read_as (suc fuel) index (piece ∷ rest) enough are =
      let bytes : List ℕ = bytes_of (piece ∷ rest) in
      let rounds : List ℕ = rounds_of (piece ∷ rest) in
      let test : Piece → Bool = λ p. is_first size offset count index bytes rounds (is_read_as (suc fuel) size offset count found (suc index) (drop (length p.bytes) bytes) (after_round p.round rounds)) p in
      let passes : IsTrue (test piece) = all_true (piece.index == index) (bytes_eq (take (length piece.bytes) bytes) piece.bytes) (has_first_round piece.round rounds)
      (cond (nat_lt (length piece.bytes) (part_length size offset count index)) ((length bytes == length piece.bytes) && (length (after_round piece.round rounds) == 0))
      (is_read_as (suc fuel) size offset count found (suc index) (drop (length piece.bytes) bytes) (after_round piece.round rounds)))
      (eq-eqb piece.index index are.2) ((bytes_eq-Decides (take (length piece.bytes) bytes) piece.bytes).1 (taken piece rest)) (first_is piece.round (rounds_of rest))
      (goes_on piece rest index (suc fuel) (nat_lt (length piece.bytes) (part_length size offset count index)) (read_as fuel (suc index) rest (omega arith)) are.3) in
      subst (λ b. IsTrue (cond b (list_any test found) ((length bytes == 0) && (length rounds == 0)))) (sym are.0) (any_of test found piece are.1 passes)
