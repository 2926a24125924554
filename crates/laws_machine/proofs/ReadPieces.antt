-- The pieces of a read, as one more is read.
use Rattle.std.proofs.Common.{◌≡◌, ◌⊎◌, ℕ, suc, Bool, true, false, List, [], ◌∷◌, ◌++◌, length, Option, Some, None, refl, sym, ap, subst, ◌∙◌, inl, inr}
use Rattle.std.specs.Prelude.{nat_lt, Contains, flat_map, filter_map, MatchBool, IsTrue, IsFalse}
use Rattle.std.specs.List.{cons_option}
use Rattle.std.proofs.lemmas.Bool.{true≢false}
use Rattle.std.specs.Option.{option_to_list}
use Rattle.std.proofs.lemmas.List.{append-nil, append_assoc}
use Rattle.relaxed_file.specs.Parts.{has_part, part_length}
use Rattle.relaxed_file.specs.Machine.{Piece}
use Rattle.relaxed_file.specs.Answers.{ArePieces}
use Rattle.laws_machine.specs.FileClients.{AreWhole}

pub flat_last : {X A : Type 0} (f : X → List A) (xs : List X) (x : X) → flat_map f (xs ++ x ∷ []) ≡ flat_map f xs ++ f x
flat_last f [] x = append-nil (f x)
flat_last {X} {A} f (y ∷ ys) x = ap (λ (zs : List A). f y ++ zs) (flat_last f ys x) ∙ sym (append_assoc (f y) (flat_map f ys) (f x))

pub filter_last : {X A : Type 0} (f : X → Option A) (xs : List X) (x : X) → filter_map f (xs ++ x ∷ []) ≡ filter_map f xs ++ option_to_list (f x)
filter_last {X} {A} f [] x = by_value (f x)
  where
    by_value : (o : Option A) → cons_option o [] ≡ option_to_list o
    by_value None = refl
    by_value (Some a) = refl
filter_last {X} {A} f (y ∷ ys) x = by_value (f y) (filter_last f ys x)
  where
    by_value : (o : Option A) → filter_map f (ys ++ x ∷ []) ≡ filter_map f ys ++ option_to_list (f x) → cons_option o (filter_map f (ys ++ x ∷ [])) ≡ cons_option o (filter_map f ys) ++ option_to_list (f x)
    by_value None h = h
    by_value (Some a) h = ap (λ (zs : List A). a ∷ zs) h

abbrev no_more : List Piece
no_more = []

module _ (size offset count : ℕ) (found : List Piece) (p : Piece) (there : Contains found p) where
  -- the last one is shorter than its part, or the part is the last one
  abbrev pub IsLast : ℕ → Type 0
  IsLast part = IsTrue (nat_lt (length p.bytes) (part_length size offset count part)) ⊎ IsFalse (has_part size offset count (suc part))

  one : (part : ℕ) → p.index ≡ part → IsTrue (has_part size offset count part) → IsLast part → ArePieces size offset count found part (p ∷ [])
  one part at has last = (has, there, at, by_test (nat_lt (length p.bytes) (part_length size offset count part)) refl last)
    where
      by_test : (b : Bool) → nat_lt (length p.bytes) (part_length size offset count part) ≡ b → IsTrue b ⊎ IsFalse (has_part size offset count (suc part))
          → MatchBool b (no_more ≡ []) (ArePieces size offset count found (suc part) [])
      by_test true is h = refl
      by_test false is (inl short) = absurd (true≢false (sym short))
      by_test false is (inr none) = none

  pub pieces_end : (part index : ℕ) (ps : List Piece) → AreWhole size offset count found part index ps → p.index ≡ part → IsTrue (has_part size offset count part) → IsLast part
      → ArePieces size offset count found index (ps ++ p ∷ [])
  pieces_end part index [] same at has last = subst (λ (i : ℕ). ArePieces size offset count found i (p ∷ [])) (sym same) (one part at has last)
  pieces_end part index (q ∷ ps) h at has last =
      (h.0, h.1, h.2, subst (λ (b : Bool). MatchBool b (ps ++ p ∷ [] ≡ []) (ArePieces size offset count found (suc index) (ps ++ p ∷ []))) (sym h.3) (pieces_end part (suc index) ps h.4 at has last))

  pub pieces_grow : (part index : ℕ) (ps : List Piece) → AreWhole size offset count found part index ps → p.index ≡ part → IsTrue (has_part size offset count part)
      → IsFalse (nat_lt (length p.bytes) (part_length size offset count part)) → AreWhole size offset count found (suc part) index (ps ++ p ∷ [])
  pieces_grow part index [] same at has long =
      subst (λ (i : ℕ). AreWhole size offset count found (suc part) i (p ∷ [])) (sym same) (has, there, at, long, refl)
  pieces_grow part index (q ∷ ps) h at has long = (h.0, h.1, h.2, h.3, pieces_grow part (suc index) ps h.4 at has long)
