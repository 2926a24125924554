-- Where in a read's answer the bytes of a piece stand.
use Rattle.std.proofs.Common.{◌≡◌, ℕ, zero, suc, ◌+◌, ◌-◌, ◌*◌, ◌<◌, ◌≤◌, true, false, List, [], ◌∷◌, ◌++◌, length, take, drop, Some, None, refl, ◌∙◌, ap, subst, inl, inr, arith, length-append, mul-le-mul_right}
use Rattle.std.specs.Prelude.{Contains, MatchBool, nat_lt, slice_get, flat_map, filter_map}
use Rattle.std.specs.List.{AllByRecursion, cons_option}
use Rattle.std.proofs.lemmas.Bool.{cases_lt, ltb-true, ltb-false}
use Rattle.std.proofs.lemmas.List.{take-append-le, drop-append-le, length-drop}
use Rattle.std.proofs.Math.Seq.{drop-append-add}
use Rattle.gfs_types.specs.declared.mutation.Mutation.{Mutation}
use Rattle.gfs_types.specs.Image.{byte_at, bytes_from}
use Rattle.relaxed_file.specs.Parts.{part_start, part_end, part_length}
use Rattle.relaxed_file.specs.Machine.{Piece}
use Rattle.relaxed_file.specs.Answers.{ArePieces}
use Rattle.relaxed_file.proofs.Tables.{contained}

pub bytes_from_drop : (ms : List Mutation) (k place count : ℕ) → k ≤ count → drop k (bytes_from ms place count) ≡ bytes_from ms (place + k) (count - k)
bytes_from_drop ms zero place count l = let same : place ≡ place + 0 = omega arith in let all : count ≡ count - 0 = omega arith in λ i. bytes_from ms (same i) (all i)
bytes_from_drop ms (suc k) place zero l = absurd (omega (arith, l))
bytes_from_drop ms (suc k) place (suc count) l =
    let same : suc place + k ≡ place + suc k = omega arith in
    let left : count - k ≡ suc count - suc k = omega arith in
    bytes_from_drop ms k (suc place) count (omega (arith, l)) ∙ (λ i. bytes_from ms (same i) (left i))

pub bytes_from_take : (ms : List Mutation) (len place count : ℕ) → len ≤ count → take len (bytes_from ms place count) ≡ bytes_from ms place len
bytes_from_take ms zero place count l = refl
bytes_from_take ms (suc len) place zero l = absurd (omega (arith, l))
bytes_from_take ms (suc len) place (suc count) l = λ i. byte_at ms place ∷ bytes_from_take ms len (suc place) count (omega (arith, l)) i

-- a part of the first of two lists, and one of the second
take_front : (len k : ℕ) (p q : List ℕ) → k + len ≤ length p → take len (drop k (p ++ q)) ≡ take len (drop k p)
take_front len k p q l =
    let long : length (drop k p) ≡ length p - k = length-drop k p in
    ap (take len) (drop-append-le k p q (omega (arith, l))) ∙ take-append-le len (drop k p) q (omega (arith, l, long))

take_back : (len k j : ℕ) (p q : List ℕ) → k ≡ length p + j → take len (drop k (p ++ q)) ≡ take len (drop j q)
take_back len k j p q is = ap (λ n. take len (drop n (p ++ q))) is ∙ ap (take len) (drop-append-add p q j)

abbrev pub bytes_of : List Piece → List ℕ
bytes_of pieces = flat_map (λ piece. piece.bytes) pieces

abbrev pub rounds_of : List Piece → List ℕ
rounds_of pieces = filter_map (λ piece. piece.round) pieces

-- a piece is no longer than its part, and without a round it has no byte
abbrev pub IsFair : ℕ → ℕ → ℕ → Piece → Type 0
IsFair size offset count piece = (length piece.bytes ≤ part_length size offset count piece.index) × (piece.round ≡ None → length piece.bytes ≡ 0)

-- where the pieces from a chunk on begin in the file
abbrev pub begin : ℕ → ℕ → ℕ → ℕ
begin size offset index = index * size + part_start size offset index

-- the piece of a chunk, where it stands among these
pub record IsFound (size offset count : ℕ) (found pieces : List Piece) (index t o len skip : ℕ) : Type 0 where
  pub piece : Piece
  pub there : Contains found piece
  pub index_is : piece.index ≡ t
  pub starts : part_start size offset t ≤ o
  pub long : (o - part_start size offset t) + len ≤ length piece.bytes
  pub bytes_are : take len (drop skip (bytes_of pieces)) ≡ take len (drop (o - part_start size offset t) piece.bytes)
  pub named : ℕ
  pub round_is : piece.round ≡ Some named
  pub place : slice_get (rounds_of pieces) (t - index) ≡ Some named

has_round : (size offset count : ℕ) (piece : Piece) → IsFair size offset count piece → 0 < length piece.bytes → (named : ℕ) × (piece.round ≡ Some named)
has_round size offset count piece fair some =
    elim piece.round as (λ o. piece.round ≡ o → (named : ℕ) × (o ≡ Some named)) [
      | None ↦ λ is. absurd (omega (arith, fair.1 is, some))
      | Some named ↦ λ is. (named, refl)
    ] refl

module _ (size offset count : ℕ) (found : List Piece) (fair : AllByRecursion (IsFair size offset count) found) where
  fair_at : (piece : Piece) (index : ℕ) → Contains found piece → piece.index ≡ index → length piece.bytes ≤ part_length size offset count index
  fair_at piece index there is = subst (λ i. length piece.bytes ≤ part_length size offset count i) is (contained (IsFair size offset count) found piece fair there).0

  -- the pieces are no longer than what is left of the range
  pub within : (pieces : List Piece) (index : ℕ) → ArePieces size offset count found index pieces → length (bytes_of pieces) ≤ (offset + count) - begin size offset index
  within [] index are = omega arith
  within (piece ∷ rest) index are =
      let has : part_start size offset index < part_end size offset count index = ltb-true _ _ are.0 in
      let short : length piece.bytes ≤ part_length size offset count index = fair_at piece index are.1 are.2 in
      let whole : length (piece.bytes ++ bytes_of rest) ≡ length piece.bytes + length (bytes_of rest) = length-append piece.bytes (bytes_of rest) in
      elim (nat_lt (length piece.bytes) (part_length size offset count index)) as
      (λ b. MatchBool b (rest ≡ []) (ArePieces size offset count found (suc index) rest) → length (piece.bytes ++ bytes_of rest) ≤ (offset + count) - begin size offset index) [
        | true ↦ λ last. let none : length (bytes_of rest) ≡ 0 = ap (λ l. length (bytes_of l)) last in omega (arith, has, short, whole, none)
        | false ↦ λ more. let left : length (bytes_of rest) ≤ (offset + count) - begin size offset (suc index) = within rest (suc index) more in omega (arith, has, short, whole, left)
      ] are.3

  module _ (t o len x : ℕ) (some : 0 < len) (room : o + len ≤ size) (x_is : x ≡ t * size + o) (far : x + len ≤ offset + count) where
    here : (piece : Piece) (rest : List Piece) (index : ℕ) → Contains found piece → piece.index ≡ index → index ≡ t → begin size offset index ≤ x → (o - part_start size offset index) + len ≤ length piece.bytes
        → IsFound size offset count found (piece ∷ rest) index t o len (x - begin size offset index)
    here piece rest index there is same begins long =
        let start : part_start size offset index ≡ part_start size offset t = ap (part_start size offset) same in
        let prod : index * size ≡ t * size = ap (λ k. k * size) same in
        let long_t : (o - part_start size offset t) + len ≤ length piece.bytes = subst (λ k. (o - k) + len ≤ length piece.bytes) start long in
        let named = has_round size offset count piece (contained (IsFair size offset count) found piece fair there) (omega (arith, some, long)) in
        let skip : x - begin size offset index ≡ o - part_start size offset t = omega (arith, x_is, prod, start, begins) in
        record {
          piece = piece;
          there = there;
          index_is = is ∙ same;
          starts = omega (arith, x_is, prod, start, begins);
          long = long_t;
          bytes_are = ap (λ k. take len (drop k (piece.bytes ++ bytes_of rest))) skip ∙ take_front len _ piece.bytes (bytes_of rest) long_t;
          named = named.0;
          round_is = named.1;
          place =
              let none : t - index ≡ 0 = omega (arith, same) in
              ap (λ k. slice_get (rounds_of (piece ∷ rest)) k) none ∙ ap (λ r. slice_get (cons_option r (rounds_of rest)) 0) named.1;
        }

    past : (piece : Piece) (rest : List Piece) (index : ℕ) → Contains found piece → index < t → 0 < length piece.bytes → x - begin size offset index ≡ length piece.bytes + (x - begin size offset (suc index))
        → IsFound size offset count found rest (suc index) t o len (x - begin size offset (suc index)) → IsFound size offset count found (piece ∷ rest) index t o len (x - begin size offset index)
    past piece rest index there before bytes skip f =
        let named = has_round size offset count piece (contained (IsFair size offset count) found piece fair there) bytes in
        let next : t - index ≡ suc (t - suc index) = omega (arith, before) in
        record {
          piece = f.piece;
          there = f.there;
          index_is = f.index_is;
          starts = f.starts;
          long = f.long;
          bytes_are = take_back len _ _ piece.bytes (bytes_of rest) skip ∙ f.bytes_are;
          named = f.named;
          round_is = f.round_is;
          place = ap (λ k. slice_get (rounds_of (piece ∷ rest)) k) next ∙ ap (λ r. slice_get (cons_option r (rounds_of rest)) (suc (t - suc index))) named.1 ∙ f.place;
        }

    pub find : (pieces : List Piece) (index : ℕ) → ArePieces size offset count found index pieces → begin size offset index ≤ x → x + len ≤ begin size offset index + length (bytes_of pieces)
        → IsFound size offset count found pieces index t o len (x - begin size offset index)
    find [] index are begins reach = absurd (omega (arith, begins, reach, some))
    find (piece ∷ rest) index are begins reach =
        let has : part_start size offset index < part_end size offset count index = ltb-true _ _ are.0 in
        let short : length piece.bytes ≤ part_length size offset count index = fair_at piece index are.1 are.2 in
        let whole : length (piece.bytes ++ bytes_of rest) ≡ length piece.bytes + length (bytes_of rest) = length-append piece.bytes (bytes_of rest) in
        elim (cases_lt index t) [
          | inl before ↦
              let step : suc index * size ≤ t * size = mul-le-mul_right size before in
              elim (nat_lt (length piece.bytes) (part_length size offset count index)) as
              (λ b. nat_lt (length piece.bytes) (part_length size offset count index) ≡ b → MatchBool b (rest ≡ []) (ArePieces size offset count found (suc index) rest)
              → IsFound size offset count found (piece ∷ rest) index t o len (x - begin size offset index)) [
                | true ↦ λ is last. let none : length (bytes_of rest) ≡ 0 = ap (λ l. length (bytes_of l)) last in absurd (omega (arith, has, short, whole, none, step, x_is, reach, some))
                | false ↦ λ is more.
                    let full : part_length size offset count index ≤ length piece.bytes = ltb-false _ _ is in
                    past piece rest index are.1 before (omega (arith, has, full)) (omega (arith, has, short, full, step, x_is, far, some, begins))
                    (find rest (suc index) more (omega (arith, has, step, x_is)) (omega (arith, has, short, full, whole, step, x_is, far, some, reach)))
              ] refl are.3
          | inr not ↦ elim (cases_lt t index) [
            | inl after ↦ let step : suc t * size ≤ index * size = mul-le-mul_right size after in absurd (omega (arith, step, x_is, begins, room, some))
            | inr also ↦
                let same : index ≡ t = omega (arith, not, also) in
                let prod : index * size ≡ t * size = ap (λ k. k * size) same in
                here piece rest index are.1 are.2 same begins
                (elim (nat_lt (length piece.bytes) (part_length size offset count index)) as
                (λ b. nat_lt (length piece.bytes) (part_length size offset count index) ≡ b → MatchBool b (rest ≡ []) (ArePieces size offset count found (suc index) rest)
                → (o - part_start size offset index) + len ≤ length piece.bytes) [
                  | true ↦ λ is last. let none : length (bytes_of rest) ≡ 0 = ap (λ l. length (bytes_of l)) last in omega (arith, whole, none, prod, x_is, reach, begins)
                  | false ↦ λ is more.
                      let full : part_length size offset count index ≤ length piece.bytes = ltb-false _ _ is in
                      omega (arith, has, full, prod, x_is, room, far, begins)
                ] refl are.3)
          ]
        ]
