-- What a selection of an order is once its first entry is taken or left out.
use Rattle.std.proofs.Common.{◌≡◌, ℕ, zero, suc, ◌+◌, ◌<◌, ◌≤◌, List, [], ◌∷◌, length, drop, get_or, Some, refl, sym, ap, subst, arith, add-one, drop-cons, length-drop}
use Rattle.std.proofs.lemmas.List.{drop_all}
use Rattle.std.proofs.lemmas.Option.{slice_get_within, get_or_from_slice_get}
use Rattle.std.specs.Prelude.{◌↔◌, IsTrue, slice_get}
use Rattle.relaxed_file.specs.Order.{Entry, IsSelection, empty, takes, leaves}

-- the entry at a place begins what is left from there on
front_of : (es : List Entry) (place : ℕ) (x : Entry) → slice_get es place ≡ Some x → drop place es ≡ x ∷ drop (place + 1) es
front_of es place x at =
    let there : place < length es = slice_get_within es place x at in
    rw (add-one, drop-cons es place x) (ap (λ (e : Entry). e ∷ drop (suc place) es) (get_or_from_slice_get es place x x at))

next_of : (es : List Entry) (place : ℕ) (x : Entry) (rest : List Entry) → drop place es ≡ x ∷ rest → slice_get es place ≡ Some x
next_of [] zero x rest h = cc
next_of [] (suc place) x rest h = cc
next_of (e ∷ es) zero x rest h = ap Some (same_head e x es rest h)
  where
    same_head : (a b : Entry) (xs ys : List Entry) → a ∷ xs ≡ b ∷ ys → a ≡ b
    same_head a b xs ys same = cc
next_of (e ∷ es) (suc place) x rest h = next_of es place x rest h

module _ (last : ℕ) where
  -- a chosen entry that may be left out wherever it stands need not be chosen
  without_first : (e : Entry) (order chosen : List Entry) → (IsTrue e.settled → last < e.round) → IsSelection last order (e ∷ chosen) → IsSelection last order chosen
  without_first e [] chosen may none = elim none [ ]
  without_first e (x ∷ order) chosen may (takes within rest) = leaves may rest
  without_first e (x ∷ order) chosen may (leaves out rest) = leaves out (without_first e order chosen may rest)

  taken_back : (x y : Entry) (order chosen : List Entry) → x ≡ y → x.round ≤ last → IsSelection last (x ∷ order) (y ∷ chosen) → IsSelection last order chosen
  taken_back x y order chosen same within (takes h rest) = rest
  taken_back x y order chosen same within (leaves out rest) = without_first y order chosen (subst (λ (e : Entry). IsTrue e.settled → last < e.round) same out) rest

  -- an entry that is the next chosen one is taken
  pub taken_first : (x : Entry) (order chosen : List Entry) → x.round ≤ last → IsSelection last (x ∷ order) (x ∷ chosen) ↔ IsSelection last order chosen
  taken_first x order chosen within = (taken_back x x order chosen refl within, takes within)

  abbrev IsNotNext : Entry → List Entry → Type 0
  IsNotNext x chosen = (rest : List Entry) → x.round ≤ last → chosen ≡ x ∷ rest → ⊥

  left_back : (x : Entry) (order chosen : List Entry) → IsNotNext x chosen → IsSelection last (x ∷ order) chosen → IsSelection last order chosen
  left_back x order (y ∷ chosen) not_next (takes within rest) = absurd (not_next chosen within refl)
  left_back x order chosen not_next (leaves out rest) = rest

  -- one that is not the next chosen one is left out, which is lawful where it isn't settled, or of a later round
  pub left_first : (x : Entry) (order chosen : List Entry) → ((rest : List Entry) → x.round ≤ last → chosen ≡ x ∷ rest → ⊥) → (IsTrue x.settled → last < x.round)
      → IsSelection last (x ∷ order) chosen ↔ IsSelection last order chosen
  left_first x order chosen not_next may = (left_back x order chosen not_next, leaves may)

  pub none_left : (x : Entry) (order chosen : List Entry) → ((rest : List Entry) → x.round ≤ last → chosen ≡ x ∷ rest → ⊥) → IsTrue x.settled → x.round ≤ last
      → IsSelection last (x ∷ order) chosen → ⊥
  none_left x order (y ∷ chosen) not_next settled within (takes h rest) = not_next chosen h refl
  none_left x order chosen not_next settled within (leaves out rest) = let later : last < x.round = out settled in omega arith

  -- nothing is chosen of an empty order
  pub none_of_empty : (chosen : List Entry) → IsSelection last [] chosen → chosen ≡ []
  none_of_empty [] empty = refl
  none_of_empty (e ∷ chosen) none = elim none [ ]

  module _ (order chosen : List Entry) (place taken : ℕ) (x : Entry) (there : place < length order) (is : x ≡ get_or order place x) where
    front : drop place order ≡ x ∷ drop (place + 1) order
    front = rw (add-one, drop-cons order place x) (ap (λ (e : Entry). e ∷ drop (suc place) order) (sym is))

    pub next_taken : slice_get chosen taken ≡ Some x → x.round ≤ last
        → IsSelection last (drop place order) (drop taken chosen) ↔ IsSelection last (drop (place + 1) order) (drop (taken + 1) chosen)
    next_taken next within =
        subst (λ (es : List Entry). IsSelection last es (drop taken chosen) ↔ IsSelection last (drop (place + 1) order) (drop (taken + 1) chosen)) (sym front)
        (subst (λ (es : List Entry). IsSelection last (x ∷ drop (place + 1) order) es ↔ IsSelection last (drop (place + 1) order) (drop (taken + 1) chosen)) (sym (front_of chosen taken x next))
        (taken_first x _ _ within))

    pub next_left : (x.round ≤ last → slice_get chosen taken ≡ Some x → ⊥) → (IsTrue x.settled → last < x.round)
        → IsSelection last (drop place order) (drop taken chosen) ↔ IsSelection last (drop (place + 1) order) (drop taken chosen)
    next_left other may =
        subst (λ (es : List Entry). IsSelection last es (drop taken chosen) ↔ IsSelection last (drop (place + 1) order) (drop taken chosen)) (sym front)
        (left_first x _ _ (λ rest within same. other within (next_of chosen taken x rest same)) may)

    pub next_missing : (x.round ≤ last → slice_get chosen taken ≡ Some x → ⊥) → IsTrue x.settled → x.round ≤ last → IsSelection last (drop place order) (drop taken chosen) → ⊥
    next_missing other settled within selected =
        none_left x _ _ (λ rest h same. other h (next_of chosen taken x rest same)) settled within
        (subst (λ (es : List Entry). IsSelection last es (drop taken chosen)) front selected)

  pub at_end : (order chosen : List Entry) (place taken : ℕ) → length order ≤ place → taken ≤ length chosen
      → IsSelection last (drop place order) (drop taken chosen) ↔ (taken ≡ length chosen)
  at_end order chosen place taken past within =
      subst (λ (es : List Entry). IsSelection last es (drop taken chosen) ↔ (taken ≡ length chosen)) (sym (drop_all place order past)) (
        λ selected. let all : length (drop taken chosen) ≡ 0 = ap (λ (es : List Entry). length es) (none_of_empty (drop taken chosen) selected) in
            omega (arith, all, length-drop taken chosen),
        λ same. subst (λ es. IsSelection last [] es) (sym (drop_all taken chosen (omega arith))) empty,
      )
