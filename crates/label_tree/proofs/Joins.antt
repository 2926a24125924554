-- Nodes below others, joined with them, or with other siblings.
use Rattle.std.proofs.Common.{◌≡◌, ◌≢◌, ℕ, suc, ◌+◌, ◌≤◌, ◌<◌, true, false, ◌&&◌, nat_le, not, T, List, [], ◌∷◌, ◌++◌, length, length-append, Option, Some, None, is_some, refl, sym, ap, subst, ◌∙◌, arith}
use Rattle.std.proofs.lemmas.Bool.Decides.{nat_tests}
use Rattle.std.proofs.lemmas.List.{append-nil}
use Rattle.label_tree.specs.Fronts.{first_byte}
use Rattle.label_tree.specs.Entries.{BeginsFrom, AllFrom, under, own, level, first_start, last_start, HasNoRoom, IsPacked, IsPlaced, IsNode, is_nothing}
use Rattle.label_tree.proofs.Levels.{all_level, level_cut}

pub begins_append : (f t : List ℕ) → BeginsFrom 0 f → BeginsFrom 0 (f ++ t)
begins_append [] t h = absurd h
begins_append (c ∷ f) t h = omega arith

pub first_append : (f t : List ℕ) → BeginsFrom 0 f → first_byte (f ++ t) ≡ first_byte f
first_append [] t h = absurd h
first_append (c ∷ f) t h = refl

begins_past : (c : ℕ) (q : List ℕ) → BeginsFrom (suc c) q → c < first_byte q
begins_past c [] h = absurd h
begins_past c (y ∷ q) h = omega arith

apart_numbers : (a b : ℕ) → a < b → a ≢ b
apart_numbers a b p e = omega arith

none_is : false ≢ true
none_is e = subst (λ t. T (not t)) e tt

le_yes : (a : ℕ) → nat_le a 24 ≡ true → a ≤ 24
le_yes a e = grind (arith, nat_tests)

le_no : (a : ℕ) → nat_le a 24 ≡ false → 24 < a
le_no a e = grind (arith, nat_tests)

module _ {X : Type 0} where
  under_length : (l : List ℕ) (es : List (List ℕ × X)) → length (under l es) ≡ length es
  under_length l [] = refl
  under_length l (e ∷ es) = ap suc (under_length l es)

  pub level_some : (l : List ℕ) (v : Option X) (b n : List (List ℕ × X)) → 1 ≤ length (own v ++ b) → 1 ≤ length (level l v b n)
  level_some l v b n h = omega (arith, length-append (under l (own v ++ b)) n, under_length l (own v ++ b), h)

  -- a node with a value
  pub valued : (l : List ℕ) (v : Option X) (b n : List (List ℕ × X)) → is_some v ≡ true → IsPlaced l b n → IsNode l v b n
  valued l None b n e h = absurd (none_is e)
  valued l (Some x) b n e h = record { placed = h; alive = omega arith; packed = tt }

  pub with_value : (l : List ℕ) (x : X) (b n : List (List ℕ × X)) → IsPlaced l b n → IsNode l (Some x) b n
  with_value l x b n h = record { placed = h; alive = omega arith; packed = tt }

  -- other siblings behind a node
  pub with_next : (l : List ℕ) (v : Option X) (b m n : List (List ℕ × X)) → IsNode l v b m → AllFrom (suc (first_byte l)) n → IsNode l v b n
  with_next l v b m n h p = record { placed = record { labelled = h.placed.labelled; below_filled = h.placed.below_filled; rising = p }; alive = h.alive; packed = h.packed }

  pub level_next : (l : List ℕ) (v : Option X) (b m n : List (List ℕ × X)) → m ≡ [] → level l v b n ≡ level l v b m ++ n
  level_next l v b m n e =
      ap (λ xs. xs ++ n) (sym (append-nil (under l (own v ++ b)))) ∙ ap (λ xs. (under l (own v ++ b) ++ xs) ++ n) (sym e)

  -- where the names of two siblings begin
  last_rising : (c : ℕ) (e : List ℕ × X) (es : List (List ℕ × X)) → AllFrom (suc c) (e ∷ es) → c < last_start (e ∷ es)
  last_rising c e [] h = begins_past c e.0 h.0
  last_rising c e (f ∷ es) h = last_rising c f es h.1

  last_append : (xs : List (List ℕ × X)) (e : List ℕ × X) (es : List (List ℕ × X)) → last_start (xs ++ (e ∷ es)) ≡ last_start (e ∷ es)
  last_append [] e es = refl
  last_append (x ∷ []) e es = refl
  last_append (x ∷ y ∷ xs) e es = last_append (y ∷ xs) e es

  first_under : (l : List ℕ) (es n : List (List ℕ × X)) → BeginsFrom 0 l → 1 ≤ length es → first_start (under l es ++ n) ≡ first_byte l
  first_under l [] n h p = absurd (omega arith)
  first_under l (e ∷ es) n h p = first_append l e.0 h

  -- a node below which there is one that has no room beside its label, or more than one
  pub nested_packed : (f t : List ℕ) (v : Option X) (b n : List (List ℕ × X)) → IsNode t v b n → (n ≡ [] → 24 < length f + length t) → first_start (level t v b n) ≡ last_start (level t v b n) → HasNoRoom f (level t v b n)
  nested_packed f t v b [] h long same = record {
    front = t;
    rest = own v ++ b;
    alike = append-nil (under t (own v ++ b));
    too_long = long refl;
  }
  nested_packed f t v b (e ∷ n) h long same =
      absurd (apart_numbers (first_byte t) (last_start (e ∷ n)) (last_rising (first_byte t) e n h.placed.rising)
      (sym (first_under t (own v ++ b) (e ∷ n) h.placed.labelled h.alive) ∙ same ∙ last_append (under t (own v ++ b)) e n))

  alive_below : (w : Option X) (es : List (List ℕ × X)) → 1 ≤ length es → 1 ≤ length (own w ++ es)
  alive_below None es h = h
  alive_below (Some x) es h = omega arith

  pub nested_node : (f t : List ℕ) (v w : Option X) (b d m n : List (List ℕ × X)) → IsPlaced f d n → IsNode t v b m → w ≡ None → (m ≡ [] → 24 < length f + length t) → IsNode f w (level t v b m) n
  nested_node f t v w b d m n h g none long = record {
    placed = record { labelled = h.labelled; below_filled = all_level 0 t v b m g.placed (omega arith); rising = h.rising };
    alive = alive_below w (level t v b m) (level_some t v b m g.alive);
    packed = subst (λ o. IsPacked f o (level t v b m)) (sym none) (nested_packed f t v b m g long);
  }

  -- a node joined with the one below it
  join_packed : (f t : List ℕ) (v : Option X) (b : List (List ℕ × X)) → IsPacked t v b → IsPacked (f ++ t) v b
  join_packed f t None b h = λ same. record { front = (h same).front; rest = (h same).rest; alike = (h same).alike; too_long = omega (arith, (h same).too_long, length-append f t) }
  join_packed f t (Some x) b h = tt

  pub join_node : (f t : List ℕ) (v : Option X) (b d m n : List (List ℕ × X)) → IsPlaced f d n → IsNode t v b m → IsNode (f ++ t) v b n
  join_node f t v b d m n h g = record {
    placed = record {
      labelled = begins_append f t h.labelled;
      below_filled = g.placed.below_filled;
      rising = subst (λ a. AllFrom (suc a) n) (sym (first_append f t h.labelled)) h.rising;
    };
    alive = g.alive;
    packed = join_packed f t v b g.packed;
  }

  pub join_says : (f t : List ℕ) (v : Option X) (b m n : List (List ℕ × X)) → m ≡ [] → level (f ++ t) v b n ≡ level f None (level t v b m) n
  join_says f t v b m n e = level_cut f t v b n ∙ ap (λ es. level f None (level t v b es) n) (sym e)

  -- whether a lone node below has room beside a label
  pub room_alone : (es : List (List ℕ × X)) (a : ℕ) → (is_nothing es && nat_le a 24) ≡ true → es ≡ []
  room_alone [] a e = refl
  room_alone (x ∷ es) a e = absurd (none_is e)

  pub room_fits : (es : List (List ℕ × X)) (a : ℕ) → (is_nothing es && nat_le a 24) ≡ true → a ≤ 24
  room_fits [] a e = le_yes a e
  room_fits (x ∷ es) a e = absurd (none_is e)

  room_none : (es : List (List ℕ × X)) (a : ℕ) → (is_nothing es && nat_le a 24) ≡ false → es ≡ [] → 24 < a
  room_none es a e none = le_no a (ap (λ xs. is_nothing xs && nat_le a 24) (sym none) ∙ e)

  pub kept_apart : (f t : List ℕ) (v w : Option X) (b d m n : List (List ℕ × X)) → IsPlaced f d n → IsNode t v b m → w ≡ None → (is_nothing m && nat_le (length f + length t) 24) ≡ false → IsNode f w (level t v b m) n
  kept_apart f t v w b d m n h g none apart = nested_node f t v w b d m n h g none (room_none m (length f + length t) apart)
