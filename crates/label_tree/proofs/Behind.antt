-- The names behind a front, at a node and below it.
use Rattle.std.proofs.Common.{◌≡◌, ◌≢◌, ℕ, suc, true, false, cond, ◌==◌, List, [], ◌∷◌, ◌++◌, Option, Some, None, refl, sym, ap, ◌∙◌, arith}
use Rattle.std.proofs.lemmas.Bool.Decides.{nat_tests}
use Rattle.std.proofs.lemmas.List.{append-nil}
use Rattle.label_tree.specs.Entries.{BeginsFrom, AllFrom, under, own, level, IsPlaced}
use Rattle.label_tree.proofs.Levels.{joined}
use Rattle.label_tree.specs.Behind.{rest_of, with_rest, behind}

same_test : (x y : ℕ) → x ≡ y → (x == y) ≡ true
same_test x y e = grind (arith, nat_tests)

other_test : (x y : ℕ) → x ≢ y → (x == y) ≡ false
other_test x y d = grind (arith, nat_tests)

pub same_byte : (x y : ℕ) → (x == y) ≡ true → x ≡ y
same_byte x y e = grind (arith, nat_tests)

-- one name
rest_self : (f m : List ℕ) → rest_of f (f ++ m) ≡ Some m
rest_self [] m = refl
rest_self (c ∷ f) m = ap (λ t. cond t (rest_of f (f ++ m)) None) (same_test c c refl) ∙ rest_self f m

rest_under : (l r k : List ℕ) → rest_of (l ++ r) (l ++ k) ≡ rest_of r k
rest_under [] r k = refl
rest_under (c ∷ l) r k = ap (λ t. cond t (rest_of (l ++ r) (l ++ k)) None) (same_test c c refl) ∙ rest_under l r k

rest_past : (f m k : List ℕ) → rest_of f ((f ++ m) ++ k) ≡ Some (m ++ k)
rest_past f m k = ap (rest_of f) (joined f m k) ∙ rest_self f (m ++ k)

rest_apart : (f l k : List ℕ) → ((r : List ℕ) → f ≢ l ++ r) → ((r : List ℕ) → l ≢ f ++ r) → rest_of f (l ++ k) ≡ None
rest_apart [] l k one other = absurd (other l refl)
rest_apart (c ∷ f) [] k one other = absurd (one (c ∷ f) refl)
rest_apart (c ∷ f) (d ∷ l) k one other =
    elim (c == d) as (λ t. (c == d) ≡ t → cond t (rest_of f (l ++ k)) None ≡ None) [
      | true ↦ λ e. rest_apart f l k (λ r s. one r (ap (λ b. b ∷ f) (same_byte c d e) ∙ ap (λ xs. d ∷ xs) s)) (λ r s. other r (ap (λ b. b ∷ l) (sym (same_byte c d e)) ∙ ap (λ xs. c ∷ xs) s))
      | false ↦ λ e. refl
    ] refl

rest_above : (c : ℕ) (f k : List ℕ) → BeginsFrom (suc c) k → rest_of (c ∷ f) k ≡ None
rest_above c f [] h = absurd h
rest_above c f (d ∷ k) h = ap (λ t. cond t (rest_of f k) None) (other_test c d (λ e. omega arith))

module _ {X : Type 0} where
  with_append : (o : Option (List ℕ)) (v : X) (xs ys zs : List (List ℕ × X)) → zs ≡ xs ++ ys → with_rest o v zs ≡ with_rest o v xs ++ ys
  with_append None v xs ys zs h = h
  with_append (Some r) v xs ys zs h = ap (λ l. (r, v) ∷ l) h

  pub behind_append : (f : List ℕ) (es fs : List (List ℕ × X)) → behind f (es ++ fs) ≡ behind f es ++ behind f fs
  behind_append f [] fs = refl
  behind_append f (e ∷ es) fs = with_append (rest_of f e.0) e.1 (behind f es) (behind f fs) (behind f (es ++ fs)) (behind_append f es fs)

  behind_under : (l r : List ℕ) (es : List (List ℕ × X)) → behind (l ++ r) (under l es) ≡ behind r es
  behind_under l r [] = refl
  behind_under l r (e ∷ es) = λ i. with_rest (rest_under l r e.0 i) e.1 (behind_under l r es i)

  behind_within : (f m : List ℕ) (es : List (List ℕ × X)) → behind f (under (f ++ m) es) ≡ under m es
  behind_within f m [] = refl
  behind_within f m (e ∷ es) = λ i. with_rest (rest_past f m e.0 i) e.1 (behind_within f m es i)

  behind_apart : (f l : List ℕ) (es : List (List ℕ × X)) → ((r : List ℕ) → f ≢ l ++ r) → ((r : List ℕ) → l ≢ f ++ r) → behind f (under l es) ≡ []
  behind_apart f l [] one other = refl
  behind_apart f l (e ∷ es) one other = λ i. with_rest (rest_apart f l e.0 one other i) e.1 (behind_apart f l es one other i)

  behind_above : (c : ℕ) (f : List ℕ) (es : List (List ℕ × X)) → AllFrom (suc c) es → behind (c ∷ f) es ≡ []
  behind_above c f [] h = refl
  behind_above c f (e ∷ es) h = λ i. with_rest (rest_above c f e.0 h.0 i) e.1 (behind_above c f es h.1 i)

  behind_own : (c : ℕ) (f : List ℕ) (v : Option X) (es : List (List ℕ × X)) → behind (c ∷ f) (own v ++ es) ≡ behind (c ∷ f) es
  behind_own c f None es = refl
  behind_own c f (Some v) es = refl

  -- a front that goes on below a node
  pub go_below : (label more : List ℕ) (value : Option X) (below next : List (List ℕ × X)) → IsPlaced label below next → BeginsFrom 0 more → behind (label ++ more) (level label value below next) ≡ behind more below
  go_below [] more value below next h some = absurd h.labelled
  go_below (c ∷ l) [] value below next h some = absurd some
  go_below (c ∷ l) (d ∷ more) value below next h some =
      behind_append (c ∷ l ++ d ∷ more) (under (c ∷ l) (own value ++ below)) next
      ∙ ap (λ xs. behind (c ∷ l ++ d ∷ more) (under (c ∷ l) (own value ++ below)) ++ xs) (behind_above c (l ++ d ∷ more) next h.rising)
      ∙ append-nil (behind (c ∷ l ++ d ∷ more) (under (c ∷ l) (own value ++ below)))
      ∙ behind_under (c ∷ l) (d ∷ more) (own value ++ below)
      ∙ behind_own d more value below

  -- a front that ends within a node's label
  pub stop_here : (f m : List ℕ) (value : Option X) (below next : List (List ℕ × X)) → IsPlaced (f ++ m) below next → BeginsFrom 0 f → behind f (level (f ++ m) value below next) ≡ under m (own value ++ below)
  stop_here [] m value below next h from = absurd from
  stop_here (c ∷ f) m value below next h from =
      behind_append (c ∷ f) (under (c ∷ f ++ m) (own value ++ below)) next
      ∙ ap (λ xs. behind (c ∷ f) (under (c ∷ f ++ m) (own value ++ below)) ++ xs) (behind_above c f next h.rising)
      ∙ append-nil (behind (c ∷ f) (under (c ∷ f ++ m) (own value ++ below)))
      ∙ behind_within (c ∷ f) m (own value ++ below)

  -- a front that isn't the node's
  pub go_next : (f label : List ℕ) (value : Option X) (below next : List (List ℕ × X)) → ((r : List ℕ) → f ≢ label ++ r) → ((r : List ℕ) → label ≢ f ++ r) → behind f (level label value below next) ≡ behind f next
  go_next f label value below next one other =
      behind_append f (under label (own value ++ below)) next
      ∙ ap (λ xs. xs ++ behind f next) (behind_apart f label (own value ++ below) one other)

-- a front that goes past a label, and isn't the label's beginning, has more
pub more_filled : (rest label more : List ℕ) → rest ≡ label ++ more → ((r : List ℕ) → label ≢ rest ++ r) → BeginsFrom 0 more
more_filled rest label [] cut other = absurd (other [] (sym (append-nil label) ∙ sym cut ∙ sym (append-nil rest)))
more_filled rest label (c ∷ more) cut other = omega arith
