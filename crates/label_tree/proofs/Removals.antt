-- Removals among the names of one node and its later siblings.
use Rattle.std.proofs.Common.{◌≡◌, ◌≢◌, ℕ, Bool, true, false, cond, not, List, [], ◌∷◌, ◌++◌, Option, Some, None, refl, ap, ◌∙◌}
use Rattle.std.specs.Ordering.{nat_cmp, is_eq, eq_by_cmp}
use Rattle.std.specs.Cmp.Lexicographic.{slice_cmp}
use Rattle.label_tree.specs.Entries.{BeginsFrom, AllFrom, under, own, level, IsPlaced, find_path, without_path}
use Rattle.label_tree.proofs.Levels.{some_is, order_under, find_nothing, find_apart, find_above}

module _ {X : Type 0} where
  -- a test that fails somewhere
  passed : (t : Bool) (x : X) (o : Option X) (e : List ℕ × X) (es fs : List (List ℕ × X)) → (o ≡ None → es ≡ fs) → cond t (Some x) o ≡ None → cond (not t) (e ∷ es) es ≡ e ∷ fs
  passed true x o e es fs more h = absurd (some_is x h)
  passed false x o e es fs more h = ap (λ xs. e ∷ xs) (more h)

  -- a name that isn't there
  without_none : (q : List ℕ) (es : List (List ℕ × X)) → find_path q es ≡ None → without_path q es ≡ es
  without_none q [] h = refl
  without_none q (e ∷ es) h = passed (eq_by_cmp (slice_cmp nat_cmp) q e.0) e.1 (find_path q es) e (without_path q es) es (without_none q es) h

  placed : (t : Bool) (e : List ℕ × X) (es fs : List (List ℕ × X)) → cond t (e ∷ (es ++ fs)) (es ++ fs) ≡ cond t (e ∷ es) es ++ fs
  placed true e es fs = refl
  placed false e es fs = refl

  without_append : (q : List ℕ) (es fs : List (List ℕ × X)) → without_path q (es ++ fs) ≡ without_path q es ++ without_path q fs
  without_append q [] fs = refl
  without_append q (e ∷ es) fs =
      ap (λ xs. cond (not (eq_by_cmp (slice_cmp nat_cmp) q e.0)) (e ∷ xs) xs) (without_append q es fs)
      ∙ placed (not (eq_by_cmp (slice_cmp nat_cmp) q e.0)) e (without_path q es) (without_path q fs)

  labelled : (t : Bool) (l : List ℕ) (e : List ℕ × X) (es : List (List ℕ × X)) → cond t ((l ++ e.0, e.1) ∷ under l es) (under l es) ≡ under l (cond t (e ∷ es) es)
  labelled true l e es = refl
  labelled false l e es = refl

  without_under : (l r : List ℕ) (es : List (List ℕ × X)) → without_path (l ++ r) (under l es) ≡ under l (without_path r es)
  without_under l r [] = refl
  without_under l r (e ∷ es) =
      (λ i. cond (not (is_eq (order_under l r e.0 i))) ((l ++ e.0, e.1) ∷ without_under l r es i) (without_under l r es i))
      ∙ labelled (not (eq_by_cmp (slice_cmp nat_cmp) r e.0)) l e (without_path r es)

  kept : (n : ℕ) (t : Bool) (e : List ℕ × X) (es : List (List ℕ × X)) → BeginsFrom n e.0 → AllFrom n es → AllFrom n (cond t (e ∷ es) es)
  kept n true e es p h = (p, h)
  kept n false e es p h = h

  pub all_without : (n : ℕ) (q : List ℕ) (es : List (List ℕ × X)) → AllFrom n es → AllFrom n (without_path q es)
  all_without n q [] h = tt
  all_without n q (e ∷ es) h = kept n (not (eq_by_cmp (slice_cmp nat_cmp) q e.0)) e (without_path q es) h.0 (all_without n q es h.1)

  -- within the node alone
  without_within : (l r : List ℕ) (v : Option X) (b n : List (List ℕ × X)) → IsPlaced l b n → without_path (l ++ r) (level l v b n) ≡ under l (without_path r (own v ++ b)) ++ n
  without_within [] r v b n h = absurd h.labelled
  without_within (c ∷ l) r v b n h =
      without_append ((c ∷ l) ++ r) (under (c ∷ l) (own v ++ b)) n
      ∙ (λ i. without_under (c ∷ l) r (own v ++ b) i ++ without_none ((c ∷ l) ++ r) n (find_above c (l ++ r) n h.rising) i)

  without_own : (v : Option X) (b : List (List ℕ × X)) → AllFrom 0 b → without_path [] (own v ++ b) ≡ b
  without_own None b h = without_none [] b (find_nothing b h)
  without_own (Some x) b h = without_none [] b (find_nothing b h)

  without_past : (r : List ℕ) (v : Option X) (b : List (List ℕ × X)) → r ≢ [] → without_path r (own v ++ b) ≡ own v ++ without_path r b
  without_past [] v b f = absurd (f refl)
  without_past (y ∷ r) None b f = refl
  without_past (y ∷ r) (Some x) b f = refl

  -- at a node, below it, and among its later siblings
  pub without_at : (q l r : List ℕ) (v : Option X) (b n : List (List ℕ × X)) → IsPlaced l b n → q ≡ l ++ r → r ≡ [] → without_path q (level l v b n) ≡ level l None b n
  without_at q l r v b n h e f =
      ap (λ p. without_path p (level l v b n)) (e ∙ ap (λ p. l ++ p) f) ∙ without_within l [] v b n h ∙ ap (λ es. under l es ++ n) (without_own v b h.below_filled)

  pub without_below : (q l r : List ℕ) (v : Option X) (b n : List (List ℕ × X)) → IsPlaced l b n → q ≡ l ++ r → r ≢ [] → without_path q (level l v b n) ≡ level l v (without_path r b) n
  without_below q l r v b n h e f =
      ap (λ p. without_path p (level l v b n)) e ∙ without_within l r v b n h ∙ ap (λ es. under l es ++ n) (without_past r v b f)

  pub without_next : (q l : List ℕ) (v : Option X) (b n : List (List ℕ × X)) → ((rest : List ℕ) → q ≢ l ++ rest) → without_path q (level l v b n) ≡ level l v b (without_path q n)
  without_next q l v b n apart =
      without_append q (under l (own v ++ b)) n
      ∙ ap (λ es. es ++ without_path q n) (without_none q (under l (own v ++ b)) (find_apart q l (own v ++ b) apart))
