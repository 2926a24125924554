-- Names in two parts, by the bytes that they begin with.
use Rattle.std.proofs.Common.{◌≡◌, ℕ, suc, ◌≤◌, ◌<◌, cond, not, List, [], ◌∷◌, ◌++◌, length, Option, Some, refl, sym, ap, ◌∙◌, arith}
use Rattle.std.specs.declared.cmp.Ordering.TheVariants.{Greater}
use Rattle.std.specs.Ordering.{nat_cmp, is_eq, ordering_then}
use Rattle.std.specs.Cmp.{nat_cmp_is}
use Rattle.std.specs.Cmp.Lexicographic.{slice_cmp}
use Rattle.std.specs.FinMap.Entries.{by_order}
use Rattle.std.proofs.lemmas.List.{append_assoc}
use Rattle.label_tree.specs.Fronts.{first_byte}
use Rattle.label_tree.specs.Entries.{BeginsFrom, AllFrom, under, own, level, IsNode, find_path, put_path, without_path, bytes_in}
use Rattle.label_tree.specs.Siblings.{AllBelow}

-- a path comes after one that begins with a smaller byte
comes_later : (q k : List ℕ) → first_byte k < first_byte q → slice_cmp nat_cmp q k ≡ Greater
comes_later [] k p = absurd (omega arith)
comes_later (x ∷ q) [] p = refl
comes_later (x ∷ q) (y ∷ k) p = ap (λ o. ordering_then o (slice_cmp nat_cmp q k)) (sym (nat_cmp_is x y Greater p))

begins_lower : (m n : ℕ) (k : List ℕ) → m ≤ n → BeginsFrom n k → BeginsFrom m k
begins_lower m n [] p h = h
begins_lower m n (c ∷ k) p h = omega arith

module _ {X : Type 0} where
  -- look-ups and changes behind names that begin with smaller bytes
  pub find_over : (q : List ℕ) (es fs : List (List ℕ × X)) → AllBelow (first_byte q) es → find_path q (es ++ fs) ≡ find_path q fs
  find_over q [] fs h = refl
  find_over q (e ∷ es) fs h = ap (λ o. cond (is_eq o) (Some e.1) (find_path q (es ++ fs))) (comes_later q e.0 h.0) ∙ find_over q es fs h.1

  pub put_over : (q : List ℕ) (v : X) (es fs : List (List ℕ × X)) → AllBelow (first_byte q) es → put_path q v (es ++ fs) ≡ es ++ put_path q v fs
  put_over q v [] fs h = refl
  put_over q v (e ∷ es) fs h = ap (λ o. by_order o ((q, v) ∷ e ∷ (es ++ fs)) ((e.0, v) ∷ (es ++ fs)) (e ∷ put_path q v (es ++ fs))) (comes_later q e.0 h.0) ∙ ap (λ xs. e ∷ xs) (put_over q v es fs h.1)

  pub without_over : (q : List ℕ) (es fs : List (List ℕ × X)) → AllBelow (first_byte q) es → without_path q (es ++ fs) ≡ es ++ without_path q fs
  without_over q [] fs h = refl
  without_over q (e ∷ es) fs h = ap (λ o. cond (not (is_eq o)) (e ∷ without_path q (es ++ fs)) (without_path q (es ++ fs))) (comes_later q e.0 h.0) ∙ ap (λ xs. e ∷ xs) (without_over q es fs h.1)

  -- where names begin
  pub from_both : (n : ℕ) (es fs : List (List ℕ × X)) → AllFrom n es → AllFrom n fs → AllFrom n (es ++ fs)
  from_both n [] fs g h = h
  from_both n (e ∷ es) fs g h = (g.0, from_both n es fs g.1 h)

  pub from_left : (n : ℕ) (es fs : List (List ℕ × X)) → AllFrom n (es ++ fs) → AllFrom n es
  from_left n [] fs h = tt
  from_left n (e ∷ es) fs h = (h.0, from_left n es fs h.1)

  from_lower : (m n : ℕ) (es : List (List ℕ × X)) → m ≤ n → AllFrom n es → AllFrom m es
  from_lower m n [] p h = tt
  from_lower m n (e ∷ es) p h = (begins_lower m n e.0 p h.0, from_lower m n es p h.1)

  below_both : (n : ℕ) (es fs : List (List ℕ × X)) → AllBelow n es → AllBelow n fs → AllBelow n (es ++ fs)
  below_both n [] fs g h = h
  below_both n (e ∷ es) fs g h = (g.0, below_both n es fs g.1 h)

  below_right : (n : ℕ) (es fs : List (List ℕ × X)) → AllBelow n (es ++ fs) → AllBelow n fs
  below_right n [] fs h = h
  below_right n (e ∷ es) fs h = below_right n es fs h.1

  below_under : (n : ℕ) (l : List ℕ) (es : List (List ℕ × X)) → BeginsFrom 0 l → first_byte l < n → AllBelow n (under l es)
  below_under n [] es h p = absurd h
  below_under n (c ∷ l) [] h p = tt
  below_under n (c ∷ l) (e ∷ es) h p = (p, below_under n (c ∷ l) es h p)

  first_below : (n : ℕ) (l : List ℕ) (es fs : List (List ℕ × X)) → BeginsFrom 0 l → 1 ≤ length es → AllBelow n (under l es ++ fs) → first_byte l < n
  first_below n [] es fs h p g = absurd h
  first_below n (c ∷ l) [] fs h p g = absurd (omega arith)
  first_below n (c ∷ l) (e ∷ es) fs h p g = g.0

  -- a part is no longer than both
  pub cut_shorter : (es fs : List (List ℕ × X)) → bytes_in fs ≤ bytes_in (es ++ fs)
  cut_shorter [] fs = omega arith
  cut_shorter (e ∷ es) fs = omega (arith, cut_shorter es fs)

  -- the later siblings of a node in two parts
  pub level_parts : (l : List ℕ) (v : Option X) (b n es fs : List (List ℕ × X)) → n ≡ es ++ fs → level l v b n ≡ level l v b es ++ fs
  level_parts l v b n es fs e = ap (level l v b) e ∙ sym (append_assoc (under l (own v ++ b)) es fs)

  pub level_below : (k : ℕ) (l : List ℕ) (v : Option X) (b n : List (List ℕ × X)) → BeginsFrom 0 l → first_byte l < k → AllBelow k n → AllBelow k (level l v b n)
  level_below k l v b n h p g = below_both k (under l (own v ++ b)) n (below_under k l (own v ++ b) h p) g

  pub next_below : (k : ℕ) (l : List ℕ) (v : Option X) (b n : List (List ℕ × X)) → AllBelow k (level l v b n) → AllBelow k n
  next_below k l v b n h = below_right k (under l (own v ++ b)) n h

  -- siblings put behind a node's later ones
  pub rising_both : (k : ℕ) (l : List ℕ) (v : Option X) (b n fs : List (List ℕ × X)) → IsNode l v b n → AllBelow k (level l v b n) → AllFrom k fs → AllFrom (suc (first_byte l)) (n ++ fs)
  rising_both k l v b n fs h g f =
      let lower : first_byte l < k = first_below k l (own v ++ b) n h.placed.labelled h.alive g in
      from_both (suc (first_byte l)) n fs h.placed.rising (from_lower (suc (first_byte l)) k fs (omega (arith, lower)) f)

pub some_begins : (l : List ℕ) → BeginsFrom 0 l → 1 ≤ length l
some_begins [] h = absurd h
some_begins (c ∷ l) h = omega arith

pub begins_first : (q : List ℕ) → BeginsFrom 0 q → BeginsFrom (first_byte q) q
begins_first [] h = h
begins_first (c ∷ q) h = omega arith
