-- Look-ups and changes among the names of one node and its later siblings.
use Rattle.std.proofs.Common.{◌≡◌, ◌≢◌, ℕ, suc, ◌≤◌, ◌<◌, Bool, true, false, cond, T, List, [], ◌∷◌, ◌++◌, length, Option, Some, None, is_some, refl, sym, ap, subst, ◌∙◌, arith}
use Rattle.std.specs.declared.cmp.Ordering.{Ordering}
use Rattle.std.specs.declared.cmp.Ordering.TheVariants.{Less, Equal, Greater}
use Rattle.std.specs.Ordering.{nat_cmp, is_eq, eq_by_cmp, ordering_then}
use Rattle.std.specs.Cmp.{nat_cmp_is, tied_itself}
use Rattle.std.proofs.lemmas.Cmp.{nat_cmp_total}
use Rattle.std.specs.Cmp.Lexicographic.{slice_cmp}
use Rattle.std.specs.FinMap.Entries.{by_order}
use Rattle.std.proofs.lemmas.Map.Text.{is_eq-slice_cmp}
use Rattle.std.proofs.lemmas.Slice.Eq.{bytes_eq-Decides}
use Rattle.std.proofs.lemmas.List.{append-nil}
use Rattle.label_tree.specs.Fronts.{first_byte}
use Rattle.label_tree.specs.Entries.{BeginsFrom, AllFrom, under, own, level, IsPlaced, find_path, put_path}

abbrev order : List ℕ → List ℕ → Ordering
order = slice_cmp nat_cmp

less_of : (x y : ℕ) → x < y → nat_cmp x y ≡ Less
less_of x y p = sym (nat_cmp_is x y Less p)

more_of : (x y : ℕ) → y < x → nat_cmp x y ≡ Greater
more_of x y p = sym (nat_cmp_is x y Greater p)

-- a path that begins with a smaller byte comes first
before : (x n : ℕ) (q k : List ℕ) → x < n → BeginsFrom n k → order (x ∷ q) k ≡ Less
before x n q [] p h = absurd h
before x n q (y ∷ k) p h = ap (λ o. ordering_then o (order q k)) (less_of x y (omega arith))

pub nothing_before : (k : List ℕ) → BeginsFrom 0 k → order [] k ≡ Less
nothing_before [] h = absurd h
nothing_before (y ∷ k) h = refl

-- a common front makes no difference
pub order_under : (l k r : List ℕ) → order (l ++ k) (l ++ r) ≡ order k r
order_under [] k r = refl
order_under (x ∷ l) k r = ap (λ o. ordering_then o (order (l ++ k) (l ++ r))) (tied_itself nat_cmp_total x) ∙ order_under l k r

tied_same : (q x : List ℕ) → eq_by_cmp (slice_cmp nat_cmp) q x ≡ true → q ≡ x
tied_same q x h = (bytes_eq-Decides q x).0 (sym (is_eq-slice_cmp q x) ∙ h)

pub joined : (f t k : List ℕ) → (f ++ t) ++ k ≡ f ++ (t ++ k)
joined [] t k = refl
joined (x ∷ f) t k = ap (λ xs. x ∷ xs) (joined f t k)

begins_lower : (m n : ℕ) (k : List ℕ) → m ≤ n → BeginsFrom n k → BeginsFrom m k
begins_lower m n [] p h = h
begins_lower m n (c ∷ k) p h = omega arith

module _ {X : Type 0} where
  pub some_is : (x : X) → Some x ≢ None
  some_is x e = subst (λ o. T (is_some o)) e tt

  -- where names begin
  all_append : (n : ℕ) (es fs : List (List ℕ × X)) → AllFrom n es → AllFrom n fs → AllFrom n (es ++ fs)
  all_append n [] fs g h = h
  all_append n (e ∷ es) fs g h = (g.0, all_append n es fs g.1 h)

  all_lower : (m n : ℕ) (es : List (List ℕ × X)) → m ≤ n → AllFrom n es → AllFrom m es
  all_lower m n [] p h = tt
  all_lower m n (e ∷ es) p h = (begins_lower m n e.0 p h.0, all_lower m n es p h.1)

  all_under : (n c : ℕ) (l : List ℕ) (es : List (List ℕ × X)) → n ≤ c → AllFrom n (under (c ∷ l) es)
  all_under n c l [] p = tt
  all_under n c l (e ∷ es) p = (p, all_under n c l es p)

  pub all_put : (n : ℕ) (q : List ℕ) (v : X) (es : List (List ℕ × X)) → BeginsFrom n q → AllFrom n es → AllFrom n (put_path q v es)
  all_put n q v [] p h = (p, tt)
  all_put n q v (e ∷ es) p h =
      elim (order q e.0) as (λ o. AllFrom n (by_order o ((q, v) ∷ e ∷ es) ((e.0, v) ∷ es) (e ∷ put_path q v es))) [
        | Less ↦ (p, h)
        | Equal ↦ h
        | Greater ↦ (h.0, all_put n q v es p h.1)
      ]

  pub put_filled : (q : List ℕ) (v : X) (es : List (List ℕ × X)) → 1 ≤ length (put_path q v es)
  put_filled q v [] = omega arith
  put_filled q v (e ∷ es) =
      elim (order q e.0) as (λ o. 1 ≤ length (by_order o ((q, v) ∷ e ∷ es) ((e.0, v) ∷ es) (e ∷ put_path q v es))) [
        | Less ↦ omega arith
        | Equal ↦ omega arith
        | Greater ↦ omega arith
      ]

  -- look-ups
  missed : (b : Bool) (x : X) (o p r : Option X) → (o ≡ None → p ≡ r) → cond b (Some x) o ≡ None → cond b (Some x) p ≡ r
  missed true x o p r more h = absurd (some_is x h)
  missed false x o p r more h = more h

  find_over : (q : List ℕ) (es fs : List (List ℕ × X)) → find_path q es ≡ None → find_path q (es ++ fs) ≡ find_path q fs
  find_over q [] fs h = refl
  find_over q (e ∷ es) fs h = missed (eq_by_cmp (slice_cmp nat_cmp) q e.0) e.1 (find_path q es) (find_path q (es ++ fs)) (find_path q fs) (find_over q es fs) h

  find_left : (q : List ℕ) (es fs : List (List ℕ × X)) → find_path q fs ≡ None → find_path q (es ++ fs) ≡ find_path q es
  find_left q [] fs h = h
  find_left q (e ∷ es) fs h = ap (cond (eq_by_cmp (slice_cmp nat_cmp) q e.0) (Some e.1)) (find_left q es fs h)

  find_rising : (x n : ℕ) (q : List ℕ) (es : List (List ℕ × X)) → x < n → AllFrom n es → find_path (x ∷ q) es ≡ None
  find_rising x n q [] p h = refl
  find_rising x n q (e ∷ es) p h = ap (λ o. cond (is_eq o) (Some e.1) (find_path (x ∷ q) es)) (before x n q e.0 p h.0) ∙ find_rising x n q es p h.1

  pub find_above : (c : ℕ) (q : List ℕ) (es : List (List ℕ × X)) → AllFrom (suc c) es → find_path (c ∷ q) es ≡ None
  find_above c q es h = find_rising c (suc c) q es (omega arith) h

  pub find_nothing : (es : List (List ℕ × X)) → AllFrom 0 es → find_path [] es ≡ None
  find_nothing [] h = refl
  find_nothing (e ∷ es) h = ap (λ o. cond (is_eq o) (Some e.1) (find_path [] es)) (nothing_before e.0 h.0) ∙ find_nothing es h.1

  find_under : (l r : List ℕ) (es : List (List ℕ × X)) → find_path (l ++ r) (under l es) ≡ find_path r es
  find_under l r [] = refl
  find_under l r (e ∷ es) = λ i. cond (is_eq (order_under l r e.0 i)) (Some e.1) (find_under l r es i)

  untied : (b : Bool) (x : X) (o : Option X) → (b ≢ true) → o ≡ None → cond b (Some x) o ≡ None
  untied true x o not_tied h = absurd (not_tied refl)
  untied false x o not_tied h = h

  pub find_apart : (q l : List ℕ) (es : List (List ℕ × X)) → ((rest : List ℕ) → q ≢ l ++ rest) → find_path q (under l es) ≡ None
  find_apart q l [] apart = refl
  find_apart q l (e ∷ es) apart = untied (eq_by_cmp (slice_cmp nat_cmp) q (l ++ e.0)) e.1 (find_path q (under l es)) (λ tie. apart e.0 (tied_same q (l ++ e.0) tie)) (find_apart q l es apart)

  find_own : (v : Option X) (b : List (List ℕ × X)) → AllFrom 0 b → find_path [] (own v ++ b) ≡ v
  find_own None b h = find_nothing b h
  find_own (Some x) b h = refl

  find_past_own : (y : ℕ) (r : List ℕ) (v : Option X) (b : List (List ℕ × X)) → find_path (y ∷ r) (own v ++ b) ≡ find_path (y ∷ r) b
  find_past_own y r None b = refl
  find_past_own y r (Some x) b = refl

  find_within : (l r : List ℕ) (v : Option X) (b n : List (List ℕ × X)) → IsPlaced l b n → find_path (l ++ r) (level l v b n) ≡ find_path r (own v ++ b)
  find_within [] r v b n h = absurd h.labelled
  find_within (c ∷ l) r v b n h =
      find_left ((c ∷ l) ++ r) (under (c ∷ l) (own v ++ b)) n (find_rising c (suc c) (l ++ r) n (omega arith) h.rising)
      ∙ find_under (c ∷ l) r (own v ++ b)

  -- at a node, below it, and among its later siblings
  pub find_at : (q l r : List ℕ) (v : Option X) (b n : List (List ℕ × X)) → IsPlaced l b n → q ≡ l ++ r → r ≡ [] → find_path q (level l v b n) ≡ v
  find_at q l r v b n h e f =
      ap (λ p. find_path p (level l v b n)) e ∙ find_within l r v b n h ∙ ap (λ p. find_path p (own v ++ b)) f ∙ find_own v b h.below_filled

  find_past : (r : List ℕ) (v : Option X) (b : List (List ℕ × X)) → r ≢ [] → find_path r (own v ++ b) ≡ find_path r b
  find_past [] v b f = absurd (f refl)
  find_past (y ∷ r) v b f = find_past_own y r v b

  pub find_below : (q l r : List ℕ) (v : Option X) (b n : List (List ℕ × X)) → IsPlaced l b n → q ≡ l ++ r → r ≢ [] → find_path q (level l v b n) ≡ find_path r b
  find_below q l r v b n h e f = ap (λ p. find_path p (level l v b n)) e ∙ find_within l r v b n h ∙ find_past r v b f

  pub find_next : (q l : List ℕ) (v : Option X) (b n : List (List ℕ × X)) → ((rest : List ℕ) → q ≢ l ++ rest) → find_path q (level l v b n) ≡ find_path q n
  find_next q l v b n apart = find_over q (under l (own v ++ b)) n (find_apart q l (own v ++ b) apart)

  -- changes
  put_first : (x n : ℕ) (q : List ℕ) (v : X) (es : List (List ℕ × X)) → x < n → AllFrom n es → put_path (x ∷ q) v es ≡ (x ∷ q, v) ∷ es
  put_first x n q v [] p h = refl
  put_first x n q v (e ∷ es) p h = ap (λ o. by_order o ((x ∷ q, v) ∷ e ∷ es) ((e.0, v) ∷ es) (e ∷ put_path (x ∷ q) v es)) (before x n q e.0 p h.0)

  put_nothing : (x : X) (v : Option X) (b : List (List ℕ × X)) → AllFrom 0 b → put_path [] x (own v ++ b) ≡ own (Some x) ++ b
  put_nothing x None [] h = refl
  put_nothing x None (e ∷ b) h = ap (λ o. by_order o (([], x) ∷ e ∷ b) ((e.0, x) ∷ b) (e ∷ put_path [] x b)) (nothing_before e.0 h.0)
  put_nothing x (Some w) b h = refl

  put_past_own : (r : List ℕ) (x : X) (v : Option X) (b : List (List ℕ × X)) → r ≢ [] → put_path r x (own v ++ b) ≡ own v ++ put_path r x b
  put_past_own [] x v b f = absurd (f refl)
  put_past_own (y ∷ r) x None b f = refl
  put_past_own (y ∷ r) x (Some w) b f = refl

  put_under : (l r : List ℕ) (x : X) (es : List (List ℕ × X)) → put_path (l ++ r) x (under l es) ≡ under l (put_path r x es)
  put_under l r x [] = refl
  put_under l r x (e ∷ es) =
      (λ i. by_order (order_under l r e.0 i) ((l ++ r, x) ∷ under l (e ∷ es)) ((l ++ e.0, x) ∷ under l es) ((l ++ e.0, e.1) ∷ put_under l r x es i))
      ∙ elim (order r e.0) as (λ o. by_order o ((l ++ r, x) ∷ under l (e ∷ es)) ((l ++ e.0, x) ∷ under l es) ((l ++ e.0, e.1) ∷ under l (put_path r x es)) ≡ under l (by_order o ((r, x) ∷ e ∷ es) ((e.0, x) ∷ es) (e ∷ put_path r x es))) [
        | Less ↦ refl
        | Equal ↦ refl
        | Greater ↦ refl
      ]

  put_left : (c : ℕ) (q : List ℕ) (x : X) (es fs : List (List ℕ × X)) → AllFrom (suc c) fs → put_path (c ∷ q) x (es ++ fs) ≡ put_path (c ∷ q) x es ++ fs
  put_left c q x [] fs h = put_first c (suc c) q x fs (omega arith) h
  put_left c q x (e ∷ es) fs h =
      ap (λ xs. by_order (order (c ∷ q) e.0) ((c ∷ q, x) ∷ e ∷ (es ++ fs)) ((e.0, x) ∷ (es ++ fs)) (e ∷ xs)) (put_left c q x es fs h)
      ∙ elim (order (c ∷ q) e.0) as (λ o. by_order o ((c ∷ q, x) ∷ e ∷ (es ++ fs)) ((e.0, x) ∷ (es ++ fs)) (e ∷ (put_path (c ∷ q) x es ++ fs)) ≡ by_order o ((c ∷ q, x) ∷ e ∷ es) ((e.0, x) ∷ es) (e ∷ put_path (c ∷ q) x es) ++ fs) [
        | Less ↦ refl
        | Equal ↦ refl
        | Greater ↦ refl
      ]

  put_later : (c y : ℕ) (l q : List ℕ) (x : X) (es fs : List (List ℕ × X)) → c < y → put_path (y ∷ q) x (under (c ∷ l) es ++ fs) ≡ under (c ∷ l) es ++ put_path (y ∷ q) x fs
  put_later c y l q x [] fs p = refl
  put_later c y l q x (e ∷ es) fs p =
      ap (λ o. by_order (ordering_then o (order q (l ++ e.0))) ((y ∷ q, x) ∷ (under (c ∷ l) (e ∷ es) ++ fs)) (((c ∷ l) ++ e.0, x) ∷ (under (c ∷ l) es ++ fs)) (((c ∷ l) ++ e.0, e.1) ∷ put_path (y ∷ q) x (under (c ∷ l) es ++ fs))) (more_of y c p)
      ∙ ap (λ xs. ((c ∷ l) ++ e.0, e.1) ∷ xs) (put_later c y l q x es fs p)

  put_within : (l r : List ℕ) (x : X) (v : Option X) (b n : List (List ℕ × X)) → IsPlaced l b n → put_path (l ++ r) x (level l v b n) ≡ under l (put_path r x (own v ++ b)) ++ n
  put_within [] r x v b n h = absurd h.labelled
  put_within (c ∷ l) r x v b n h =
      put_left c (l ++ r) x (under (c ∷ l) (own v ++ b)) n h.rising
      ∙ ap (λ xs. xs ++ n) (put_under (c ∷ l) r x (own v ++ b))

  pub put_at : (q l r : List ℕ) (x : X) (v : Option X) (b n : List (List ℕ × X)) → IsPlaced l b n → q ≡ l ++ r → r ≡ [] → put_path q x (level l v b n) ≡ level l (Some x) b n
  put_at q l r x v b n h e f =
      ap (λ p. put_path p x (level l v b n)) (e ∙ ap (λ p. l ++ p) f) ∙ put_within l [] x v b n h ∙ ap (λ xs. under l xs ++ n) (put_nothing x v b h.below_filled)

  pub put_below : (q l r : List ℕ) (x : X) (v : Option X) (b n : List (List ℕ × X)) → IsPlaced l b n → q ≡ l ++ r → r ≢ [] → put_path q x (level l v b n) ≡ level l v (put_path r x b) n
  put_below q l r x v b n h e f =
      ap (λ p. put_path p x (level l v b n)) e ∙ put_within l r x v b n h ∙ ap (λ xs. under l xs ++ n) (put_past_own r x v b f)

  pub put_next : (l q : List ℕ) (x : X) (v : Option X) (b n : List (List ℕ × X)) → IsPlaced l b n → BeginsFrom (suc (first_byte l)) q → put_path q x (level l v b n) ≡ level l v b (put_path q x n)
  put_next [] q x v b n h p = absurd h.labelled
  put_next (c ∷ l) [] x v b n h p = absurd p
  put_next (c ∷ l) (y ∷ q) x v b n h p = put_later c y l q x (own v ++ b) n (omega arith)

  pub all_level : (m : ℕ) (l : List ℕ) (v : Option X) (b n : List (List ℕ × X)) → IsPlaced l b n → m ≤ first_byte l → AllFrom m (level l v b n)
  all_level m [] v b n h p = absurd h.labelled
  all_level m (c ∷ l) v b n h p = all_append m (under (c ∷ l) (own v ++ b)) n (all_under m c l (own v ++ b) p) (all_lower m (suc c) n (omega arith) h.rising)

  -- a path that begins with a smaller byte than all names comes first
  pub put_front : (q : List ℕ) (x : X) (es : List (List ℕ × X)) → BeginsFrom 0 q → AllFrom (suc (first_byte q)) es → put_path q x es ≡ (q, x) ∷ es
  put_front [] x es h p = absurd h
  put_front (c ∷ q) x es h p = put_first c (suc c) q x es (omega arith) p

  under_twice : (f t : List ℕ) (es : List (List ℕ × X)) → under (f ++ t) es ≡ under f (under t es)
  under_twice f t [] = refl
  under_twice f t (e ∷ es) = λ i. (joined f t e.0 i, e.1) ∷ under_twice f t es i

  -- a label that is cut
  pub level_cut : (f t : List ℕ) (v : Option X) (b n : List (List ℕ × X)) → level (f ++ t) v b n ≡ level f None (level t v b []) n
  level_cut f t v b n = ap (λ xs. xs ++ n) (under_twice f t (own v ++ b) ∙ ap (under f) (sym (append-nil (under t (own v ++ b)))))
