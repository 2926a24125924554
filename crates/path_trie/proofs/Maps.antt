-- The names of a tree as a finite map.
use Rattle.std.proofs.Common.{◌≡◌, ℕ, ◌+◌, ◌-◌, ◌&&◌, Bor, option_copied, Bool, true, false, cond, not, T, List, [], ◌∷◌, length, Option, Some, None, is_some, refl, sym, ap, subst, ◌∙◌, arith}
use Rattle.std.specs.Ordering.{nat_cmp, eq_by_cmp}
use Rattle.std.specs.Cmp.{eq_by_cmp_equiv}
use Rattle.std.specs.Cmp.Lexicographic.{slice_cmp, nat_list_cmp_total}
use Rattle.std.specs.FinMap.{IsAntisymmetric, get, entries, insert, remove, len, is_sorted, from_entries, from_sorted, get-from_entries, get-from_sorted, entries-from_sorted, get-insert, get-remove, len-entries, same_map, slice_cmp-IsAntisymmetric, nat_cmp-IsAntisymmetric}
use Rattle.std.specs.declared.cmp.Ordering.TheVariants.{Less, Equal, Greater}
use Rattle.std.specs.Str.{is_utf8}
use Rattle.std.specs.FinMap.Entries.{by_order, is_sorted-put, is_sorted-where_key, find-put, find-where_key, length-put, length_without}
use Rattle.label_tree.specs.Entries.{find_path, put_path, without_path}
use mir.Val.{bool_byte}
use Rattle.path_trie.specs.Texts.{Names, are_texts}
use Rattle.path_trie.proofs.Rests.{and_first, and_second}
use Rattle.path_trie.specs.Counts.{IsCounted}

-- equal paths have equal bytes
pub bytes_exact : IsAntisymmetric (slice_cmp nat_cmp)
bytes_exact = slice_cmp-IsAntisymmetric nat_cmp-IsAntisymmetric

turned : {A : Type 0} (t : Bool) (x y : A) → cond (not t) x y ≡ cond t y x
turned true x y = refl
turned false x y = refl

both_texts : (a b : Bool) → a ≡ true → b ≡ true → (a && b) ≡ true
both_texts true b p h = h
both_texts false b p h = p

module _ {X : Type 0} where
  -- the finite map that these entries stand for
  abbrev pub names_of : List (List ℕ × X) → Names X
  names_of es = from_entries es

  pub get_names : (es : List (List ℕ × X)) (q : List ℕ) → get (names_of es) q ≡ find_path q es
  get_names es q = get-from_entries nat_list_cmp_total es q

  -- the finite map has these very entries
  pub entries_names : (es : List (List ℕ × X)) → T (is_sorted (slice_cmp nat_cmp) es) → entries (names_of es) ≡ es
  entries_names es h =
      let same : names_of es ≡ from_sorted es = same_map nat_list_cmp_total bytes_exact _ _ (λ q. get-from_entries nat_list_cmp_total es q ∙ sym (get-from_sorted (slice_cmp nat_cmp) es q h)) in
      ap entries same ∙ entries-from_sorted (slice_cmp nat_cmp) es h

  pub len_names : (es : List (List ℕ × X)) (count : ℕ) → IsCounted es count → count ≡ len (names_of es)
  len_names es count h = h.counted ∙ sym (len-entries (names_of es) ∙ ap length (entries_names es h.sorted))

  pub inserted : (k : List ℕ) (v : X) (es : List (List ℕ × X)) → names_of (put_path k v es) ≡ insert (names_of es) k v
  inserted k v es = same_map nat_list_cmp_total bytes_exact _ _ (λ q.
      get-from_entries nat_list_cmp_total (put_path k v es) q
      ∙ find-put (slice_cmp nat_cmp) nat_list_cmp_total q k v es
      ∙ ap (cond (eq_by_cmp (slice_cmp nat_cmp) q k) (Some v)) (sym (get_names es q))
      ∙ sym (get-insert nat_list_cmp_total (names_of es) k v q))

  pub removed : (k : List ℕ) (es : List (List ℕ × X)) → names_of (without_path k es) ≡ remove (names_of es) k
  removed k es = same_map nat_list_cmp_total bytes_exact _ _ (λ q.
      get-from_entries nat_list_cmp_total (without_path k es) q
      ∙ find-where_key (slice_cmp nat_cmp) (λ x. not (eq_by_cmp (slice_cmp nat_cmp) k x)) q (λ x t. ap (λ y. not (eq_by_cmp (slice_cmp nat_cmp) k y)) (sym (bytes_exact q x t))) es
      ∙ turned (eq_by_cmp (slice_cmp nat_cmp) k q) (find_path q es) None
      ∙ ap (λ b. cond b None (find_path q es)) ((eq_by_cmp_equiv nat_list_cmp_total).symm k q)
      ∙ ap (cond (eq_by_cmp (slice_cmp nat_cmp) q k) None) (sym (get_names es q))
      ∙ sym (get-remove nat_list_cmp_total (names_of es) k q))

  -- texts
  texts_put : (k : List ℕ) (v : X) (es : List (List ℕ × X)) → is_utf8 k ≡ true → are_texts es ≡ true → are_texts (put_path k v es) ≡ true
  texts_put k v [] text h = both_texts (is_utf8 k) true text refl
  texts_put k v (e ∷ es) text h =
      elim (slice_cmp nat_cmp k e.0) as (λ o. are_texts (by_order o ((k, v) ∷ e ∷ es) ((e.0, v) ∷ es) (e ∷ put_path k v es)) ≡ true) [
        | Less ↦ both_texts (is_utf8 k) (are_texts (e ∷ es)) text h
        | Equal ↦ h
        | Greater ↦ both_texts (is_utf8 e.0) (are_texts (put_path k v es)) (and_first (is_utf8 e.0) (are_texts es) h) (texts_put k v es text (and_second (is_utf8 e.0) (are_texts es) h))
      ]

  kept_texts : (t : Bool) (e : List ℕ × X) (es : List (List ℕ × X)) → is_utf8 e.0 ≡ true → are_texts es ≡ true → are_texts (cond t (e ∷ es) es) ≡ true
  kept_texts true e es text h = both_texts (is_utf8 e.0) (are_texts es) text h
  kept_texts false e es text h = h

  texts_without : (k : List ℕ) (es : List (List ℕ × X)) → are_texts es ≡ true → are_texts (without_path k es) ≡ true
  texts_without k [] h = refl
  texts_without k (e ∷ es) h = kept_texts (not (eq_by_cmp (slice_cmp nat_cmp) k e.0)) e (without_path k es) (and_first (is_utf8 e.0) (are_texts es) h) (texts_without k es (and_second (is_utf8 e.0) (are_texts es) h))

  -- counts
  counted_new : (k : List ℕ) (v : X) (es : List (List ℕ × X)) (count : ℕ) → is_utf8 k ≡ true → IsCounted es count → find_path k es ≡ None → IsCounted (put_path k v es) (count + 1)
  counted_new k v es count text h none = record {
    sorted = is_sorted-put (slice_cmp nat_cmp) nat_list_cmp_total k v es h.sorted;
    counted = ap (λ n. n + 1) h.counted ∙ sym (length-put (slice_cmp nat_cmp) nat_list_cmp_total k v es h.sorted ∙ ap (λ o. cond (is_some o) (length es) (length es + 1)) none);
    texts = texts_put k v es text h.texts;
  }

  counted_same : (k : List ℕ) (v : X) (es : List (List ℕ × X)) (count : ℕ) → is_utf8 k ≡ true → IsCounted es count → is_some (find_path k es) ≡ true → IsCounted (put_path k v es) count
  counted_same k v es count text h some = record {
    sorted = is_sorted-put (slice_cmp nat_cmp) nat_list_cmp_total k v es h.sorted;
    counted = h.counted ∙ sym (length-put (slice_cmp nat_cmp) nat_list_cmp_total k v es h.sorted ∙ ap (λ t. cond t (length es) (length es + 1)) some);
    texts = texts_put k v es text h.texts;
  }

  pub one_fewer : (k : List ℕ) (es : List (List ℕ × X)) (count : ℕ) → IsCounted es count → is_some (find_path k es) ≡ true → count ≡ 1 + length (without_path k es)
  one_fewer k es count h some = h.counted ∙ sym (ap (λ t. cond t 1 0 + length (without_path k es)) (sym some) ∙ length_without (slice_cmp nat_cmp) nat_list_cmp_total k es h.sorted)

  pub none_fewer : (k : List ℕ) (es : List (List ℕ × X)) (count : ℕ) → IsCounted es count → is_some (find_path k es) ≡ false → count ≡ length (without_path k es)
  none_fewer k es count h none =
      let left : 0 + length (without_path k es) ≡ length es = ap (λ t. cond t 1 0 + length (without_path k es)) (sym none) ∙ length_without (slice_cmp nat_cmp) nat_list_cmp_total k es h.sorted in
      omega (arith, h.counted, left)

  pub sorted_without : (k : List ℕ) (es : List (List ℕ × X)) (count : ℕ) → IsCounted es count → T (is_sorted (slice_cmp nat_cmp) (without_path k es))
  sorted_without k es count h = is_sorted-where_key (slice_cmp nat_cmp) (λ x. not (eq_by_cmp (slice_cmp nat_cmp) k x)) es h.sorted

  none_of : (o : Option X) → is_some o ≡ false → o ≡ None
  none_of None h = refl
  none_of (Some v) h = absurd (subst T h tt)

  -- what is put in is counted where it is new
  pub counted_put : (k : List ℕ) (v : X) (es : List (List ℕ × X)) (count : ℕ) (is_new : Bool) → is_utf8 k ≡ true → IsCounted es count → is_some (find_path k es) ≡ not is_new → IsCounted (put_path k v es) (count + bool_byte is_new)
  counted_put k v es count true text h new = counted_new k v es count text h (none_of (find_path k es) new)
  counted_put k v es count false text h old =
      let more : count ≡ count + 0 = omega arith in
      subst (IsCounted (put_path k v es)) more (counted_same k v es count text h old)

  -- what is taken out is counted no more
  pub counted_without : (k : List ℕ) (es : List (List ℕ × X)) (count : ℕ) (was_there : Bool) → IsCounted es count → is_some (find_path k es) ≡ was_there → IsCounted (without_path k es) (count - bool_byte was_there)
  counted_without k es count true h there =
      let fewer : count ≡ 1 + length (without_path k es) = one_fewer k es count h there in
      record { sorted = sorted_without k es count h; counted = omega (arith, fewer); texts = texts_without k es h.texts }
  counted_without k es count false h none =
      let fewer : count ≡ length (without_path k es) = none_fewer k es count h none in
      record { sorted = sorted_without k es count h; counted = omega (arith, fewer); texts = texts_without k es h.texts }

  -- what a look-up found
  pub found : (es : List (List ℕ × X)) (q p : List ℕ) (names : Names X) → names_of es ≡ names → q ≡ p → find_path q es ≡ get names p
  found es q p names is same = ap (λ k. find_path k es) same ∙ sym (get_names es p) ∙ ap (λ m. get m p) is

-- a reference that isn't there shows nothing
pub copied_is_some : {E : Type 0} (o : Option (Bor E)) → is_some (option_copied o) ≡ is_some o
copied_is_some None = refl
copied_is_some (Some b) = refl

pub copied_none : {E : Type 0} (o : Option (Bor E)) → is_some o ≡ false → option_copied o ≡ None
copied_none None h = refl
copied_none (Some b) h = absurd (subst T h tt)
