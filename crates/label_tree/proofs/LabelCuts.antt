-- Nodes whose labels are cut, branches, and nodes side by side.
use Rattle.std.proofs.Common.{◌≡◌, ◌≢◌, ℕ, zero, suc, ◌-◌, ◌≤◌, ◌<◌, List, [], ◌∷◌, ◌++◌, take, drop, length, length-drop, take-append-drop, Option, Some, None, refl, sym, ap, subst, ◌∙◌, arith}
use Rattle.std.proofs.lemmas.List.{append-nil}
use Rattle.label_tree.specs.Fronts.{first_byte}
use Rattle.label_tree.specs.Turns.{IsCut}
use Rattle.label_tree.specs.Entries.{BeginsFrom, AllFrom, under, level, IsPlaced, IsNode, find_path, put_path}
use Rattle.label_tree.specs.Nodes.{says, IsWhole, IsLoose, IsBranch}
use Rattle.label_tree.specs.declared.node.TrieNode.{TrieNode}
use Rattle.label_tree.proofs.Levels.{all_level, all_put, put_at, put_below, put_next, put_front, level_cut, find_at, find_below, find_next, find_above}
use Rattle.label_tree.proofs.Joins.{begins_append, first_append, with_next, with_value, level_next}

zero_apart : (n : ℕ) → suc n ≢ 0
zero_apart n e = omega arith

filled_list : (y : ℕ) (r : List ℕ) → y ∷ r ≢ []
filled_list y r e = zero_apart (length r) (ap length e)

-- lists that begin
pub begins_some : (q : List ℕ) → 1 ≤ length q → BeginsFrom 0 q
begins_some [] h = absurd (omega arith)
begins_some (c ∷ q) h = omega arith

pub some_begins : (q : List ℕ) → BeginsFrom 0 q → 1 ≤ length q
some_begins [] h = absurd h
some_begins (c ∷ q) h = omega arith

pub begins_above : (a : ℕ) (q : List ℕ) → a < first_byte q → BeginsFrom (suc a) q
begins_above a [] h = absurd (omega arith)
begins_above a (c ∷ q) h = omega arith

pub first_take : (k : ℕ) (xs : List ℕ) → 1 ≤ k → first_byte (take k xs) ≡ first_byte xs
first_take zero xs h = absurd (omega arith)
first_take (suc k) [] h = refl
first_take (suc k) (x ∷ xs) h = refl

begins_take : (k : ℕ) (xs : List ℕ) → 1 ≤ k → BeginsFrom 0 xs → BeginsFrom 0 (take k xs)
begins_take zero xs h p = absurd (omega arith)
begins_take (suc k) [] h p = p
begins_take (suc k) (x ∷ xs) h p = omega arith

apart_first : (t r : List ℕ) → BeginsFrom 0 t → 1 ≤ length r → first_byte t ≢ first_byte r → (rest : List ℕ) → r ≢ t ++ rest
apart_first t r h some d rest e = d (sym (ap first_byte e ∙ first_append t rest h))

take_all : (xs : List ℕ) → take (length xs) xs ≡ xs
take_all [] = refl
take_all (x ∷ xs) = ap (λ ys. x ∷ ys) (take_all xs)

-- a slice from a place to the end
pub rest_all : (k : ℕ) (xs : List ℕ) → take (length xs - k) (drop k xs) ≡ drop k xs
rest_all k xs =
    let same : length xs - k ≡ length (drop k xs) = omega (arith, length-drop k xs) in
    ap (λ m. take m (drop k xs)) same ∙ take_all (drop k xs)

numbers_apart : (a b : ℕ) → a < b → a ≢ b
numbers_apart a b p e = omega arith

pub later_apart : (l p : List ℕ) → BeginsFrom 0 l → first_byte l < first_byte p → (rest : List ℕ) → p ≢ l ++ rest
later_apart l p h lt rest e = numbers_apart (first_byte l) (first_byte p) lt (sym (ap first_byte e ∙ first_append l rest h))

module _ {X : Type 0} where
  -- a node with its label cut, and one with another value
  abbrev pub front : ℕ → TrieNode X (List (List ℕ × X)) → TrieNode X (List (List ℕ × X))
  front k n = record { label = take k n.label; value = None; below = []; next = n.next }

  abbrev pub set_value : Option X → TrieNode X (List (List ℕ × X)) → TrieNode X (List (List ℕ × X))
  set_value v n = record { label = n.label; value = v; below = n.below; next = n.next }

  -- a branch before other names
  pub ahead : (n : TrieNode X (List (List ℕ × X))) (q : List ℕ) (x : X) (es : List (List ℕ × X)) → IsBranch n q x → AllFrom (suc (first_byte q)) es → level n.label n.value n.below es ≡ put_path q x es
  ahead n q x es b a =
      level_next n.label n.value n.below n.next es b.alone ∙ ap (λ xs. xs ++ es) b.only ∙ sym (put_front q x es b.filled a)

  pub ahead_node : (n : TrieNode X (List (List ℕ × X))) (q : List ℕ) (x : X) (es : List (List ℕ × X)) → IsBranch n q x → AllFrom (suc (first_byte q)) es → IsNode n.label n.value n.below es
  ahead_node n q x es b a = with_next n.label n.value n.below n.next es b.whole (subst (λ c. AllFrom (suc c) es) (sym b.begins) a)

  -- two siblings, by the first bytes of their labels
  pub first_node : (m n : TrieNode X (List (List ℕ × X))) → IsWhole m → IsLoose n → first_byte m.label < first_byte n.label → IsNode m.label m.value m.below (says n)
  first_node m n g h p = with_next m.label m.value m.below m.next (says n) g (all_level (suc (first_byte m.label)) n.label n.value n.below n.next h p)

  pub later_placed : (m n : TrieNode X (List (List ℕ × X))) → IsLoose m → IsWhole n → first_byte m.label < first_byte n.label → IsPlaced m.label m.below (says n)
  later_placed m n g h p = record { labelled = g.labelled; below_filled = g.below_filled; rising = all_level (suc (first_byte m.label)) n.label n.value n.below n.next h.placed p }

  pub leaf_first : (tail leaf : TrieNode X (List (List ℕ × X))) (q : List ℕ) (x : X) → IsLoose tail → IsBranch leaf q x → first_byte leaf.label < first_byte tail.label → level leaf.label leaf.value leaf.below (says tail) ≡ put_path q x (says tail)
  leaf_first tail leaf q x h b p =
      ahead leaf q x (says tail) b
      (all_level (suc (first_byte q)) tail.label tail.value tail.below tail.next h (subst (λ c. c < first_byte tail.label) b.begins p))

  pub leaf_later : (tail leaf : TrieNode X (List (List ℕ × X))) (q : List ℕ) (x : X) → IsLoose tail → tail.next ≡ [] → IsBranch leaf q x → first_byte tail.label < first_byte leaf.label → level tail.label tail.value tail.below (says leaf) ≡ put_path q x (says tail)
  leaf_later tail leaf q x h alone b p =
      ap (λ xs. level tail.label tail.value tail.below xs) (b.only ∙ ap (put_path q x) (sym alone))
      ∙ sym (put_next tail.label q x tail.value tail.below tail.next h (begins_above (first_byte tail.label) q (subst (λ c. first_byte tail.label < c) b.begins p)))

  -- a branch of one node, and of a node with a branch below it
  pub leaf_branch : (q : List ℕ) (x : X) → BeginsFrom 0 q → IsBranch (record { label = q; value = Some x; below = []; next = [] }) q x
  leaf_branch q x h = record {
    whole = with_value q x [] [] (record { labelled = h; below_filled = tt; rising = tt });
    only = ap (λ k. (k, x) ∷ []) (append-nil q);
    alone = refl;
    begins = refl;
    filled = h;
  }

  pub chain_node : (f : List ℕ) (b : List (List ℕ × X)) (r : List ℕ) (x : X) → BeginsFrom 0 f → 24 ≤ length f → BeginsFrom 0 r → b ≡ (r, x) ∷ [] → IsNode f None b []
  chain_node f b r x h full p e = record {
    placed = record { labelled = h; below_filled = subst (AllFrom 0) (sym e) (p, tt); rising = tt };
    alive = subst (λ es. 1 ≤ length es) (sym e) (omega arith);
    packed = λ same. record { front = r; rest = ([], x) ∷ []; alike = e ∙ ap (λ k. (k, x) ∷ []) (sym (append-nil r)); too_long = omega (arith, full, some_begins r p) };
  }

  pub chain_branch : (f : List ℕ) (b : List (List ℕ × X)) (q r : List ℕ) (x : X) → BeginsFrom 0 f → 24 ≤ length f → BeginsFrom 0 r → f ++ r ≡ q → b ≡ (r, x) ∷ [] → IsBranch (record { label = f; value = None; below = b; next = [] }) q x
  chain_branch f b q r x h full p e is = record {
    whole = chain_node f b r x h full p is;
    only = ap (λ es. under f es ++ []) is ∙ ap (λ k. (k, x) ∷ []) e;
    alone = refl;
    begins = sym (first_append f r h) ∙ ap first_byte e;
    filled = subst (BeginsFrom 0) e (begins_append f r h);
  }

  -- a label that is cut where a path leaves it
  module _ (l p : List ℕ) (k : ℕ) (v : Option X) (b n : List (List ℕ × X)) (h : IsNode l v b n) (c : IsCut l p k) where
    pub tail_placed : IsPlaced (drop k l) b []
    tail_placed = record {
      labelled = begins_some (drop k l) (omega (arith, length-drop k l, c.within));
      below_filled = h.placed.below_filled;
      rising = tt;
    }

    pub front_placed : (d : List (List ℕ × X)) → AllFrom 0 d → IsPlaced (take k l) d n
    front_placed d filled = record {
      labelled = begins_take k l c.some h.placed.labelled;
      below_filled = filled;
      rising = subst (λ a. AllFrom (suc a) n) (sym (first_take k l c.some)) h.placed.rising;
    }

    tail_filled : AllFrom 0 (level (drop k l) v b [])
    tail_filled = all_level 0 (drop k l) v b [] tail_placed (omega arith)

    -- the front with what was there
    bare_front : IsPlaced (take k l) (level (drop k l) v b []) n
    bare_front = front_placed (level (drop k l) v b []) tail_filled

    cut_says : level l v b n ≡ level (take k l) None (level (drop k l) v b []) n
    cut_says = ap (λ m. level m v b n) (sym (take-append-drop k l)) ∙ level_cut (take k l) (drop k l) v b n

    -- with a value at the cut
    pub put_at_cut : (x : X) → drop k p ≡ [] → level (take k l) (Some x) (level (drop k l) v b []) n ≡ put_path p x (level l v b n)
    put_at_cut x e = sym (ap (put_path p x) cut_says ∙ put_at p (take k l) (drop k p) x None (level (drop k l) v b []) n bare_front c.agrees e)

    pub at_cut_node : (x : X) → IsNode (take k l) (Some x) (level (drop k l) v b []) n
    at_cut_node x = with_value (take k l) x (level (drop k l) v b []) n bare_front

    -- with a branch beside the rest
    pub put_past_cut : (x : X) (d : List (List ℕ × X)) → drop k p ≢ [] → d ≡ put_path (drop k p) x (level (drop k l) v b []) → level (take k l) None d n ≡ put_path p x (level l v b n)
    put_past_cut x d more e =
        ap (λ es. level (take k l) None es n) e
        ∙ sym (ap (put_path p x) cut_says ∙ put_below p (take k l) (drop k p) x None (level (drop k l) v b []) n bare_front c.agrees more)

    pub past_cut_placed : (x : X) (d : List (List ℕ × X)) → BeginsFrom 0 (drop k p) → d ≡ put_path (drop k p) x (level (drop k l) v b []) → IsPlaced (take k l) d n
    past_cut_placed x d some e =
        front_placed d (subst (AllFrom 0) (sym e) (all_put 0 (drop k p) x (level (drop k l) v b []) some tail_filled))

    absent_past : (r : List ℕ) → p ≡ take k l ++ r → (1 ≤ length r → first_byte (drop k l) ≢ first_byte r) → find_path p (level (take k l) None (level (drop k l) v b []) n) ≡ None
    absent_past [] e d = find_at p (take k l) [] None (level (drop k l) v b []) n bare_front e refl
    absent_past (y ∷ r) e d =
        find_below p (take k l) (y ∷ r) None (level (drop k l) v b []) n bare_front e (λ is. filled_list y r is)
        ∙ find_next (y ∷ r) (drop k l) v b [] (apart_first (drop k l) (y ∷ r) tail_placed.labelled (omega arith) (d (omega arith)))

    pub absent_at_cut : find_path p (level l v b n) ≡ None
    absent_at_cut = ap (find_path p) cut_says ∙ absent_past (drop k p) c.agrees c.parts

  -- a path before all names
  pub absent_before : (q : List ℕ) (es : List (List ℕ × X)) → BeginsFrom 0 q → AllFrom (suc (first_byte q)) es → find_path q es ≡ None
  absent_before [] es h a = absurd h
  absent_before (c ∷ q) es h a = find_above c q es a
