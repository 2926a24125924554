-- What is found in a map of blocks, and what becomes of it where one block changes.
use Rattle.std.proofs.Common.{◌≡◌, ◌≢◌, ℕ, ◌+◌, ◌*◌, ◌/◌, ◌%◌, cond, List, [], ◌∷◌, Option, Some, None, refl, sym, ap, ◌∙◌, arith}
use Rattle.std.specs.Ordering.{nat_cmp, eq_by_cmp}
use Rattle.std.specs.Cmp.{nat_cmp_total}
use Rattle.std.specs.Map.{lookup}
use Rattle.std.specs.BTreeMap.{is_at}
use Rattle.std.specs.FinMap.{FinMap, empty, get, insert, get-empty, get-insert, same_map, nat_cmp-IsAntisymmetric}
use Rattle.std.proofs.lemmas.Bool.{cases_eq}
use Rattle.std.proofs.Math.Logic.{⊎_elim}
use Rattle.ordered_map.specs.Places.{at_number, with_places, numbers}
use Rattle.ordered_map.proofs.NumberPlaces.{same_number, other_number, inside, outside, get-at_number, at_itself, at_another}

module _ {X : Type 0} where
  -- the value at a place of a block, if there is one
  abbrev pub place_in : Option (FinMap nat_cmp X) → ℕ → Option X
  place_in None i = None
  place_in (Some m) i = get m i

  abbrev pub block_of : ℕ → List (ℕ × FinMap nat_cmp X) → Option (FinMap nat_cmp X)
  block_of b es = lookup (is_at (nat_cmp b)) es

  pub no_numbers : numbers [] ≡ empty {X = X} {R = nat_cmp}
  unfolding numbers
  no_numbers = refl

  in_head : (e : ℕ × FinMap nat_cmp X) (es : List (ℕ × FinMap nat_cmp X)) (q : ℕ) → q / 32 ≡ e.0 → get (numbers (e ∷ es)) q ≡ place_in (block_of (q / 32) (e ∷ es)) (q % 32)
  unfolding numbers
  in_head e es q is =
      let at : q ≡ e.0 * 32 + q % 32 = omega arith in
      ap (get (with_places (e.0 * 32) (get e.1) (numbers es) 32)) at ∙ inside (e.0 * 32) (get e.1) (numbers es) 32 (q % 32) (omega arith)
      ∙ sym (ap (λ k. place_in (cond (eq_by_cmp nat_cmp k e.0) (Some e.1) (block_of k es)) (q % 32)) is
      ∙ ap (λ b. place_in (cond b (Some e.1) (block_of e.0 es)) (q % 32)) (same_number e.0))

  in_tail : (e : ℕ × FinMap nat_cmp X) (es : List (ℕ × FinMap nat_cmp X)) (q : ℕ) → q / 32 ≢ e.0 → get (numbers es) q ≡ place_in (block_of (q / 32) es) (q % 32)
      → get (numbers (e ∷ es)) q ≡ place_in (block_of (q / 32) (e ∷ es)) (q % 32)
  unfolding numbers
  in_tail e es q ne rest =
      outside (e.0 * 32) (get e.1) (numbers es) 32 q (λ i l same. ne (omega arith)) ∙ rest
      ∙ ap (λ b. place_in (cond b (Some e.1) (block_of (q / 32) es)) (q % 32)) (sym (other_number (q / 32) e.0 ne))

  pub get-numbers : (es : List (ℕ × FinMap nat_cmp X)) (q : ℕ) → get (numbers es) q ≡ place_in (block_of (q / 32) es) (q % 32)
  unfolding numbers
  get-numbers [] q = get-empty nat_cmp q
  get-numbers (e ∷ es) q = ⊎_elim (λ is. in_head e es q is) (λ ne. in_tail e es q ne (get-numbers es q)) (cases_eq (q / 32) e.0)

  -- fs has w as its block b, and else what es has
  abbrev pub OneBlock : ℕ → Option (FinMap nat_cmp X) → List (ℕ × FinMap nat_cmp X) → List (ℕ × FinMap nat_cmp X) → Type 0
  OneBlock b w es fs = (q : ℕ) → block_of q fs ≡ cond (is_at (nat_cmp b) q) w (block_of q es)

  that_block : (b : ℕ) (w : Option (FinMap nat_cmp X)) (es fs : List (ℕ × FinMap nat_cmp X)) → OneBlock b w es fs → block_of b fs ≡ w
  that_block b w es fs h = h b ∙ ap (λ t. cond t w (block_of b es)) (same_number b)

  other_block : (b : ℕ) (w : Option (FinMap nat_cmp X)) (es fs : List (ℕ × FinMap nat_cmp X)) → OneBlock b w es fs → (q : ℕ) → q ≢ b → block_of q fs ≡ block_of q es
  other_block b w es fs h q ne = h q ∙ ap (λ t. cond t w (block_of q es)) (other_number b q (λ e. ne (sym e)))

  -- a block with the same values at its places
  pub block_kept : (b : ℕ) (w : Option (FinMap nat_cmp X)) (es fs : List (ℕ × FinMap nat_cmp X)) → OneBlock b w es fs
      → ((i : ℕ) → place_in w i ≡ place_in (block_of b es) i) → numbers fs ≡ numbers es
  block_kept b w es fs h same = same_map nat_cmp_total nat_cmp-IsAntisymmetric _ _ (λ q.
      get-numbers fs q
      ∙ ⊎_elim
      (λ is. ap (λ k. place_in (block_of k fs) (q % 32)) is ∙ ap (λ o. place_in o (q % 32)) (that_block b w es fs h) ∙ same (q % 32) ∙ ap (λ k. place_in (block_of k es) (q % 32)) (sym is))
      (λ ne. ap (λ o. place_in o (q % 32)) (other_block b w es fs h (q / 32) ne))
      (cases_eq (q / 32) b)
      ∙ sym (get-numbers es q))

  -- a block with something else at the place of the number k
  pub block_changed : (k : ℕ) (o : Option X) (w : Option (FinMap nat_cmp X)) (es fs : List (ℕ × FinMap nat_cmp X)) → OneBlock (k / 32) w es fs
      → ((i : ℕ) → place_in w i ≡ cond (eq_by_cmp nat_cmp i (k % 32)) o (place_in (block_of (k / 32) es) i)) → numbers fs ≡ at_number (numbers es) k o
  block_changed k o w es fs h change = same_map nat_cmp_total nat_cmp-IsAntisymmetric _ _ (λ q.
      ⊎_elim
      (λ is. ap (get (numbers fs)) is ∙ get-numbers fs k ∙ ap (λ t. place_in t (k % 32)) (that_block (k / 32) w es fs h) ∙ change (k % 32)
      ∙ ap (λ b. cond b o (place_in (block_of (k / 32) es) (k % 32))) (same_number (k % 32)) ∙ sym (at_itself (numbers es) k o) ∙ ap (get (at_number (numbers es) k o)) (sym is))
      (λ ne. get-numbers fs q
      ∙ ⊎_elim
      (λ same. let other : q % 32 ≢ k % 32 = (λ e. ne (omega arith)) in
      ap (λ t. place_in (block_of t fs) (q % 32)) same ∙ ap (λ t. place_in t (q % 32)) (that_block (k / 32) w es fs h) ∙ change (q % 32)
      ∙ ap (λ b. cond b o (place_in (block_of (k / 32) es) (q % 32))) (other_number (q % 32) (k % 32) other) ∙ ap (λ t. place_in (block_of t es) (q % 32)) (sym same))
      (λ other. ap (λ t. place_in t (q % 32)) (other_block (k / 32) w es fs h (q / 32) other))
      (cases_eq (q / 32) (k / 32))
      ∙ sym (get-numbers es q) ∙ sym (at_another (numbers es) k o q ne))
      (cases_eq q k))

  module _ (k : ℕ) (es : List (ℕ × FinMap nat_cmp X)) where
    -- what the number's block has is what the map has
    pub found_in : (o : Option (FinMap nat_cmp X)) → o ≡ block_of (k / 32) es → place_in o (k % 32) ≡ get (numbers es) k
    found_in o is = ap (λ t. place_in t (k % 32)) is ∙ sym (get-numbers es k)

    module _ (fs : List (ℕ × FinMap nat_cmp X)) (b m : FinMap nat_cmp X) (was : Some b ≡ block_of (k / 32) es) (h : OneBlock (k / 32) (Some m) es fs) where
      -- the block changed at the number's place
      pub changed_to : (p : ℕ) (o : Option X) → p ≡ k % 32 → m ≡ at_number b p o → numbers fs ≡ at_number (numbers es) k o
      changed_to p o at is = block_changed k o (Some m) es fs h (λ i.
          ap (λ t. get t i) is ∙ ap (λ q. get (at_number b q o) i) at ∙ get-at_number b (k % 32) o i ∙ ap (λ t. cond (eq_by_cmp nat_cmp i (k % 32)) o (place_in t i)) was)

      -- it was lent, and stayed
      pub kept_at : m ≡ b → numbers fs ≡ numbers es
      kept_at is = block_kept (k / 32) (Some m) es fs h (λ i. ap (λ t. get t i) is ∙ ap (λ t. place_in t i) was)

      -- it has no value left, and was let go
      pub let_go : (gs : List (ℕ × FinMap nat_cmp X)) → m ≡ empty → OneBlock (k / 32) None fs gs → numbers gs ≡ numbers fs
      let_go gs is g = block_kept (k / 32) None fs gs g (λ i.
          sym (get-empty nat_cmp i) ∙ ap (λ t. get t i) (sym is) ∙ ap (λ t. place_in t i) (sym (that_block (k / 32) (Some m) es fs h)))

    -- the first number of a new block
    pub first_of : (fs : List (ℕ × FinMap nat_cmp X)) (m : FinMap nat_cmp X) (p : ℕ) (v : X) → None ≡ block_of (k / 32) es → OneBlock (k / 32) (Some m) es fs
        → p ≡ k % 32 → m ≡ insert empty p v → numbers fs ≡ insert (numbers es) k v
    first_of fs m p v was h at is = block_changed k (Some v) (Some m) es fs h (λ i.
        ap (λ t. get t i) is ∙ ap (λ q. get {R = nat_cmp} (insert empty q v) i) at ∙ get-insert nat_cmp_total empty (k % 32) v i
        ∙ ap (cond (eq_by_cmp nat_cmp i (k % 32)) (Some v)) (get-empty nat_cmp i ∙ ap (λ t. place_in t i) was))
