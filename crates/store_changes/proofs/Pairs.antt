-- The first and the last block of a range that is written over.
use Rattle.std.proofs.Common.{◌≡◌, ℕ, suc, ◌+◌, ◌-◌, ◌*◌, ◌/◌, ◌%◌, ◌<◌, ◌≤◌, Bool, true, false, ◌&&◌, ◌||◌, ◌==◌, if◌then◌else◌, List, [], length, take, drop, refl, sym, ap, ◌∙◌, subst, arith, Option, Some, None}
use Rattle.std.specs.Prelude.{IfSome, nat_le}
use native.Mathlib.Nat.{suc-mul}
use Rattle.std.proofs.lemmas.Bool.Decides.{nat_tests}
use Rattle.std.proofs.lemmas.List.{drop_all, length-drop, length-take, length-take-le, take_all}
use Rattle.std.proofs.Math.Nat.{div-mul-le_self, lt-div-mul-add}
use Rattle.std.proofs.lemmas.Nat.{div-add-mod', div-mul-add}
use Rattle.disk.specs.Bytes.{range_at}
use Rattle.store_disk.proofs.Runs.{touched_is}
use Rattle.replica_store.specs.Replicas.{Replica, block_in, block_matches, blocks_match, is_writable}
use Rattle.store_changes.specs.Reading.{checked_part}
use Rattle.store_changes.specs.Edging.{AreLong, checked_edges, edges_around}
use Rattle.store_changes.specs.declared.edges.Edges.{Edges}
use Rattle.store_changes.proofs.Ends.{block_end}

both_true : (a b : Bool) → (a ≡ true → b ≡ true) → (b ≡ true → a ≡ true) → a ≡ b
both_true true true to from = refl
both_true true false to from = sym (to refl)
both_true false true to from = from refl
both_true false false to from = refl

-- one block
pub one_block : (block : ℕ) (r : Replica) (n : ℕ) → 1 ≤ block → checked_part block r (n * block) ((n + 1) * block) ≡ (if block_matches block r n then Some (block_in block n r.bytes) else None)
one_block block r n positive =
    let from = n * block in
    let to = (n + 1) * block in
    let next : n + 1 ≡ suc n = omega arith in
    let to_is : to ≡ from + block = ap (λ (k : ℕ). k * block) next ∙ omega (arith, suc-mul n block) in
    let size : to - from ≡ block = omega (arith, to_is) in
    let none : from ≡ n * block + 0 = omega arith in
    let first : from / block ≡ n = ap (λ (k : ℕ). k / block) none ∙ div-mul-add n block 0 (omega (arith, positive)) in
    let at : to - 1 ≡ n * block + (block - 1) = omega (arith, to_is, positive) in
    let last : (to - 1) / block ≡ n = ap (λ (k : ℕ). k / block) at ∙ div-mul-add n block (block - 1) (omega (arith, positive)) in
    let touched = touched_is block r from to in
    let same : blocks_match block r from to ≡ block_matches block r n =
    both_true (blocks_match block r from to) (block_matches block r n)
    (λ is. touched.0 is n (omega (arith, first)) (omega (arith, last)))
    (λ is. touched.1 (λ k low high. let it : k ≡ n = omega (arith, low, high, first, last) in ap (λ (m : ℕ). block_matches block r m) it ∙ is)) in
    ap (λ (k : ℕ). if blocks_match block r from to then Some (range_at r.bytes from k) else None) size
    ∙ ap (λ b. if b then Some (block_in block n r.bytes) else None) same

-- two tests
abbrev pub both_of : {A B : Type 0} → Bool → A → B → Option (A × B)
both_of b x y = if b then Some (x, y) else None

module _ {A B : Type 0} (x : A) (y : B) where
  pub first_none : (a b : Bool) → None ≡ (if a then Some x else None) → None ≡ both_of (a && b) x y
  first_none true b e = absurd cc
  first_none false b e = refl

  pub second_none : (a b : Bool) → None ≡ (if b then Some y else None) → None ≡ both_of (a && b) x y
  second_none true true e = absurd cc
  second_none true false e = refl
  second_none false b e = refl

  pub both_some : (a b : Bool) (u : A) (v : B) → Some u ≡ (if a then Some x else None) → Some v ≡ (if b then Some y else None) → ◌≡◌ {A = Option (A × B)} (Some (u, v)) (both_of (a && b) x y)
  both_some true true u v p q = let one : u ≡ x = cc in let two : v ≡ y = cc in λ i. Some (one i, two i)
  both_some true false u v p q = absurd cc
  both_some false b u v p q = absurd cc

and_both : (a b : Bool) → (a && b) ≡ true → (a ≡ true) × (b ≡ true)
and_both true b e = (refl, e)
and_both false b e = absurd cc

or_right : (a b : Bool) → b ≡ true → (a || b) ≡ true
or_right true b e = refl
or_right false b e = e

zero_test : (n : ℕ) → (n == 0) ≡ true → n ≡ 0
zero_test n e = grind (arith, nat_tests, e)

module _ (block : ℕ) (r : Replica) (offset end_place : ℕ) (positive : 1 ≤ block) (some : offset < end_place) where
  abbrev aligned : Bool
  aligned = ((offset % block) == 0) && ((end_place % block) == 0)

  abbrev match : Bool
  match = block_matches block r (offset / block) && block_matches block r ((end_place - 1) / block)

  longer : nat_le end_place offset ≡ false
  longer = grind (arith, nat_tests, some)

  -- no block keeps a part
  pub aligned_edges : aligned ≡ true → Some (record { before = []; after = [] }) ≡ checked_edges block r offset end_place
  aligned_edges is =
      let both = and_both ((offset % block) == 0) ((end_place % block) == 0) is in
      let starts : offset % block ≡ 0 = zero_test (offset % block) both.0 in
      let ends = block_end block end_place positive (omega (arith, some)) (zero_test (end_place % block) both.1) in
      let size : end_place - (end_place - 1) / block * block ≡ block = omega (arith, ends) in
      let last = block_in block ((end_place - 1) / block) r.bytes in
      let before : (edges_around block r offset end_place).before ≡ [] = ap (λ (n : ℕ). take n (block_in block (offset / block) r.bytes)) starts in
      let after : (edges_around block r offset end_place).after ≡ [] = ap (λ (n : ℕ). drop n last) size ∙ drop_all block last (omega (arith, length-take block (drop ((end_place - 1) / block * block) r.bytes))) in
      let writable : is_writable block r offset end_place ≡ true = ap (λ b. nat_le end_place offset || b || match) is ∙ ap (λ b. b || true || match) longer in
      (λ i. Some (record { before = sym before i; after = sym after i }))
      ∙ sym (ap (λ b. if b then Some (edges_around block r offset end_place) else None) writable)

  -- else both ends are looked at
  unaligned : aligned ≡ false → is_writable block r offset end_place ≡ match
  unaligned is = ap (λ b. nat_le end_place offset || b || match) is ∙ ap (λ b. b || false || match) longer

  pub no_edges : aligned ≡ false → None ≡ both_of match (block_in block (offset / block) r.bytes) (block_in block ((end_place - 1) / block) r.bytes) → None ≡ checked_edges block r offset end_place
  no_edges is none = by match (unaligned is) none
    where
      by : (b : Bool) → is_writable block r offset end_place ≡ b → None ≡ both_of b (block_in block (offset / block) r.bytes) (block_in block ((end_place - 1) / block) r.bytes)
          → None ≡ checked_edges block r offset end_place
      by true w e = absurd cc
      by false w e = sym (ap (λ b. if b then Some (edges_around block r offset end_place) else None) w)

  pub some_edges : aligned ≡ false → (one two : List ℕ) → ◌≡◌ {A = Option (List ℕ × List ℕ)} (Some (one, two)) (both_of match (block_in block (offset / block) r.bytes) (block_in block ((end_place - 1) / block) r.bytes))
      → Some (record { before = take (offset % block) one; after = drop (end_place - (end_place - 1) / block * block) two }) ≡ checked_edges block r offset end_place
  some_edges is one two some_ends = by match (unaligned is) some_ends
    where
      by : (b : Bool) → is_writable block r offset end_place ≡ b → ◌≡◌ {A = Option (List ℕ × List ℕ)} (Some (one, two)) (both_of b (block_in block (offset / block) r.bytes) (block_in block ((end_place - 1) / block) r.bytes))
          → Some (record { before = take (offset % block) one; after = drop (end_place - (end_place - 1) / block * block) two }) ≡ checked_edges block r offset end_place
      by true w e =
          let pair : ◌≡◌ {A = List ℕ × List ℕ} (one, two) (block_in block (offset / block) r.bytes, block_in block ((end_place - 1) / block) r.bytes) = cc in
          let first : one ≡ block_in block (offset / block) r.bytes = ap (λ (p : List ℕ × List ℕ). p.0) pair in
          let last : two ≡ block_in block ((end_place - 1) / block) r.bytes = ap (λ (p : List ℕ × List ℕ). p.1) pair in
          (λ i. Some (record { before = take (offset % block) (first i); after = drop (end_place - (end_place - 1) / block * block) (last i) }))
          ∙ sym (ap (λ b. if b then Some (edges_around block r offset end_place) else None) w)
      by false w e = absurd cc

-- how long what was read is
pub some_long : (o : Option (List ℕ)) (n : ℕ) → IfSome o (λ bytes. length bytes ≡ 1 * n) → IfSome o (λ bytes. length bytes ≡ n)
some_long None n long = long
some_long (Some bytes) n long = omega (arith, long)

pub ends_long : (o : Option (List ℕ × List ℕ)) (a b : List ℕ) (n : ℕ) → o ≡ Some (a, b) → IfSome o (λ ends. (length ends.0 ≡ n) × (length ends.1 ≡ n)) → (length a ≡ n) × (length b ≡ n)
ends_long o a b n is long = subst (λ (p : Option (List ℕ × List ℕ)). IfSome p (λ ends. (length ends.0 ≡ n) × (length ends.1 ≡ n))) is long

-- the bytes before a place, and from one on, as slices
pub first_slice : (xs : List ℕ) (n : ℕ) → take (n - 0) (drop 0 xs) ≡ take n xs
first_slice xs n = let none : n - 0 ≡ n = omega arith in ap (λ (k : ℕ). take k xs) none

pub last_slice : (xs : List ℕ) (n : ℕ) → take (length xs - n) (drop n xs) ≡ drop n xs
last_slice xs n = take_all (length xs - n) (drop n xs) (omega (arith, length-drop n xs))

-- what a block keeps, within the block
pub mod_less : (n block : ℕ) → 1 ≤ block → n % block ≤ block
mod_less n block positive =
    let low : n < n / block * block + block = lt-div-mul-add positive in
    omega (arith, low, div-add-mod' n block)

pub last_part : (block end_place : ℕ) → 1 ≤ block → end_place - (end_place - 1) / block * block ≤ block
last_part block end_place positive =
    let less : end_place - 1 < (end_place - 1) / block * block + block = lt-div-mul-add positive in
    omega (arith, less)

-- how long the edges are
module _ (block offset end_place : ℕ) (positive : 1 ≤ block) (some : offset < end_place) (before after : List ℕ) where
  pub aligned_long : (((offset % block) == 0) && ((end_place % block) == 0)) ≡ true → before ≡ [] → after ≡ [] → AreLong block offset end_place (record { before = before; after = after })
  aligned_long is no_before no_after =
      let both = and_both ((offset % block) == 0) ((end_place % block) == 0) is in
      let ends = block_end block end_place positive (omega (arith, some)) (zero_test (end_place % block) both.1) in
      record {
        before = ap length no_before ∙ sym (zero_test (offset % block) both.0);
        after = ap length no_after ∙ omega (arith, ends);
      }

  pub parts_long : (one two : List ℕ) → length one ≡ block → length two ≡ block → before ≡ take (offset % block) one → after ≡ drop (end_place - (end_place - 1) / block * block) two → AreLong block offset end_place (record { before = before; after = after })
  parts_long one two long_one long_two is_before is_after =
      let k = end_place - (end_place - 1) / block * block in
      record {
        before = ap length is_before ∙ length-take-le (offset % block) one (omega (arith, long_one, mod_less offset block positive));
        after = ap length is_after ∙ omega (arith, length-drop k two, long_two, div-mul-le_self (end_place - 1) block, some);
      }

-- of a range of so many bytes
pub long_of : (block offset : ℕ) (o : Option Edges) (edges : Edges) (n m : ℕ) → o ≡ Some edges → n ≡ m → IfSome o (AreLong block offset (offset + n)) → AreLong block offset (offset + m) edges
long_of block offset o edges n m is same long = subst (λ (k : ℕ). AreLong block offset (offset + k) edges) same (subst (λ (p : Option Edges). IfSome p (AreLong block offset (offset + n))) is long)
