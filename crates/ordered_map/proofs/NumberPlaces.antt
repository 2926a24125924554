-- What is found in the finite map of blocks.
use Rattle.std.proofs.Common.{◌≡◌, ◌≢◌, ℕ, zero, suc, ◌+◌, ◌<◌, true, false, cond, Option, Some, None, refl, sym, ap, ◌∙◌, arith}
use Rattle.std.specs.declared.cmp.Ordering.TheVariants.{Less, Equal, Greater}
use Rattle.std.specs.Ordering.{nat_cmp, is_eq, eq_by_cmp}
use Rattle.std.specs.Cmp.{nat_cmp_total, tied_itself}
use Rattle.std.specs.FinMap.{FinMap, empty, get, remove, get-insert, get-remove, same_map, nat_cmp-IsAntisymmetric}
use Rattle.std.proofs.lemmas.Bool.{cases_lt, cases_eq}
use Rattle.std.proofs.Math.Logic.{⊎_elim}
use Rattle.ordered_map.specs.Places.{at_number, with_places}

pub same_number : (q : ℕ) → eq_by_cmp nat_cmp q q ≡ true
same_number q = ap is_eq (tied_itself nat_cmp_total q)

pub other_number : (q k : ℕ) → q ≢ k → eq_by_cmp nat_cmp q k ≡ false
other_number q k ne =
    elim (nat_cmp q k) as (λ r. nat_cmp q k ≡ r → is_eq r ≡ false) [
      | Less ↦ λ e. refl
      | Equal ↦ λ e. absurd (ne (nat_cmp-IsAntisymmetric q k e))
      | Greater ↦ λ e. refl
    ] refl

module _ {X : Type 0} where
  pub get-at_number : (m : FinMap nat_cmp X) (k : ℕ) (o : Option X) (q : ℕ) → get (at_number m k o) q ≡ cond (eq_by_cmp nat_cmp q k) o (get m q)
  get-at_number m k None q = get-remove nat_cmp_total m k q
  get-at_number m k (Some v) q = get-insert nat_cmp_total m k v q

  pub at_itself : (m : FinMap nat_cmp X) (k : ℕ) (o : Option X) → get (at_number m k o) k ≡ o
  at_itself m k o = get-at_number m k o k ∙ ap (λ b. cond b o (get m k)) (same_number k)

  pub at_another : (m : FinMap nat_cmp X) (k : ℕ) (o : Option X) (q : ℕ) → q ≢ k → get (at_number m k o) q ≡ get m q
  at_another m k o q ne = get-at_number m k o q ∙ ap (λ b. cond b o (get m q)) (other_number q k ne)

  pub remove_absent : (m : FinMap nat_cmp X) (k : ℕ) → get m k ≡ None → remove m k ≡ m
  remove_absent m k none = same_map nat_cmp_total nat_cmp-IsAntisymmetric _ _ (λ q.
      ⊎_elim
      (λ is. ap (get (remove m k)) is ∙ at_itself m k None ∙ sym none ∙ ap (get m) (sym is))
      (λ ne. at_another m k None q ne)
      (cases_eq q k))

  -- at the places that are given
  pub inside : (first : ℕ) (f : ℕ → Option X) (m : FinMap nat_cmp X) (n i : ℕ) → i < n → get (with_places first f m n) (first + i) ≡ f i
  unfolding with_places
  inside first f m zero i l = absurd (omega arith)
  inside first f m (suc n) i l =
      ⊎_elim
      (λ e. ap (λ j. get (at_number (with_places first f m n) (first + n) (f n)) (first + j)) e ∙ at_itself _ (first + n) (f n) ∙ ap f (sym e))
      (λ ne. at_another _ (first + n) (f n) (first + i) (λ e. ne (omega arith)) ∙ inside first f m n i (omega arith))
      (cases_eq i n)

  -- and at all others
  pub outside : (first : ℕ) (f : ℕ → Option X) (m : FinMap nat_cmp X) (n q : ℕ) → ((i : ℕ) → i < n → q ≢ first + i) → get (with_places first f m n) q ≡ get m q
  unfolding with_places
  outside first f m zero q h = refl
  outside first f m (suc n) q h = at_another _ (first + n) (f n) q (h n (omega arith)) ∙ outside first f m n q (λ i l. h i (omega arith))

  -- at one place something else is given
  pub one_place : (f g : ℕ → Option X) (k : ℕ) (o : Option X) → k < 32 → g k ≡ o → ((i : ℕ) → i < 32 → i ≢ k → g i ≡ f i)
      → with_places 0 g empty 32 ≡ at_number (with_places 0 f empty 32) k o
  one_place f g k o l e h = same_map nat_cmp_total nat_cmp-IsAntisymmetric _ _ (λ q.
      ⊎_elim
      (λ small. ⊎_elim
      (λ is. at_of g q small ∙ ap g is ∙ e ∙ sym (at_itself _ k o) ∙ ap (get (at_number (with_places 0 f empty 32) k o)) (sym is))
      (λ ne. at_of g q small ∙ h q small ne ∙ sym (at_of f q small) ∙ sym (at_another _ k o q ne))
      (cases_eq q k))
      (λ large. outside 0 g empty 32 q (λ i l. λ e. absurd (omega arith)) ∙ sym (outside 0 f empty 32 q (λ i l. λ e. absurd (omega arith))) ∙ sym (at_another _ k o q (λ e. absurd (omega arith))))
      (cases_lt q 32))
    where
      at_of : (f : ℕ → Option X) (q : ℕ) → q < 32 → get (with_places 0 f empty 32) q ≡ f q
      at_of f q l = let e : q ≡ 0 + q = omega arith in ap (get (with_places 0 f empty 32)) e ∙ inside 0 f empty 32 q l
