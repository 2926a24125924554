-- The servers that are taken to have reported as a master begins.
use Rattle.std.proofs.Common.{◌≡◌, ◌==◌, ℕ, zero, suc, ◌<◌, ◌+◌, Bool, true, false, cond, List, [], ◌∷◌, ◌++◌, map, Option, Some, None, refl, sym, ap, ◌∙◌, add-one, arith}
use Rattle.std.specs.Ordering.{nat_cmp, eq_by_cmp}
use Rattle.std.specs.Cmp.{nat_cmp_total, unsigned_tied}
use Rattle.std.proofs.lemmas.List.{map-append}
use Rattle.std.specs.FinMap.{find, insert, from_entries, from_entries_push, nat_cmp-IsAntisymmetric}
use Rattle.protocol.specs.Tables.{Table, first_numbers}
use Rattle.protocol.specs.MasterStep.{first_reports}

by_key : {X : Type 0} (t : Bool) (x : X) (a b : Option X) → cond t (Some x) a ≡ None → (a ≡ None → b ≡ None) → cond t (Some x) b ≡ None
by_key true x a b h next = absurd cc
by_key false x a b h next = next h

none_behind : {X : Type 0} (k : ℕ) (xs ys : List (ℕ × X)) → find nat_cmp k xs ≡ None → find nat_cmp k ys ≡ None → find nat_cmp k (xs ++ ys) ≡ None
none_behind k [] ys a b = b
none_behind k (x ∷ xs) ys a b = by_key (eq_by_cmp nat_cmp k x.0) x.1 (find nat_cmp k xs) (find nat_cmp k (xs ++ ys)) a (λ h. none_behind k xs ys h b)

other_number : (k n : ℕ) → n < k → (k == n) ≡ false
other_number k n h = grind arith

fresh : (n k now : ℕ) → n < k → find nat_cmp k (map (λ s. (s, now)) (first_numbers n)) ≡ None
fresh zero k now h = refl
fresh (suc n) k now h =
    ap (find nat_cmp k) (map-append (λ s. (s, now)) (first_numbers n) (suc n ∷ []))
    ∙ none_behind k (map (λ s. (s, now)) (first_numbers n)) ((suc n, now) ∷ []) (fresh n k now (omega arith))
    (ap (λ b. cond b (Some now) None) (unsigned_tied k (suc n) ∙ other_number k (suc n) h))

more : (n now : ℕ) (t : Table ℕ) → t ≡ first_reports n now → insert t (suc n) now ≡ first_reports (suc n) now
more n now t is =
    ap (λ (x : Table ℕ). insert x (suc n) now) is
    ∙ sym (from_entries_push nat_cmp_total nat_cmp-IsAntisymmetric (map (λ s. (s, now)) (first_numbers n)) (suc n) now (fresh n (suc n) now (omega arith)))
    ∙ ap from_entries (sym (map-append (λ s. (s, now)) (first_numbers n) (suc n ∷ [])))

pub one_more : (n now : ℕ) (t : Table ℕ) → t ≡ first_reports n now → insert t (n + 1) now ≡ first_reports (n + 1) now
one_more n now t is = ap (λ k. insert t k now) (add-one n) ∙ more n now t is ∙ ap (λ k. first_reports k now) (sym (add-one n))
