-- A measure of a map's values, added up, after one change.
use Rattle.std.proofs.Common.{◌≡◌, ℕ, ◌+◌, Bool, true, false, cond, List, [], ◌∷◌, refl, sym, ap, ◌∙◌, Some, None, Option, arith}
use Rattle.std.specs.declared.cmp.Ordering.TheVariants.{Less, Equal, Greater}
use Rattle.std.specs.Ordering.{nat_cmp, eq_by_cmp, is_eq}
use Rattle.std.specs.Cmp.{nat_cmp_total}
use Rattle.std.specs.List.{sum_by}
use Rattle.std.proofs.lemmas.List.Sums.{sum_by-cons}
use Rattle.std.specs.FinMap.{get, insert, remove, entries, entries-insert, get-entries, get-insert, get-remove, same_map, nat_cmp-IsAntisymmetric}
use Rattle.std.specs.FinMap.Entries.{by_order, put, find}
use Rattle.chunk_table.specs.ChunkTable.{NumberTable}
use Rattle.chunk_table.specs.Owners.{total}
use Rattle.chunk_table.proofs.Lookups.{at_key, key_itself}

abbrev measured : (List ℕ → ℕ) → ℕ × List ℕ → ℕ
measured g e = g e.1

later : (a b c d e : ℕ) → a ≡ b + c → c ≡ d + e → a ≡ d + (b + e)
later a b c d e p q = omega arith

total_put : (g : List ℕ → ℕ) (k : ℕ) (v : List ℕ) (es : List (ℕ × List ℕ)) → find nat_cmp k es ≡ None
    → sum_by (measured g) (put nat_cmp k v es) ≡ g v + sum_by (measured g) es
total_put g k v [] n = sum_by-cons (measured g) (k, v) []
total_put g k v (e ∷ es) n =
    elim (nat_cmp k e.0) as (λ r. cond (is_eq r) (Some e.1) (find nat_cmp k es) ≡ None
    → sum_by (measured g) (by_order r ((k, v) ∷ e ∷ es) ((e.0, v) ∷ es) (e ∷ put nat_cmp k v es)) ≡ g v + sum_by (measured g) (e ∷ es)) [
      | Less ↦ λ m. sum_by-cons (measured g) (k, v) (e ∷ es)
      | Equal ↦ λ m. absurd (let bad : Some e.1 ≡ None = m in cc)
      | Greater ↦ λ m.
          later _ _ _ _ _ (sum_by-cons (measured g) e (put nat_cmp k v es)) (total_put g k v es m)
          ∙ ap (λ n. g v + n) (sym (sum_by-cons (measured g) e es))
    ] n

pub total_added : (g : List ℕ → ℕ) (m : NumberTable (List ℕ)) (k : ℕ) (v : List ℕ) → get m k ≡ None → total g (insert m k v) ≡ g v + total g m
total_added g m k v n = ap (sum_by (measured g)) (entries-insert nat_cmp_total m k v) ∙ total_put g k v (entries m) (sym (get-entries m k) ∙ n)

gone : {X : Type 0} (m : NumberTable X) (k : ℕ) → get (remove m k) k ≡ None
gone m k = get-remove nat_cmp_total m k k ∙ ap (λ b. cond b None (get m k)) (key_itself k)

cond_twice : {X : Type 0} (b : Bool) (x y z : Option X) → cond b x z ≡ cond b x (cond b y z)
cond_twice true x y z = refl
cond_twice false x y z = refl

put_again : (m : NumberTable (List ℕ)) (k : ℕ) (v : List ℕ) → insert m k v ≡ insert (remove m k) k v
put_again m k v = same_map nat_cmp_total nat_cmp-IsAntisymmetric _ _ (λ q.
    get-insert nat_cmp_total m k v q
    ∙ cond_twice (eq_by_cmp nat_cmp q k) (Some v) None (get m q)
    ∙ sym (get-insert nat_cmp_total (remove m k) k v q ∙ ap (cond (eq_by_cmp nat_cmp q k) (Some v)) (get-remove nat_cmp_total m k q)))

-- to put a value where it stands changes nothing
pub put_same : {X : Type 0} (m : NumberTable X) (k : ℕ) (v : X) → get m k ≡ Some v → insert m k v ≡ m
put_same m k v e = same_map nat_cmp_total nat_cmp-IsAntisymmetric _ _ (λ q.
    get-insert nat_cmp_total m k v q ∙ sym (at_key (λ x o. get m x ≡ o) q k (Some v) (get m q) e (λ _. refl)))

-- to take out what was put where nothing stood changes nothing
pub put_and_removed : {X : Type 0} (m : NumberTable X) (k : ℕ) (v : X) → get m k ≡ None → remove (insert m k v) k ≡ m
put_and_removed m k v e = same_map nat_cmp_total nat_cmp-IsAntisymmetric _ _ (λ q.
    get-remove nat_cmp_total (insert m k v) k q
    ∙ ap (cond (eq_by_cmp nat_cmp q k) None) (get-insert nat_cmp_total m k v q)
    ∙ sym (cond_twice (eq_by_cmp nat_cmp q k) None (Some v) (get m q))
    ∙ sym (at_key (λ x o. get m x ≡ o) q k None (get m q) e (λ _. refl)))

pub total_removed : (g : List ℕ → ℕ) (m : NumberTable (List ℕ)) (k : ℕ) (old : List ℕ) → get m k ≡ Some old → total g m ≡ g old + total g (remove m k)
total_removed g m k old e = ap (total g) (sym (put_same m k old e) ∙ put_again m k old) ∙ total_added g (remove m k) k old (gone m k)

pub total_replaced : (g : List ℕ → ℕ) (m : NumberTable (List ℕ)) (k : ℕ) (old v : List ℕ) → get m k ≡ Some old → total g (insert m k v) + g old ≡ total g m + g v
total_replaced g m k old v e =
    let a : total g (insert m k v) ≡ g v + total g (remove m k) = ap (total g) (put_again m k v) ∙ total_added g (remove m k) k v (gone m k) in
    let b : total g m ≡ g old + total g (remove m k) = total_removed g m k old e in
    omega arith
