-- A `BTreeMap` as the finite map of its entries.
use Rattle.std.proofs.Common.{◌≡◌, cond, List, [], ◌∷◌, refl, sym, ap, ◌∙◌, Some, None, Option, IsSome, IfNone, OnSome, MutBor}
use Rattle.std.specs.Option.{option_copied_mut}
use Rattle.std.specs.declared.cmp.Ordering.{Ordering}
use Rattle.std.specs.Ordering.{eq_by_cmp}
use Rattle.std.specs.Cmp.{IsTotalOrder, eq_by_cmp_equiv}
use Rattle.std.specs.Map.{lookup}
use Rattle.std.specs.BTreeMap.{is_at}
use Rattle.std.specs.FinMap.{IsAntisymmetric, get, insert, remove, find, from_entries, get-from_entries, get-insert, get-remove, same_map}

pub find_lookup : {K X : Type 0} (R : K → K → Ordering) (es : List (K × X)) (q : K) → find R q es ≡ lookup (is_at (R q)) es
find_lookup R [] q = refl
find_lookup R (e ∷ es) q = ap (cond (is_at (R q) e.0) (Some e.1)) (find_lookup R es q)

pub get_entries : {K X : Type 0} {R : K → K → Ordering} → IsTotalOrder R → (es : List (K × X)) (q : K) → get (from_entries {R = R} es) q ≡ lookup (is_at (R q)) es
get_entries {R = R} o es q = get-from_entries o es q ∙ find_lookup R es q

pub one_inserted : {K X : Type 0} {R : K → K → Ordering} → IsTotalOrder R → IsAntisymmetric R → (es fs : List (K × X)) (k : K) (v : X)
    → ((q : K) → lookup (is_at (R q)) fs ≡ cond (is_at (R k) q) (Some v) (lookup (is_at (R q)) es))
    → from_entries {R = R} fs ≡ insert (from_entries es) k v
one_inserted {R = R} o same es fs k v h = same_map o same _ _ (λ q.
    get_entries o fs q ∙ h q ∙ ap (λ b. cond b (Some v) (lookup (is_at (R q)) es)) ((eq_by_cmp_equiv o).symm k q)
    ∙ sym (get-insert o (from_entries es) k v q ∙ ap (cond (eq_by_cmp R q k) (Some v)) (get_entries o es q)))

pub one_removed : {K X : Type 0} {R : K → K → Ordering} → IsTotalOrder R → IsAntisymmetric R → (es fs : List (K × X)) (k : K)
    → ((q : K) → lookup (is_at (R q)) fs ≡ cond (is_at (R k) q) None (lookup (is_at (R q)) es))
    → from_entries {R = R} fs ≡ remove (from_entries es) k
one_removed {R = R} o same es fs k h = same_map o same _ _ (λ q.
    get_entries o fs q ∙ h q ∙ ap (λ b. cond b None (lookup (is_at (R q)) es)) ((eq_by_cmp_equiv o).symm k q)
    ∙ sym (get-remove o (from_entries es) k q ∙ ap (cond (eq_by_cmp R q k) None) (get_entries o es q)))

-- what holds where a value was found holds where one was lent
pub on_lent : {A : Type 0} {P : Type 0} (r : Option (MutBor A)) (found : Option A) → option_copied_mut r ≡ found → (IsSome found → P) → OnSome r P
on_lent None found e h = tt
on_lent (Some x) None e h = cc
on_lent (Some x) (Some y) e h = h refl

pub on_none : {A : Type 0} {P Q : Type 0} (r : Option A) → IfNone r P → (P → Q) → IfNone r Q
on_none None h f = f h
on_none (Some x) h f = tt
