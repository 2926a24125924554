-- Entries of a table: each is what the table has under its number, also where some are left out.
use Rattle.std.proofs.Common.{◌≡◌, ℕ, Bool, true, false, cond, List, [], ◌∷◌, ◌++◌, map, Some, refl, sym, ap, subst, ◌∙◌}
use Rattle.std.specs.Prelude.{◌==◌, ◌&&◌, filter, T}
use Rattle.std.specs.Ordering.{nat_cmp, eq_by_cmp, is_lt, is_eq}
use Rattle.std.specs.Cmp.{nat_cmp_total, eq_by_cmp_equiv, unsigned_tied}
use Rattle.std.proofs.lemmas.Bool.{eqb-true, eqb-false}
use Rattle.std.specs.FinMap as table
use Rattle.std.specs.FinMap.Entries.{find, is_sorted, below_all}
use Rattle.std.specs.declared.cmp.Ordering.{Ordering}
use Rattle.std.specs.declared.cmp.Ordering.TheVariants.{Less, Equal, Greater}
use Rattle.protocol.specs.Tables.{Table, kept_where, map_values}
use Rattle.laws_base.proofs.Steps.{on_cond, none_some, same_some}

-- each element passes
abbrev pub AllOf : {X : Type 0} → (X → Type 0) → List X → Type 0
AllOf P [] = Unit {0}
AllOf P (x ∷ xs) = P x × AllOf P xs

pub all_filtered : {X : Type 0} (P : X → Type 0) (test : X → Bool) (xs : List X) → AllOf P xs → AllOf P (filter test xs)
all_filtered P test [] all = tt
all_filtered P test (x ∷ xs) all = on_cond (AllOf P) (test x) (x ∷ filter test xs) (filter test xs) (λ _. (all.0, all_filtered P test xs all.1)) (λ _. all_filtered P test xs all.1)

pub all_joined : {X : Type 0} (P : X → Type 0) (xs ys : List X) → AllOf P xs → AllOf P ys → AllOf P (xs ++ ys)
all_joined P [] ys all more = more
all_joined P (x ∷ xs) ys all more = (all.0, all_joined P xs ys all.1 more)

pub same_number : (n : ℕ) → (n == n) ≡ true
same_number n = split (n == n) refl
  where
    split : (b : Bool) → (n == n) ≡ b → (n == n) ≡ true
    split true e = e
    split false e = absurd (eqb-false n n e refl)

pub same_key : (n : ℕ) → eq_by_cmp nat_cmp n n ≡ true
same_key n = unsigned_tied n n ∙ same_number n

-- a smaller key is no key of these
later_key : (x k : ℕ) → T (is_lt (nat_cmp x k)) → eq_by_cmp nat_cmp k x ≡ false
later_key x k h = (eq_by_cmp_equiv nat_cmp_total).symm k x ∙ by_order (nat_cmp x k) refl h
  where
    by_order : (o : Ordering) → nat_cmp x k ≡ o → T (is_lt o) → is_eq o ≡ false
    by_order Less e g = refl
    by_order Equal e g = absurd g
    by_order Greater e g = absurd g

both_parts : (a b : Bool) → T (a && b) → T a × T b
both_parts true b h = (tt, h)
both_parts false b h = absurd h

abbrev pub IsFound : {X : Type 0} → List (ℕ × X) → ℕ × X → Type 0
IsFound es e = find nat_cmp e.0 es ≡ Some e.1

found_behind : {X : Type 0} (x : ℕ × X) (es some : List (ℕ × X)) → T (below_all nat_cmp x.0 some) → AllOf (IsFound es) some → AllOf (IsFound (x ∷ es)) some
found_behind x es [] h all = tt
found_behind x es (e ∷ rest) h all =
    let parts = both_parts (is_lt (nat_cmp x.0 e.0)) (below_all nat_cmp x.0 rest) h in
    (ap (λ (b : Bool). cond b (Some x.1) (find nat_cmp e.0 es)) (later_key x.0 e.0 parts.0) ∙ all.0, found_behind x es rest parts.1 all.1)

pub all_found : {X : Type 0} (es : List (ℕ × X)) → T (is_sorted nat_cmp es) → AllOf (IsFound es) es
all_found [] h = tt
all_found (x ∷ es) h =
    let parts = both_parts (below_all nat_cmp x.0 es) (is_sorted nat_cmp es) h in
    (ap (λ (b : Bool). cond b (Some x.1) (find nat_cmp x.0 es)) (same_key x.0), found_behind x es es parts.0 (all_found es parts.1))

-- what is found among these has its number and passes
pub found_passes : {X : Type 0} (P : ℕ × X → Type 0) (es : List (ℕ × X)) (q : ℕ) (x : X) → AllOf P es → find nat_cmp q es ≡ Some x → P (q, x)
found_passes P [] q x all h = none_some x h
found_passes {X} P (e ∷ es) q x all h = by_key (eq_by_cmp nat_cmp q e.0) refl (found_passes P es q x all.1) h
  where
    here : q ≡ e.0 → e.1 ≡ x → P (q, x)
    here a b = subst (λ (n : ℕ). P (n, x)) (sym a) (subst (λ (y : X). P (e.0, y)) b all.0)

    by_key : (b : Bool) → eq_by_cmp nat_cmp q e.0 ≡ b → (find nat_cmp q es ≡ Some x → P (q, x)) → cond b (Some e.1) (find nat_cmp q es) ≡ Some x → P (q, x)
    by_key true is rest g = here (eqb-true q e.0 (sym (unsigned_tied q e.0) ∙ is)) (same_some e.1 x g)
    by_key false is rest g = rest g

-- what is kept of a table was there
pub kept_where_cases : {X : Type 0} (test : ℕ × X → Bool) (t : Table X) (q : ℕ) (x : X) → table.get (kept_where test t) q ≡ Some x → table.get t q ≡ Some x
kept_where_cases test t q x h =
    table.get-entries t q
    ∙ found_passes (IsFound (table.entries t)) (filter test (table.entries t)) q x
    (all_filtered (IsFound (table.entries t)) test (table.entries t) (all_found (table.entries t) (table.entries_sorted t)))
    (sym (table.get-from_entries nat_cmp_total (filter test (table.entries t)) q) ∙ h)

found_mapped : {X : Type 0} (change : X → X) (es : List (ℕ × X)) (q : ℕ) (x : X) → find nat_cmp q (map (λ e. (e.0, change e.1)) es) ≡ Some x → (old : X) × (find nat_cmp q es ≡ Some old) × (change old ≡ x)
found_mapped change [] q x h = none_some x h
found_mapped {X} change (e ∷ es) q x h = by_key (eq_by_cmp nat_cmp q e.0) refl (found_mapped change es q x) h
  where
    by_key : (b : Bool) → eq_by_cmp nat_cmp q e.0 ≡ b → (find nat_cmp q (map (λ y. (y.0, change y.1)) es) ≡ Some x → (old : X) × (find nat_cmp q es ≡ Some old) × (change old ≡ x))
        → cond b (Some (change e.1)) (find nat_cmp q (map (λ y. (y.0, change y.1)) es)) ≡ Some x → (old : X) × (find nat_cmp q (e ∷ es) ≡ Some old) × (change old ≡ x)
    by_key true is rest g = (e.1, ap (λ (b : Bool). cond b (Some e.1) (find nat_cmp q es)) is, same_some (change e.1) x g)
    by_key false is rest g = let r = rest g in (r.0, ap (λ (b : Bool). cond b (Some e.1) (find nat_cmp q es)) is ∙ r.1, r.2)

found_changed : {X : Type 0} (change : X → X) (es : List (ℕ × X)) (q : ℕ) (x : X) → find nat_cmp q es ≡ Some x → find nat_cmp q (map (λ e. (e.0, change e.1)) es) ≡ Some (change x)
found_changed change [] q x is = none_some x is
found_changed {X} change (e ∷ es) q x is = by_key (eq_by_cmp nat_cmp q e.0) (found_changed change es q x) is
  where
    by_key : (b : Bool) → (find nat_cmp q es ≡ Some x → find nat_cmp q (map (λ y. (y.0, change y.1)) es) ≡ Some (change x))
        → cond b (Some e.1) (find nat_cmp q es) ≡ Some x → cond b (Some (change e.1)) (find nat_cmp q (map (λ y. (y.0, change y.1)) es)) ≡ Some (change x)
    by_key true rest g = ap (λ (y : X). Some (change y)) (same_some e.1 x g)
    by_key false rest g = rest g

pub mapped_at : {X : Type 0} (change : X → X) (t : Table X) (q : ℕ) (x : X) → table.get t q ≡ Some x → table.get (map_values change t) q ≡ Some (change x)
mapped_at change t q x is =
    table.get-from_entries nat_cmp_total (map (λ e. (e.0, change e.1)) (table.entries t)) q ∙ found_changed change (table.entries t) q x (sym (table.get-entries t q) ∙ is)

-- values that are changed under their numbers
pub mapped_cases : {X : Type 0} (change : X → X) (t : Table X) (q : ℕ) (x : X) → table.get (map_values change t) q ≡ Some x → (old : X) × (table.get t q ≡ Some old) × (change old ≡ x)
mapped_cases change t q x h =
    let found = found_mapped change (table.entries t) q x (sym (table.get-from_entries nat_cmp_total (map (λ e. (e.0, change e.1)) (table.entries t)) q) ∙ h) in
    (found.0, table.get-entries t q ∙ found.1, found.2)
