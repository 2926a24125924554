-- The chunks of a sound table have issued no version past the counters' limit.
use Rattle.std.proofs.Common.{◌≡◌, ℕ, ◌≤◌, Bool, true, false, cond, List, [], ◌∷◌, Some, refl, ap, subst, ◌∙◌}
use Rattle.std.specs.Prelude.{◌==◌, ◌&&◌, nat_le, T, IfSome}
use Rattle.std.specs.List.{list_all}
use Rattle.std.specs.Ordering.{nat_cmp, eq_by_cmp, is_lt, is_eq}
use Rattle.std.specs.Cmp.{nat_cmp_total, eq_by_cmp_equiv, unsigned_tied}
use Rattle.std.proofs.lemmas.Bool.{eqb-false, le-leb}
use Rattle.std.specs.FinMap as table
use Rattle.std.specs.FinMap.Entries.{find, is_sorted, below_all}
use Rattle.std.specs.declared.cmp.Ordering.{Ordering}
use Rattle.std.specs.declared.cmp.Ordering.TheVariants.{Less, Equal, Greater}
use Rattle.chunk_table.specs.ChunkTable.{ChunkRow}
use Rattle.chunk_table.specs.Owners.{IsSoundRow}
use Rattle.gfs_types.specs.Counters.{counter_limit}
use Rattle.protocol.specs.Tables.{Table}

abbrev AllOf : {X : Type 0} → (X → Type 0) → List X → Type 0
AllOf P [] = Unit {0}
AllOf P (x ∷ xs) = P x × AllOf P xs

same_number : (n : ℕ) → (n == n) ≡ true
same_number n = split (n == n) refl
  where
    split : (b : Bool) → (n == n) ≡ b → (n == n) ≡ true
    split true e = e
    split false e = absurd (eqb-false n n e refl)

-- a smaller key is no key of these
later_key : (x k : ℕ) → T (is_lt (nat_cmp x k)) → eq_by_cmp nat_cmp k x ≡ false
later_key x k h = (eq_by_cmp_equiv nat_cmp_total).symm k x ∙ by_order (nat_cmp x k) refl h
  where
    by_order : (o : Ordering) → nat_cmp x k ≡ o → T (is_lt o) → is_eq o ≡ false
    by_order Less e g = refl
    by_order Equal e g = absurd g
    by_order Greater e g = absurd g

both_parts : (a b : Bool) → T (a && b) → T a × T b
both_parts true b h = (tt, h)
both_parts false b h = absurd h

abbrev IsFound : {X : Type 0} → List (ℕ × X) → ℕ × X → Type 0
IsFound es e = find nat_cmp e.0 es ≡ Some e.1

found_behind : {X : Type 0} (x : ℕ × X) (es some : List (ℕ × X)) → T (below_all nat_cmp x.0 some) → AllOf (IsFound es) some → AllOf (IsFound (x ∷ es)) some
found_behind x es [] h all = tt
found_behind x es (e ∷ rest) h all =
    let parts = both_parts (is_lt (nat_cmp x.0 e.0)) (below_all nat_cmp x.0 rest) h in
    (ap (λ (b : Bool). cond b (Some x.1) (find nat_cmp e.0 es)) (later_key x.0 e.0 parts.0) ∙ all.0, found_behind x es rest parts.1 all.1)

all_found : {X : Type 0} (es : List (ℕ × X)) → T (is_sorted nat_cmp es) → AllOf (IsFound es) es
all_found [] h = tt
all_found (x ∷ es) h =
    let parts = both_parts (below_all nat_cmp x.0 es) (is_sorted nat_cmp es) h in
    (ap (λ (b : Bool). cond b (Some x.1) (find nat_cmp x.0 es)) (unsigned_tied x.0 x.0 ∙ same_number x.0), found_behind x es es parts.0 (all_found es parts.1))

le_true : (a b : ℕ) → a ≤ b → nat_le a b ≡ true
le_true a b h = le-leb a b h

module _ (next : ℕ) (chunks : Table ChunkRow) (sound : (handle : ℕ) → IfSome (table.get chunks handle) (IsSoundRow next handle)) where
  all_pass : (es : List (ℕ × ChunkRow)) → AllOf (IsFound (table.entries chunks)) es → list_all (λ e. nat_le e.1.issued counter_limit) es ≡ true
  all_pass [] h = refl
  all_pass (e ∷ rest) h =
      let row : IsSoundRow next e.0 e.1 = subst (λ o. IfSome o (IsSoundRow next e.0)) (table.get-entries chunks e.0 ∙ h.0) (sound e.0) in
      ap (λ (b : Bool). b && list_all (λ x. nat_le x.1.issued counter_limit) rest) (le_true e.1.issued counter_limit row.within_limit) ∙ all_pass rest h.1

  pub issued_within_limit : list_all (λ e. nat_le e.1.issued counter_limit) (table.entries chunks) ≡ true
  issued_within_limit = all_pass (table.entries chunks) (all_found (table.entries chunks) (table.entries_sorted chunks))
