-- What is left of a table once the entries that fail a test are removed one after another.
use Rattle.std.proofs.Common.{◌≡◌, ℕ, Bool, true, false, cond, ◌||◌, List, [], ◌∷◌, map, Option, Some, None, refl, sym, ap, ◌∙◌}
use Rattle.std.specs.Prelude.{not, filter}
use Rattle.std.specs.List.{list_any}
use Rattle.std.specs.Option.{is_some}
use Rattle.std.specs.Ordering.{nat_cmp, eq_by_cmp}
use Rattle.std.specs.Cmp.{nat_cmp_total}
use Rattle.std.specs.FinMap.{get, entries, entries_sorted, remove, get-entries, get-remove, same_map, nat_cmp-IsAntisymmetric}
use Rattle.std.specs.FinMap.Entries.{is_some-find}
use Rattle.protocol.specs.Tables.{Table, kept_where, removed_all}
use Rattle.ordered_map.proofs.Filtered.{kept, get_filter, find_filter}

joined : {X : Type 0} (a b : Bool) (o : Option X) → cond b None (cond a None o) ≡ cond (a || b) None o
joined true true o = refl
joined true false o = refl
joined false b o = refl

module _ {X : Type 0} where
  all : (t : Table X) (hs : List ℕ) (q : ℕ) → get (removed_all t hs) q ≡ cond (list_any (eq_by_cmp nat_cmp q) hs) None (get t q)
  all t [] q = refl
  all t (h ∷ hs) q =
      all (remove t h) hs q
      ∙ ap (cond (list_any (eq_by_cmp nat_cmp q) hs) None) (get-remove nat_cmp_total t h q)
      ∙ joined (eq_by_cmp nat_cmp q h) (list_any (eq_by_cmp nat_cmp q) hs) (get t q)

  module _ (P : ℕ × X → Bool) (t : Table X) where
    passes : (q : ℕ) (v : X) (b : Bool) → cond (is_some (cond (not b) (Some v) None)) None (Some v) ≡ cond b (Some v) None
    passes q v true = refl
    passes q v false = refl

    each : (q : ℕ) (o : Option X) → cond (is_some (kept (λ e. not (P e)) q o)) None o ≡ kept P q o
    each q None = refl
    each q (Some v) = passes q v (P (q, v))

    listed : (q : ℕ) → list_any (eq_by_cmp nat_cmp q) (map (λ e. e.0) (filter (λ e. not (P e)) (entries t))) ≡ is_some (kept (λ e. not (P e)) q (get t q))
    listed q =
        sym (is_some-find nat_cmp q (filter (λ e. not (P e)) (entries t)))
        ∙ ap is_some (find_filter (λ e. not (P e)) q (entries t) (entries_sorted t) ∙ ap (kept (λ e. not (P e)) q) (sym (get-entries t q)))

    pub removed : removed_all t (map (λ e. e.0) (filter (λ e. not (P e)) (entries t))) ≡ kept_where P t
    removed = same_map nat_cmp_total nat_cmp-IsAntisymmetric _ _ (λ q.
        all t (map (λ e. e.0) (filter (λ e. not (P e)) (entries t))) q
        ∙ ap (λ b. cond b None (get t q)) (listed q)
        ∙ each q (get t q)
        ∙ sym (get_filter P t q))
