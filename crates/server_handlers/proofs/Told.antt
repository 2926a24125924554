-- What becomes of all leases at a tick, and what is reported of them, without the clock.
use Rattle.std.proofs.Common.{◌≡◌, ℕ, ◌≤◌, Bool, true, false, cond, T, List, [], ◌∷◌, map, filter, Option, Some, None, refl, sym, ap, ◌∙◌}
use Rattle.std.specs.Ordering.{nat_cmp}
use Rattle.std.specs.FinMap.{get, insert, remove, entries, keys, find, is_sorted, entries_sorted, get-entries}
use Rattle.std.specs.FinMap.Entries.{below_all}
use Rattle.chunk_table.proofs.Lookups.{key_itself}
use Rattle.leases.specs.LeaseHeld.{counts_at}
use Rattle.ordered_map.proofs.Filtered.{entries_filter}
use Rattle.primary_order.specs.declared.primary.Primary.{Primary}
use Rattle.primary_order.specs.SerialOrder.{SerialOrder, order_of}
use Rattle.protocol.specs.Tables.{Table, kept_where, map_values}
use Rattle.protocol.specs.ServerStep.{lease_line, asks_no_more}
use Rattle.server_handlers.specs.Held.{AreHeld, orders_of, would_count, line_of, lines_of, asks_nothing}
use Rattle.server_handlers.specs.Reported.{reported_one, reported_all, seen_one, seen_all}
use Rattle.server_handlers.proofs.SeenOrders.{IsHeld, both_parts, entries_of_orders, entry_of, found_behind, held_put, held_removed, keys_of_orders, orders_at, orders_put, orders_removed}
use Rattle.server_handlers.proofs.Moves.{counts_same}
use Rattle.server_handlers.proofs.Reported.{reported}

module _ (skew latest now : ℕ) (le : latest ≤ now) where
  one_if : (t : Table Primary) (k : ℕ) (p : Primary) (b : Bool)
      → orders_of (cond b (insert t k (asks_nothing p)) (remove t k)) ≡ cond b (insert (orders_of t) k (asks_no_more (order_of p))) (remove (orders_of t) k)
  one_if t k p true = orders_put t k (asks_nothing p)
  one_if t k p false = orders_removed t k

  one_by : (t : Table Primary) (k : ℕ) (o : Option Primary) → get t k ≡ o → AreHeld skew latest t → orders_of (seen_one now t k o) ≡ reported_one skew now (orders_of t) k (get (orders_of t) k)
  one_by t k None e all = sym (ap (reported_one skew now (orders_of t) k) (orders_at t k None e))
  one_by t k (Some p) e all =
      one_if t k p (would_count now p)
      ∙ (ap (λ b. cond b (insert (orders_of t) k (asks_no_more (order_of p))) (remove (orders_of t) k)) (counts_same skew latest now p (all k p e) le)
      ∙ sym (ap (reported_one skew now (orders_of t) k) (orders_at t k (Some p) e)))

  one_held_if : (t : Table Primary) (k : ℕ) (p : Primary) (b : Bool) → IsHeld skew latest p → AreHeld skew latest t → AreHeld skew latest (cond b (insert t k (asks_nothing p)) (remove t k))
  one_held_if t k p true held all = held_put skew latest t k (asks_nothing p) all held
  one_held_if t k p false held all = held_removed skew latest t k all

  one_held : (t : Table Primary) (k : ℕ) (o : Option Primary) → get t k ≡ o → AreHeld skew latest t → AreHeld skew latest (seen_one now t k o)
  one_held t k None e all = all
  one_held t k (Some p) e all = one_held_if t k p (would_count now p) (all k p e) all

  pub all_held : (t : Table Primary) (handles : List ℕ) → AreHeld skew latest t → AreHeld skew latest (seen_all now t handles)
  all_held t [] all = all
  all_held t (k ∷ rest) all = all_held (seen_one now t k (get t k)) rest (one_held t k (get t k) refl all)

  all_orders : (t : Table Primary) (handles : List ℕ) → AreHeld skew latest t → orders_of (seen_all now t handles) ≡ reported_all skew now (orders_of t) handles
  all_orders t [] all = refl
  all_orders t (k ∷ rest) all =
      all_orders (seen_one now t k (get t k)) rest (one_held t k (get t k) refl all) ∙ ap (λ x. reported_all skew now x rest) (one_by t k (get t k) refl all)

  -- the leases that count stay, and ask for no more
  pub told : (t : Table Primary) → AreHeld skew latest t → orders_of (seen_all now t (keys t)) ≡ map_values asks_no_more (kept_where (λ e. counts_at skew e.1.held now) (orders_of t))
  told t all = all_orders t (keys t) all ∙ (ap (reported_all skew now (orders_of t)) (sym (keys_of_orders t)) ∙ reported skew now (orders_of t))

  one_more : (e : ℕ × Primary) (xs : List (ℕ × Primary)) (ys : List (ℕ × SerialOrder)) (b c : Bool) → b ≡ c → map line_of xs ≡ map lease_line ys
      → map line_of (cond b (e ∷ xs) xs) ≡ map lease_line (cond c (entry_of e ∷ ys) ys)
  one_more e xs ys true true same rest = ap (λ l. line_of e ∷ l) rest
  one_more e xs ys false false same rest = rest
  one_more e xs ys true false same rest = cc
  one_more e xs ys false true same rest = cc

  lines_by : (es : List (ℕ × Primary)) → T (is_sorted nat_cmp es) → ((q : ℕ) (p : Primary) → find nat_cmp q es ≡ Some p → IsHeld skew latest p)
      → map line_of (filter (λ e. would_count now e.1) es) ≡ map lease_line (filter (λ e. counts_at skew e.1.held now) (map entry_of es))
  lines_by [] sorted held = refl
  lines_by (e ∷ es) sorted held =
      let parts = both_parts (below_all nat_cmp e.0 es) (is_sorted nat_cmp es) sorted in
      let here = held e.0 e.1 (ap (λ b. cond b (Some e.1) (find nat_cmp e.0 es)) (key_itself e.0)) in
      one_more e (filter (λ x. would_count now x.1) es) (filter (λ x. counts_at skew x.1.held now) (map entry_of es)) (would_count now e.1) (counts_at skew (order_of e.1).held now)
      (counts_same skew latest now e.1 here le)
      (lines_by es parts.1 (λ q p found. held q p (found_behind e es q p parts.0 found)))

  -- what is reported
  pub lines : (t : Table Primary) → AreHeld skew latest t → lines_of now t ≡ map lease_line (entries (kept_where (λ e. counts_at skew e.1.held now) (orders_of t)))
  lines t all =
      lines_by (entries t) (entries_sorted t) (λ q p found. all q p (get-entries t q ∙ found))
      ∙ (ap (λ es. map lease_line (filter (λ e. counts_at skew e.1.held now) es)) (sym (entries_of_orders t))
      ∙ ap (map lease_line) (sym (entries_filter (λ e. counts_at skew e.1.held now) (orders_of t))))
