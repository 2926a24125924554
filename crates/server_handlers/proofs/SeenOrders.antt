-- Leases seen without the clock: what a look-up finds, what the entries are, and what becomes of both.
use Rattle.std.proofs.Common.{◌≡◌, ℕ, ◌≤◌, Bool, true, false, cond, ◌&&◌, T, List, [], ◌∷◌, map, Option, Some, None, refl, sym, ap, ◌∙◌, subst, arith}
use Rattle.std.specs.Option.{option_map}
use Rattle.std.specs.declared.cmp.Ordering.{Ordering}
use Rattle.std.specs.declared.cmp.Ordering.TheVariants.{Less, Equal, Greater}
use Rattle.std.specs.Ordering.{nat_cmp, eq_by_cmp, is_lt, is_eq}
use Rattle.std.specs.Cmp.{nat_cmp_total}
use Rattle.std.specs.FinMap.{get, insert, remove, empty, entries, keys, find, is_sorted, entries_sorted, get-empty, get-insert, get-remove, get-entries, get-from_entries, same_map, nat_cmp-IsAntisymmetric}
use Rattle.std.specs.FinMap.Entries.{below_all}
use Rattle.chunk_table.proofs.Lookups.{at_key}
use Rattle.ordered_map.proofs.Filtered.{find_map, entries_from}
use Rattle.primary_order.specs.declared.primary.Primary.{Primary}
use Rattle.primary_order.specs.SerialOrder.{SerialOrder, order_of}
use Rattle.protocol.specs.Tables.{Table}
use Rattle.server_handlers.specs.Held.{AreHeld, orders_of, changed_by, changed_at}
use Rattle.server_handlers.proofs.Reported.{at_eq}

-- an entry without the clock
abbrev pub entry_of : ℕ × Primary → ℕ × SerialOrder
entry_of e = (e.0, order_of e.1)

pub get_orders : (t : Table Primary) (q : ℕ) → get (orders_of t) q ≡ option_map order_of (get t q)
get_orders t q =
    get-from_entries nat_cmp_total (map (λ e. (e.0, order_of e.1)) (entries t)) q ∙ find_map order_of q (entries t) ∙ ap (option_map order_of) (sym (get-entries t q))

-- what is found without the clock, where this is found
pub orders_at : (t : Table Primary) (q : ℕ) (o : Option Primary) → get t q ≡ o → get (orders_of t) q ≡ option_map order_of o
orders_at t q o e = get_orders t q ∙ ap (option_map order_of) e

mapped_cond : (b : Bool) (o p : Option Primary) → option_map order_of (cond b o p) ≡ cond b (option_map order_of o) (option_map order_of p)
mapped_cond true o p = refl
mapped_cond false o p = refl

pub orders_none : orders_of empty ≡ empty
orders_none = same_map nat_cmp_total nat_cmp-IsAntisymmetric _ _ (λ q. orders_at empty q None (get-empty nat_cmp q) ∙ sym (get-empty nat_cmp q))

pub orders_put : (t : Table Primary) (k : ℕ) (p : Primary) → orders_of (insert t k p) ≡ insert (orders_of t) k (order_of p)
orders_put t k p = same_map nat_cmp_total nat_cmp-IsAntisymmetric _ _ (λ q.
    orders_at (insert t k p) q _ (get-insert nat_cmp_total t k p q) ∙ mapped_cond (eq_by_cmp nat_cmp q k) (Some p) (get t q)
    ∙ sym (get-insert nat_cmp_total (orders_of t) k (order_of p) q ∙ ap (cond (eq_by_cmp nat_cmp q k) (Some (order_of p))) (get_orders t q)))

pub orders_removed : (t : Table Primary) (k : ℕ) → orders_of (remove t k) ≡ remove (orders_of t) k
orders_removed t k = same_map nat_cmp_total nat_cmp-IsAntisymmetric _ _ (λ q.
    orders_at (remove t k) q _ (get-remove nat_cmp_total t k q) ∙ mapped_cond (eq_by_cmp nat_cmp q k) None (get t q)
    ∙ sym (get-remove nat_cmp_total (orders_of t) k q ∙ ap (cond (eq_by_cmp nat_cmp q k) None) (get_orders t q)))

below_mapped : (k : ℕ) (es : List (ℕ × Primary)) → below_all nat_cmp k (map entry_of es) ≡ below_all nat_cmp k es
below_mapped k [] = refl
below_mapped k (e ∷ es) = ap (λ b. is_lt (nat_cmp k e.0) && b) (below_mapped k es)

sorted_mapped : (es : List (ℕ × Primary)) → is_sorted nat_cmp (map entry_of es) ≡ is_sorted nat_cmp es
sorted_mapped [] = refl
sorted_mapped (e ∷ es) = ap (λ b. b && is_sorted nat_cmp (map entry_of es)) (below_mapped e.0 es) ∙ ap (λ b. below_all nat_cmp e.0 es && b) (sorted_mapped es)

pub entries_of_orders : (t : Table Primary) → entries (orders_of t) ≡ map entry_of (entries t)
entries_of_orders t = entries_from (map entry_of (entries t)) (subst T (sym (sorted_mapped (entries t))) (entries_sorted t))

keys_mapped : (es : List (ℕ × Primary)) → map (λ e. e.0) (map entry_of es) ≡ map (λ e. e.0) es
keys_mapped [] = refl
keys_mapped (e ∷ es) = ap (λ ks. e.0 ∷ ks) (keys_mapped es)

pub keys_of_orders : (t : Table Primary) → keys (orders_of t) ≡ keys t
keys_of_orders t = ap (λ (es : List (ℕ × SerialOrder)). map (λ e. e.0) es) (entries_of_orders t) ∙ keys_mapped (entries t)

same_some : (p x : Primary) → Some p ≡ Some x → p ≡ x
same_some p x e = cc

none_some : {P : Type 0} (x : Primary) → None ≡ Some x → P
none_some x e = cc

-- what is held of one lease
abbrev pub IsHeld : ℕ → ℕ → Primary → Type 0
IsHeld skew latest p = (p.held.skew ≡ skew) × (p.held.latest ≤ latest)

pub held_none : (skew latest : ℕ) → AreHeld skew latest empty
held_none skew latest q x at = none_some x (sym (get-empty nat_cmp q) ∙ at)

pub held_put : (skew latest : ℕ) (t : Table Primary) (k : ℕ) (p : Primary) → AreHeld skew latest t → IsHeld skew latest p → AreHeld skew latest (insert t k p)
held_put skew latest t k p all here q x at =
    at_key (λ n o. o ≡ Some x → IsHeld skew latest x) q k (Some p) (get t q)
    (λ e. subst (IsHeld skew latest) (same_some p x e) here) (λ other e. all q x e) (sym (get-insert nat_cmp_total t k p q) ∙ at)

pub held_removed : (skew latest : ℕ) (t : Table Primary) (k : ℕ) → AreHeld skew latest t → AreHeld skew latest (remove t k)
held_removed skew latest t k all q x at =
    at_key (λ n o. o ≡ Some x → IsHeld skew latest x) q k None (get t q) (λ e. none_some x e) (λ other e. all q x e) (sym (get-remove nat_cmp_total t k q) ∙ at)

pub held_later : (skew latest later : ℕ) (t : Table Primary) → latest ≤ later → AreHeld skew latest t → AreHeld skew later t
held_later skew latest later t le all q x at =
    let held = all q x at in
    let most = held.1 in
    (held.0, omega arith)

held_changed_by : (skew latest later : ℕ) (t : Table Primary) (k : ℕ) (f : Primary → Primary) (o : Option Primary) → get t k ≡ o → latest ≤ later → AreHeld skew latest t
    → ((p : Primary) → IsHeld skew latest p → IsHeld skew later (f p)) → AreHeld skew later (changed_by t k f o)
held_changed_by skew latest later t k f None e le all g = held_later skew latest later t le all
held_changed_by skew latest later t k f (Some p) e le all g = held_put skew later t k (f p) (held_later skew latest later t le all) (g p (all k p e))

-- One lease changes, and is held as before.
pub held_changed : (skew latest later : ℕ) (t after : Table Primary) (k : ℕ) (f : Primary → Primary) → after ≡ changed_at t k f → latest ≤ later → AreHeld skew latest t
    → ((p : Primary) → IsHeld skew latest p → IsHeld skew later (f p)) → AreHeld skew later after
held_changed skew latest later t after k f e le all g = subst (AreHeld skew later) (sym e) (held_changed_by skew latest later t k f (get t k) refl le all g)

same_order : (p q : SerialOrder) → Some p ≡ Some q → p ≡ q
same_order p q e = cc

no_order : {P : Type 0} (q : SerialOrder) → None ≡ Some q → P
no_order q e = cc

orders_changed_by : (t : Table Primary) (k : ℕ) (f : Primary → Primary) (g : SerialOrder → SerialOrder) (q : SerialOrder) (o : Option Primary) → get t k ≡ o
    → ((p : Primary) → get t k ≡ Some p → order_of p ≡ q → order_of (f p) ≡ g q) → get (orders_of t) k ≡ Some q
    → orders_of (changed_by t k f o) ≡ insert (orders_of t) k (g q)
orders_changed_by t k f g q None e h at = no_order q (sym (orders_at t k None e) ∙ at)
orders_changed_by t k f g q (Some p) e h at =
    orders_put t k (f p) ∙ ap (insert (orders_of t) k) (h p e (same_order (order_of p) q (sym (orders_at t k (Some p) e) ∙ at)))

-- One lease changes, which is seen without the clock as this change.
pub orders_changed : (t after : Table Primary) (k : ℕ) (f : Primary → Primary) (orders : Table SerialOrder) (g : SerialOrder → SerialOrder) (q : SerialOrder) → after ≡ changed_at t k f
    → orders_of t ≡ orders → ((p : Primary) → get t k ≡ Some p → order_of p ≡ q → order_of (f p) ≡ g q) → get orders k ≡ Some q → orders_of after ≡ insert orders k (g q)
orders_changed t after k f orders g q e seen h at =
    ap (λ x. orders_of x) e ∙ orders_changed_by t k f g q (get t k) refl h (ap (λ x. get x k) seen ∙ at) ∙ ap (λ x. insert x k (g q)) seen

-- What is asked of one lease, where it is known of each that is found.
asked_by : {X : Type 0} (t : Table Primary) (k : ℕ) (f : Option Primary → X) (q : SerialOrder) (x : X) (o : Option Primary) → get t k ≡ o
    → ((p : Primary) → get t k ≡ Some p → order_of p ≡ q → f (Some p) ≡ x) → get (orders_of t) k ≡ Some q → f o ≡ x
asked_by t k f q x None e h at = no_order q (sym (orders_at t k None e) ∙ at)
asked_by t k f q x (Some p) e h at = h p e (same_order (order_of p) q (sym (orders_at t k (Some p) e) ∙ at))

pub asked : {X : Type 0} (t : Table Primary) (k : ℕ) (f : Option Primary → X) (orders : Table SerialOrder) (q : SerialOrder) (x : X) → orders_of t ≡ orders
    → ((p : Primary) → get t k ≡ Some p → order_of p ≡ q → f (Some p) ≡ x) → get orders k ≡ Some q → f (get t k) ≡ x
asked t k f orders q x seen h at = asked_by t k f q x (get t k) refl h (ap (λ y. get y k) seen ∙ at)

-- the entries of a table are what is found under their numbers
pub both_parts : (a b : Bool) → T (a && b) → T a × T b
both_parts true b h = (tt, h)
both_parts false b h = absurd h

not_tied : (r : Ordering) → T (is_lt r) → is_eq r ≡ false
not_tied Less h = refl
not_tied Equal h = absurd h
not_tied Greater h = absurd h

below_find : (k : ℕ) (es : List (ℕ × Primary)) → T (below_all nat_cmp k es) → find nat_cmp k es ≡ None
below_find k [] h = refl
below_find k (e ∷ es) h =
    let parts = both_parts (is_lt (nat_cmp k e.0)) (below_all nat_cmp k es) h in
    ap (λ b. cond b (Some e.1) (find nat_cmp k es)) (not_tied (nat_cmp k e.0) parts.0) ∙ below_find k es parts.1

-- what is found behind an entry is found with it
pub found_behind : (e : ℕ × Primary) (es : List (ℕ × Primary)) (q : ℕ) (x : Primary) → T (below_all nat_cmp e.0 es) → find nat_cmp q es ≡ Some x → find nat_cmp q (e ∷ es) ≡ Some x
found_behind e es q x below at = by_key (eq_by_cmp nat_cmp q e.0) refl
  where
    by_key : (b : Bool) → eq_by_cmp nat_cmp q e.0 ≡ b → cond b (Some e.1) (find nat_cmp q es) ≡ Some x
    by_key true is = none_some x (sym (below_find e.0 es below) ∙ ap (λ k. find nat_cmp k es) (sym (nat_cmp-IsAntisymmetric q e.0 (at_eq (nat_cmp q e.0) is))) ∙ at)
    by_key false is = at
