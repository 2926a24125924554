-- Orders in which each two entries stand in a relation, whatever is settled, and what keeps them so.
use Rattle.std.proofs.Common.{◌≡◌, ℕ, zero, suc, ◌<◌, true, List, [], ◌∷◌, ◌++◌, map, Option, Some, refl, sym, subst, inl, inr, arith}
use Rattle.std.specs.Prelude.{unwrap_or}
use Rattle.std.specs.Ordering.{nat_cmp}
use Rattle.std.specs.FinMap as table
use Rattle.relaxed_file.specs.Run.{Visible}
use Rattle.protocol.specs.Tables.{Table, element_at}
use Rattle.protocol.specs.declared.seen.Seen.{Seen}
use Rattle.protocol.specs.declared.seen.Seen.TheVariants.{Numbered, BecameSettled, CopyStarted}
use Rattle.protocol.specs.Observer.{Placed, placed_in, is_placed_as, settled_as, new_entry, orders_after, orders_after_all}
use Rattle.laws_base.proofs.Steps.{on_cond, none_some, same_some, same_or_not, put_there, put_other}
use Rattle.laws_base.proofs.Entries.{AllOf}
use Rattle.laws_base.proofs.MembersRecorded.{all_at}
use Rattle.laws_base.specs.ChunkOrders.{unsettled}
use Rattle.laws_base.proofs.OnceShown.{NumbersNone, NumbersOnce}

pub settled_same : (version serial : ℕ) (p : Placed) → unsettled (settled_as version serial p) ≡ unsettled p
settled_same version serial p = on_cond (λ (x : Placed). unsettled x ≡ unsettled p) (is_placed_as version serial p) (record p { entry = record p.entry { settled = true } }) p (λ _. refl) (λ _. refl)

module _ (R : Placed → Placed → Type 0) where
  abbrev pub ArePaired : Placed → Placed → Type 0
  ArePaired p q = R (unsettled p) (unsettled q)

  abbrev pub AreOrdered : List Placed → Type 0
  AreOrdered [] = Unit {0}
  AreOrdered (p ∷ ps) = AllOf (ArePaired p) ps × AreOrdered ps

  one_more_from : (p new : Placed) (ps : List Placed) → ArePaired p new → AllOf (ArePaired p) ps → AllOf (ArePaired p) (ps ++ new ∷ [])
  one_more_from p new [] one h = (one, tt)
  one_more_from p new (q ∷ ps) one h = (h.0, one_more_from p new ps one h.1)

  one_more : (new : Placed) (ps : List Placed) → AllOf (λ p. ArePaired p new) ps → AreOrdered ps → AreOrdered (ps ++ new ∷ [])
  one_more new [] all h = (tt, tt)
  one_more new (p ∷ ps) all h = (one_more_from p new ps all.0 h.0, one_more new ps all.1 h.1)

  settled_from : (version serial : ℕ) (p : Placed) (ps : List Placed) → AllOf (ArePaired p) ps → AllOf (ArePaired (settled_as version serial p)) (map (settled_as version serial) ps)
  settled_from version serial p [] h = tt
  settled_from version serial p (q ∷ ps) h = (
    subst (λ (x : Placed). R x (unsettled (settled_as version serial q))) (sym (settled_same version serial p)) (subst (λ (x : Placed). R (unsettled p) x) (sym (settled_same version serial q)) h.0),
    settled_from version serial p ps h.1,
  )

  settled_ordered : (version serial : ℕ) (ps : List Placed) → AreOrdered ps → AreOrdered (map (settled_as version serial) ps)
  settled_ordered version serial [] h = tt
  settled_ordered version serial (p ∷ ps) h = (settled_from version serial p ps h.0, settled_ordered version serial ps h.1)

  -- two places
  pub two_places : (ps : List Placed) (place later : ℕ) (p q : Placed) → AreOrdered ps → element_at ps place ≡ Some p → element_at ps later ≡ Some q → place < later → ArePaired p q
  two_places [] place later p q h at there less = none_some p at
  two_places (x ∷ ps) place zero p q h at there less = absurd (omega (arith, less))
  two_places (x ∷ ps) zero (suc later) p q h at there less = subst (λ (y : Placed). ArePaired y q) (same_some x p at) (all_at (ArePaired x) ps later q h.0 there)
  two_places (x ∷ ps) (suc place) (suc later) p q h at there less = two_places ps place later p q h.1 at there (omega (arith, less))

  -- all orders

  abbrev pub AreAllOrdered : Table (List Placed) → Type 0
  AreAllOrdered orders = (handle : ℕ) → AreOrdered (placed_in orders handle)

  pub none_ordered : AreAllOrdered table.empty
  none_ordered handle = subst (λ (o : Option (List Placed)). AreOrdered (unwrap_or o [])) (sym (table.get-empty nat_cmp handle)) tt

  put_ordered : (orders : Table (List Placed)) (k : ℕ) (ps : List Placed) → AreAllOrdered orders → AreOrdered ps → AreAllOrdered (table.insert orders k ps)
  put_ordered orders k ps h new handle =
      elim (same_or_not handle k) [
        | inl same ↦ subst (λ (o : Option (List Placed)). AreOrdered (unwrap_or o [])) (sym (put_there orders k ps handle same)) new
        | inr apart ↦ subst (λ (o : Option (List Placed)). AreOrdered (unwrap_or o [])) (sym (put_other orders k ps handle apart)) (h handle)
      ]

  -- what is numbered comes after each entry there
  abbrev pub IsNext : List Visible → Table (List Placed) → Seen → Type 0
  IsNext trace orders (Numbered handle version serial id m) = AllOf (λ p. ArePaired p (new_entry trace version.0 serial.0 id m)) (placed_in orders handle.0)
  IsNext trace orders other = Unit {0}

  one_ordered : (trace : List Visible) (orders : Table (List Placed)) (x : Seen) → IsNext trace orders x → AreAllOrdered orders → AreAllOrdered (orders_after trace orders x)
  one_ordered trace orders (Numbered handle version serial id m) new h =
      put_ordered orders handle.0 (placed_in orders handle.0 ++ new_entry trace version.0 serial.0 id m ∷ []) h (one_more (new_entry trace version.0 serial.0 id m) (placed_in orders handle.0) new (h handle.0))
  one_ordered trace orders (BecameSettled handle version serial) new h =
      put_ordered orders handle.0 (map (settled_as version.0 serial.0) (placed_in orders handle.0)) h (settled_ordered version.0 serial.0 (placed_in orders handle.0) (h handle.0))
  one_ordered trace orders (CopyStarted handle copy) new h = put_ordered orders copy.0 (placed_in orders handle.0) h (h handle.0)

  none_next : (trace : List Visible) (orders : Table (List Placed)) (x : Seen) → NumbersNone x → IsNext trace orders x
  none_next trace orders (Numbered handle version serial id m) none = absurd none
  none_next trace orders (BecameSettled handle version serial) none = tt
  none_next trace orders (CopyStarted handle copy) none = tt

  pub none_keep : (trace : List Visible) (orders : Table (List Placed)) (xs : List Seen) → AllOf NumbersNone xs → AreAllOrdered orders → AreAllOrdered (orders_after_all trace orders xs)
  none_keep trace orders [] none h = h
  none_keep trace orders (x ∷ xs) none h = none_keep trace (orders_after trace orders x) xs none.1 (one_ordered trace orders x (none_next trace orders x none.0) h)

  pub once_keep : (trace : List Visible) (orders : Table (List Placed)) (xs : List Seen) → NumbersOnce xs → AllOf (IsNext trace orders) xs → AreAllOrdered orders → AreAllOrdered (orders_after_all trace orders xs)
  once_keep trace orders [] once new h = h
  once_keep trace orders (x ∷ xs) once new h = none_keep trace (orders_after trace orders x) xs once (one_ordered trace orders x new.0 h)
