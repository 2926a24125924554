-- Orders in which no two entries stem from one number of one client, and what keeps them so.
use Rattle.std.proofs.Common.{◌≡◌, ℕ, zero, suc, List, [], ◌∷◌, ◌++◌, map, Option, Some, refl, sym, ap, subst, ◌∙◌, inl, inr}
use Rattle.std.specs.Prelude.{true, unwrap_or}
use Rattle.std.specs.Ordering.{nat_cmp}
use Rattle.std.specs.FinMap as table
use Rattle.relaxed_file.specs.Run.{Visible}
use Rattle.protocol.specs.Tables.{Table, element_at}
use Rattle.protocol.specs.declared.seen.Seen.{Seen}
use Rattle.protocol.specs.declared.seen.Seen.TheVariants.{Numbered, BecameSettled, CopyStarted}
use Rattle.protocol.specs.Observer.{Placed, placed_in, is_placed_as, settled_as, new_entry, orders_after, orders_after_all}
use Rattle.laws_base.proofs.Steps.{on_cond, none_some, same_some, same_or_not, put_there, put_other}
use Rattle.laws_base.proofs.Entries.{AllOf}
use Rattle.laws_base.proofs.MembersRecorded.{all_at}
use Rattle.laws_base.proofs.OnceShown.{NumbersNone, NumbersOnce}

abbrev pub IsApart : Placed → Placed → Type 0
IsApart p q = p.entry.call.client ≡ q.entry.call.client → p.seq ≡ q.seq → ⊥

abbrev pub AreApart : List Placed → Type 0
AreApart [] = Unit {0}
AreApart (p ∷ ps) = AllOf (IsApart p) ps × AreApart ps

one_more_from : (p new : Placed) (ps : List Placed) → IsApart p new → AllOf (IsApart p) ps → AllOf (IsApart p) (ps ++ new ∷ [])
one_more_from p new [] one h = (one, tt)
one_more_from p new (q ∷ ps) one h = (h.0, one_more_from p new ps one h.1)

one_more : (new : Placed) (ps : List Placed) → AllOf (λ p. IsApart p new) ps → AreApart ps → AreApart (ps ++ new ∷ [])
one_more new [] all h = (tt, tt)
one_more new (p ∷ ps) all h = (one_more_from p new ps all.0 h.0, one_more new ps all.1 h.1)

settled_from : (version serial : ℕ) (p : Placed) (ps : List Placed) → AllOf (IsApart p) ps → AllOf (IsApart (settled_as version serial p)) (map (settled_as version serial) ps)
settled_from version serial p [] h = tt
settled_from version serial p (q ∷ ps) h = (
  on_cond (λ (x : Placed). IsApart x (settled_as version serial q)) (is_placed_as version serial p) (record p { entry = record p.entry { settled = true } }) p (λ _. other) (λ _. other),
  settled_from version serial p ps h.1,
)
  where
    other : IsApart p (settled_as version serial q)
    other = on_cond (λ (x : Placed). IsApart p x) (is_placed_as version serial q) (record q { entry = record q.entry { settled = true } }) q (λ _. h.0) (λ _. h.0)

settled_apart : (version serial : ℕ) (ps : List Placed) → AreApart ps → AreApart (map (settled_as version serial) ps)
settled_apart version serial [] h = tt
settled_apart version serial (p ∷ ps) h = (settled_from version serial p ps h.0, settled_apart version serial ps h.1)

-- two places of one number are one
pub one_place : (ps : List Placed) (place other : ℕ) (p q : Placed) → AreApart ps → element_at ps place ≡ Some p → element_at ps other ≡ Some q → p.entry.call.client ≡ q.entry.call.client → p.seq ≡ q.seq → place ≡ other
one_place [] place other p q h at there client seq = none_some p at
one_place (x ∷ ps) zero zero p q h at there client seq = refl
one_place (x ∷ ps) zero (suc other) p q h at there client seq =
    let one : x ≡ p = same_some x p at in
    let apart : IsApart x q = all_at (IsApart x) ps other q h.0 there in
    absurd (apart (ap (λ (y : Placed). y.entry.call.client) one ∙ client) (ap (λ (y : Placed). y.seq) one ∙ seq))
one_place (x ∷ ps) (suc place) zero p q h at there client seq =
    let one : x ≡ q = same_some x q there in
    let apart : IsApart x p = all_at (IsApart x) ps place p h.0 at in
    absurd (apart (ap (λ (y : Placed). y.entry.call.client) one ∙ sym client) (ap (λ (y : Placed). y.seq) one ∙ sym seq))
one_place (x ∷ ps) (suc place) (suc other) p q h at there client seq = ap (λ (n : ℕ). suc n) (one_place ps place other p q h.1 at there client seq)

-- all orders

abbrev pub AreUnique : Table (List Placed) → Type 0
AreUnique orders = (handle : ℕ) → AreApart (placed_in orders handle)

pub none_unique : AreUnique table.empty
none_unique handle = subst (λ (o : Option (List Placed)). AreApart (unwrap_or o [])) (sym (table.get-empty nat_cmp handle)) tt

put_unique : (orders : Table (List Placed)) (k : ℕ) (ps : List Placed) → AreUnique orders → AreApart ps → AreUnique (table.insert orders k ps)
put_unique orders k ps h new handle =
    elim (same_or_not handle k) [
      | inl same ↦ subst (λ (o : Option (List Placed)). AreApart (unwrap_or o [])) (sym (put_there orders k ps handle same)) new
      | inr apart ↦ subst (λ (o : Option (List Placed)). AreApart (unwrap_or o [])) (sym (put_other orders k ps handle apart)) (h handle)
    ]

-- what is numbered has no entry there yet
abbrev pub IsFresh : List Visible → Table (List Placed) → Seen → Type 0
IsFresh trace orders (Numbered handle version serial id m) = AllOf (λ p. IsApart p (new_entry trace version.0 serial.0 id m)) (placed_in orders handle.0)
IsFresh trace orders other = Unit {0}

one_unique : (trace : List Visible) (orders : Table (List Placed)) (x : Seen) → IsFresh trace orders x → AreUnique orders → AreUnique (orders_after trace orders x)
one_unique trace orders (Numbered handle version serial id m) new h =
    put_unique orders handle.0 (placed_in orders handle.0 ++ new_entry trace version.0 serial.0 id m ∷ []) h (one_more (new_entry trace version.0 serial.0 id m) (placed_in orders handle.0) new (h handle.0))
one_unique trace orders (BecameSettled handle version serial) new h =
    put_unique orders handle.0 (map (settled_as version.0 serial.0) (placed_in orders handle.0)) h (settled_apart version.0 serial.0 (placed_in orders handle.0) (h handle.0))
one_unique trace orders (CopyStarted handle copy) new h = put_unique orders copy.0 (placed_in orders handle.0) h (h handle.0)

none_fresh : (trace : List Visible) (orders : Table (List Placed)) (x : Seen) → NumbersNone x → IsFresh trace orders x
none_fresh trace orders (Numbered handle version serial id m) none = absurd none
none_fresh trace orders (BecameSettled handle version serial) none = tt
none_fresh trace orders (CopyStarted handle copy) none = tt

pub none_keep : (trace : List Visible) (orders : Table (List Placed)) (xs : List Seen) → AllOf NumbersNone xs → AreUnique orders → AreUnique (orders_after_all trace orders xs)
none_keep trace orders [] none h = h
none_keep trace orders (x ∷ xs) none h = none_keep trace (orders_after trace orders x) xs none.1 (one_unique trace orders x (none_fresh trace orders x none.0) h)

pub once_keep : (trace : List Visible) (orders : Table (List Placed)) (xs : List Seen) → NumbersOnce xs → AllOf (IsFresh trace orders) xs → AreUnique orders → AreUnique (orders_after_all trace orders xs)
once_keep trace orders [] once new h = h
once_keep trace orders (x ∷ xs) once new h = none_keep trace (orders_after trace orders x) xs once (one_unique trace orders x new.0 h)
