-- Entries that a server's step leaves settled: each was settled before, or became so in the step.
use Rattle.std.proofs.Common.{◌≡◌, ◌⊎◌, ℕ, zero, suc, true, List, [], ◌∷◌, ◌++◌, map, Option, Some, refl, sym, ap, ◌∙◌, inl, inr}
use Rattle.std.specs.Prelude.{◌==◌, unwrap_or}
use Rattle.std.specs.FinMap as table
use Rattle.std.proofs.lemmas.Bool.{eqb-true, and_parts, true≢false}
use Rattle.relaxed_file.specs.Run.{Visible}
use Rattle.protocol.specs.Tables.{Table, element_at}
use Rattle.protocol.specs.declared.seen.Seen.{Seen}
use Rattle.protocol.specs.declared.seen.Seen.TheVariants.{Numbered, BecameSettled, CopyStarted}
use Rattle.protocol.specs.Observer.{Placed, placed_in, is_placed_as, settled_as, new_entry, orders_after, orders_after_all}
use Rattle.laws_base.proofs.Steps.{on_cond, none_some, same_some, same_or_not, put_there, put_other}
use Rattle.laws_base.proofs.Entries.{AllOf}
use Rattle.laws_base.proofs.RoundsPassed.{IsOfServers}

-- one of these entries has the same round and serial, and is settled
abbrev pub WasSettled : List Placed → Placed → Type 0
WasSettled ps p = (place : ℕ) × (q : Placed) × (element_at ps place ≡ Some q) × (q.entry.settled ≡ true) × (q.entry.round ≡ p.entry.round) × (q.serial ≡ p.serial)

-- that shows that this entry of the chunk became settled
abbrev pub IsSettling : ℕ → Placed → Seen → Type 0
IsSettling handle p (BecameSettled q v n) = (q.0 ≡ handle) × (v.0 ≡ p.entry.round) × (n.0 ≡ p.serial)
IsSettling handle p other = ⊥

last_or_before : (ps : List Placed) (new : Placed) (place : ℕ) (p : Placed) → element_at (ps ++ new ∷ []) place ≡ Some p → (element_at ps place ≡ Some p) ⊎ (new ≡ p)
last_or_before [] new zero p at = inr (same_some new p at)
last_or_before [] new (suc place) p at = none_some p at
last_or_before (x ∷ ps) new zero p at = inl at
last_or_before (x ∷ ps) new (suc place) p at = last_or_before ps new place p at

pub mapped_from : (f : Placed → Placed) (ps : List Placed) (place : ℕ) (p : Placed) → element_at (map f ps) place ≡ Some p → (q : Placed) × (element_at ps place ≡ Some q) × (f q ≡ p)
mapped_from f [] place p at = none_some p at
mapped_from f (x ∷ ps) zero p at = (x, refl, same_some (f x) p at)
mapped_from f (x ∷ ps) (suc place) p at = mapped_from f ps place p at

-- an entry after one became settled
settled_from : (handle v n : ℕ) (q p : Placed) → settled_as v n q ≡ p → p.entry.settled ≡ true → ((q.entry.settled ≡ true) × (q.entry.round ≡ p.entry.round) × (q.serial ≡ p.serial)) ⊎ ((v ≡ p.entry.round) × (n ≡ p.serial))
settled_from handle v n q p is settled =
    on_cond (λ (x : Placed). x ≡ p → ((q.entry.settled ≡ true) × (q.entry.round ≡ p.entry.round) × (q.serial ≡ p.serial)) ⊎ ((v ≡ p.entry.round) × (n ≡ p.serial))) (is_placed_as v n q) (record q { entry = record q.entry { settled = true } }) q
    (λ placed same.
    let parts = and_parts (q.entry.round == v) (q.serial == n) placed in
    inr (sym (eqb-true q.entry.round v parts.0) ∙ ap (λ (x : Placed). x.entry.round) same, sym (eqb-true q.serial n parts.1) ∙ ap (λ (x : Placed). x.serial) same))
    (λ _ same. inl (ap (λ (x : Placed). x.entry.settled) same ∙ settled, ap (λ (x : Placed). x.entry.round) same, ap (λ (x : Placed). x.serial) same)) is

module _ (handle : ℕ) (p : Placed) (settled : p.entry.settled ≡ true) where
  abbrev Is : List Placed → Type 0
  Is ps = (place : ℕ) × (element_at ps place ≡ Some p)

  put_settled : (orders : Table (List Placed)) (k : ℕ) (ps : List Placed) (G : Type 0) → (handle ≡ k → Is ps → WasSettled (placed_in orders handle) p ⊎ G) → Is (placed_in (table.insert orders k ps) handle) → WasSettled (placed_in orders handle) p ⊎ G
  put_settled orders k ps G new is =
      elim (same_or_not handle k) [
        | inl same ↦ new same (is.0, ap (λ (o : Option (List Placed)). element_at (unwrap_or o []) is.0) (sym (put_there orders k ps handle same)) ∙ is.1)
        | inr apart ↦ inl (is.0, p, ap (λ (o : Option (List Placed)). element_at (unwrap_or o []) is.0) (sym (put_other orders k ps handle apart)) ∙ is.1, settled, refl, refl)
      ]

  one_settled : (trace : List Visible) (orders : Table (List Placed)) (x : Seen) → IsOfServers x → Is (placed_in (orders_after trace orders x) handle) → WasSettled (placed_in orders handle) p ⊎ IsSettling handle p x
  one_settled trace orders (Numbered q v n id m) of is =
      let new : Placed = new_entry trace v.0 n.0 id m in
      put_settled orders q.0 (placed_in orders q.0 ++ new ∷ []) ⊥
      (λ same there. elim (last_or_before (placed_in orders q.0) new there.0 p there.1) [
        | inl before ↦ inl (there.0, p, ap (λ (k : ℕ). element_at (placed_in orders k) there.0) same ∙ before, settled, refl, refl)
        | inr last ↦ absurd (true≢false (sym settled ∙ ap (λ (x : Placed). x.entry.settled) (sym last)))
      ]) is
  one_settled trace orders (BecameSettled q v n) of is =
      put_settled orders q.0 (map (settled_as v.0 n.0) (placed_in orders q.0)) (IsSettling handle p (BecameSettled q v n))
      (λ same there.
      let was = mapped_from (settled_as v.0 n.0) (placed_in orders q.0) there.0 p there.1 in
      elim (settled_from handle v.0 n.0 was.0 p was.2 settled) [
        | inl old ↦ inl (there.0, was.0, ap (λ (k : ℕ). element_at (placed_in orders k) there.0) same ∙ was.1, old.0, old.1, old.2)
        | inr now ↦ inr (sym same, now.0, now.1)
      ]) is
  one_settled trace orders (CopyStarted q copy) of is = absurd of

was_before : (handle : ℕ) (trace : List Visible) (orders : Table (List Placed)) (x : Seen) (p : Placed) → IsOfServers x → WasSettled (placed_in (orders_after trace orders x) handle) p → WasSettled (placed_in orders handle) p ⊎ IsSettling handle p x
was_before handle trace orders x p of was =
    elim (one_settled handle was.1 was.3 trace orders x of (was.0, was.2)) [
      | inl before ↦ inl (before.0, before.1, before.2, before.3, before.4 ∙ was.4, before.5 ∙ was.5)
      | inr now ↦ inr (settling x now)
    ]
  where
    settling : (y : Seen) → IsSettling handle was.1 y → IsSettling handle p y
    settling (Numbered q v n id m) now = now
    settling (BecameSettled q v n) now = (now.0, now.1 ∙ was.4, now.2 ∙ was.5)
    settling (CopyStarted q copy) now = now

settled_before : (handle : ℕ) (trace : List Visible) (orders : Table (List Placed)) (xs : List Seen) (p : Placed) → AllOf IsOfServers xs → WasSettled (placed_in (orders_after_all trace orders xs) handle) p
    → WasSettled (placed_in orders handle) p ⊎ ((n : ℕ) × (x : Seen) × (element_at xs n ≡ Some x) × IsSettling handle p x)
settled_before handle trace orders [] p of was = inl was
settled_before handle trace orders (x ∷ xs) p of was =
    elim (settled_before handle trace (orders_after trace orders x) xs p of.1 was) [
      | inl before ↦ elim (was_before handle trace orders x p of.0 before) [
        | inl first ↦ inl first
        | inr now ↦ inr (zero, x, refl, now)
      ]
      | inr later ↦ inr (suc later.0, later.1, later.2, later.3)
    ]

-- each settled entry after a server's step was settled before, or became so
pub settled_cases : (handle : ℕ) (trace : List Visible) (orders : Table (List Placed)) (xs : List Seen) → AllOf IsOfServers xs → (place : ℕ) (p : Placed) → element_at (placed_in (orders_after_all trace orders xs) handle) place ≡ Some p → p.entry.settled ≡ true
    → WasSettled (placed_in orders handle) p ⊎ ((n : ℕ) × (x : Seen) × (element_at xs n ≡ Some x) × IsSettling handle p x)
settled_cases handle trace orders xs of place p at settled = settled_before handle trace orders xs p of (place, p, at, settled, refl, refl)
