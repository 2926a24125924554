-- Marked entries of an order that rises are a selection of it, where each settled one up to a version is among them, and none of a later round.
use Rattle.std.proofs.Common.{◌≡◌, ◌⊎◌, ℕ, zero, suc, ◌<◌, Bool, true, false, List, [], ◌∷◌, map, Some, refl, sym, ap, subst, ◌∙◌, inl, inr, arith}
use Rattle.std.specs.Prelude.{IsTrue}
use Rattle.std.specs.List.{AllByRecursion}
use Rattle.std.proofs.lemmas.Bool.{cases_lt}
use Rattle.gfs_types.specs.declared.mutation.Mutation.{Mutation}
use Rattle.relaxed_file.specs.Order.{Entry, mutations_of, IsSelection, empty, takes, leaves}
use Rattle.protocol.specs.Tables.{element_at}
use Rattle.protocol.specs.Observer.{Placed}
use Rattle.laws_base.proofs.Steps.{none_some, same_some}
use Rattle.protocol_invariant.specs.Versions.{IsBefore, AreRising}
use Rattle.laws_base.specs.ChunkOrders.{unsettled}
use Rattle.laws_versions.specs.ReplicaImages.{marked, mutations_in, IsWithin, HasEntry}
use Rattle.laws_versions.specs.Selections.{HasSettled}

-- the marked entries, as they stand
abbrev pub chosen : List Bool → List Placed → List Entry
chosen [] order = []
chosen (mark ∷ marks) [] = []
chosen (true ∷ marks) (p ∷ order) = p.entry ∷ chosen marks order
chosen (false ∷ marks) (p ∷ order) = chosen marks order

pub chosen_mutations : (marks : List Bool) (order : List Placed) → mutations_in (marked marks order) ≡ mutations_of (chosen marks order)
chosen_mutations [] order = refl
chosen_mutations (mark ∷ marks) [] = refl
chosen_mutations (true ∷ marks) (p ∷ order) = ap (λ (ms : List Mutation). p.entry.mutation ∷ ms) (chosen_mutations marks order)
chosen_mutations (false ∷ marks) (p ∷ order) = chosen_mutations marks order

-- two entries of one round and serial: neither stands before the other
not_apart : {A : Type 0} (p q : Placed) → IsBefore p q → p.entry.round ≡ q.entry.round → p.serial ≡ q.serial → A
not_apart p q (inl less) round number = absurd (omega (arith, less, round))
not_apart p q (inr both) round number = let less = both.1 in absurd (omega (arith, less, number))

-- so an entry that stands before all of an order has the round and serial of none of it
not_among : {A : Type 0} (p : Placed) (order : List Placed) → AllByRecursion (IsBefore p) order → (place : ℕ) (q : Placed) → element_at order place ≡ Some q → p.entry.round ≡ q.entry.round → p.serial ≡ q.serial → A
not_among p [] before place q at round number = none_some q at
not_among p (x ∷ order) before zero q at round number = not_apart p q (subst (λ (y : Placed). IsBefore p y) (same_some x q at) before.0) round number
not_among p (x ∷ order) before (suc place) q at round number = not_among p order before.1 place q at round number

-- nor of what is marked of it
not_marked : {A : Type 0} (p : Placed) (order : List Placed) → AllByRecursion (IsBefore p) order → (marks : List Bool) (place : ℕ) (q : Placed) → element_at (marked marks order) place ≡ Some q → q.entry.round ≡ p.entry.round → q.serial ≡ p.serial → A
not_marked p order before [] place q at round number = none_some q at
not_marked p [] before (mark ∷ marks) place q at round number = none_some q at
not_marked p (x ∷ order) before (false ∷ marks) place q at round number = not_marked p order before.1 marks place q at round number
not_marked p (x ∷ order) before (true ∷ marks) zero q at round number =
    let one = same_some (unsettled x) q at in
    not_apart p x before.0 (sym (ap (λ (y : Placed). y.entry.round) one ∙ round)) (sym (ap (λ (y : Placed). y.serial) one ∙ number))
not_marked p (x ∷ order) before (true ∷ marks) (suc place) q at round number = not_marked p order before.1 marks place q at round number

-- without the first entry of the order
rest_entry : (p : Placed) (ps : List Placed) (round serial place : ℕ) (x : Placed) → element_at (p ∷ ps) place ≡ Some x → x.entry.round ≡ round → x.serial ≡ serial → ((p.entry.round ≡ round) × (p.serial ≡ serial)) ⊎ HasEntry ps round serial
rest_entry p ps round serial zero x at round_is serial_is =
    let one = same_some p x at in
    inl (ap (λ (y : Placed). y.entry.round) one ∙ round_is, ap (λ (y : Placed). y.serial) one ∙ serial_is)
rest_entry p ps round serial (suc place) x at round_is serial_is = inr (place, x, at, round_is, serial_is)

module _ (version serial : ℕ) where
  rest_settled : (marks : List Bool) (p : Placed) (order : List Placed) → AllByRecursion (IsBefore p) order → HasSettled (p ∷ order) version (unsettled p ∷ marked marks order) → HasSettled order version (marked marks order)
  rest_settled marks p order before h place q at settled low =
      let e = h (suc place) q at settled low in
      elim (rest_entry (unsettled p) (marked marks order) q.entry.round q.serial e.0 e.1 e.2 e.3 e.4) [
        | inl same ↦ not_among p order before place q at same.0 same.1
        | inr rest ↦ rest
      ]

  -- a settled entry that is not marked is of a later round
  left : (marks : List Bool) (p : Placed) (order : List Placed) → AllByRecursion (IsBefore p) order → HasSettled (p ∷ order) version (marked marks order) → IsTrue p.entry.settled → version < p.entry.round
  left marks p order before h settled =
      elim (cases_lt version p.entry.round) [
        | inl less ↦ less
        | inr low ↦ let e = h zero p refl settled low in not_marked p order before marks e.0 e.1 e.2 e.3 e.4
      ]

  pub is_selection : (marks : List Bool) (order : List Placed) → AreRising order → AllByRecursion (IsWithin version serial) (marked marks order) → HasSettled order version (marked marks order) → IsSelection version (map (λ p. p.entry) order) (chosen marks order)
  is_selection [] [] rising within h = empty
  is_selection (mark ∷ marks) [] rising within h = empty
  is_selection [] (p ∷ order) rising within h =
      leaves (λ settled. left [] p order rising.0 h settled) (is_selection [] order rising.1 tt (λ place q at settled low. h (suc place) q at settled low))
  is_selection (true ∷ marks) (p ∷ order) rising within h = takes (within.0).0 (is_selection marks order rising.1 within.1 (rest_settled marks p order rising.0 h))
  is_selection (false ∷ marks) (p ∷ order) rising within h =
      leaves (λ settled. left marks p order rising.0 h settled) (is_selection marks order rising.1 within (λ place q at settled low. h (suc place) q at settled low))
