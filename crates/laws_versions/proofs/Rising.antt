-- Each entry stands before those that come later, by its round, or by its serial within the round.
use Rattle.std.proofs.Common.{◌≡◌, ℕ, zero, suc, ◌<◌, List, [], ◌∷◌, Some, refl, inl, inr, arith}
use Rattle.std.specs.List.{AllByRecursion}
use Rattle.std.proofs.lemmas.Bool.{cases_lt}
use Rattle.protocol.specs.Tables.{element_at}
use Rattle.protocol.specs.Observer.{Placed, placed_in}
use Rattle.protocol_invariant.specs.Versions.{IsBefore, AreRising}
use Rattle.laws_base.proofs.RisingRounds.{rounds_of_orders_rise}
use Rattle.laws_base.proofs.RoundSerials.{later_place}
use Rattle.laws_base.proofs.CountedRounds.{serials_of_rounds_are_counted}
use Rattle.laws_versions.specs.HeldRounds.{OrdersRise}

all_from : {X : Type 0} (P : X → Type 0) (xs : List X) → ((n : ℕ) (x : X) → element_at xs n ≡ Some x → P x) → AllByRecursion P xs
all_from P [] each = tt
all_from P (x ∷ xs) each = (each zero x refl, all_from P xs (λ n y at. each (suc n) y at))

rising_from : (ps : List Placed) → ((place later : ℕ) (p q : Placed) → element_at ps place ≡ Some p → element_at ps later ≡ Some q → place < later → IsBefore p q) → AreRising ps
rising_from [] each = tt
rising_from (x ∷ ps) each = (
  all_from (IsBefore x) ps (λ n q at. each zero (suc n) x q refl at (omega arith)),
  rising_from ps (λ place later p q at there less. each (suc place) (suc later) p q at there (omega (arith, less))),
)

pub orders_rise : OrdersRise
orders_rise config servers clients w r clocks handle =
    rising_from (placed_in w.observer.orders handle)
    (λ place later p q at there less.
    let low = rounds_of_orders_rise config servers clients w r clocks handle place later p q at there less in
    elim (cases_lt p.entry.round q.entry.round) [
      | inl above ↦ inl above
      | inr least ↦
          let same : p.entry.round ≡ q.entry.round = omega (arith, low, least) in
          let counted = serials_of_rounds_are_counted config servers clients w r handle q.entry.round in
          inr (same, later_place q.entry.round (placed_in w.observer.orders handle) counted.0 counted.1 place later p q at there same refl less)
    ])
