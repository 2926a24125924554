-- The regions of an order are maximal.
use Rattle.std.proofs.Common.{◌≡◌, ℕ, zero, suc, ◌+◌, Bool, true, false, not, cond, List, [], ◌∷◌, Option, Some, None, refl, sym, ◌∙◌, ap, subst, arith, inl, inr}
use Rattle.std.specs.Prelude.{IsFalse, unwrap_or, option_map}
use Rattle.std.proofs.lemmas.Bool.{false≢true, cases_eq}
use Rattle.relaxed_file.specs.declared.region.Region.{Region}
use Rattle.relaxed_file.specs.Order.{Entry, last_cover, order_length}
use Rattle.relaxed_file.specs.Regions.{is_determined, one_place, joined_before, regions_from, regions_of, AreRegions, IsOfOneKind, NextDiffers}
use Rattle.relaxed_file.specs.Laws.{RegionsAreMaximal, OnlyUnsettledIsUndetermined}

-- a place alone is of one kind
alone : (order : List Entry) (place : ℕ) (b : Bool) → is_determined order place ≡ b → IsOfOneKind order (one_place place b)
alone order place b is k l h = let same : k ≡ place = omega arith in ap (is_determined order) same ∙ is

-- a place and the range behind it
longer : (order : List Entry) (place : ℕ) (r : Region) → r.from ≡ suc place → is_determined order place ≡ r.determined → IsOfOneKind order r
    → IsOfOneKind order (record r { from = place })
longer order place r next is h k l below =
    elim (cases_eq k place) [
      | inl same ↦ ap (is_determined order) same ∙ is
      | inr other ↦ h k (omega arith) below
    ]

next_differs : (b : Bool) (rest : List Region) (c : Bool) → c ≡ b → NextDiffers c rest → NextDiffers b rest
next_differs b rest c same h = subst (λ d. NextDiffers d rest) same h

joined : (order : List Entry) (place end : ℕ) (b : Bool) (regions : List Region) → is_determined order place ≡ b
    → AreRegions order (suc place) end regions → AreRegions order place end (joined_before place b regions)
joined order place end b [] is h = (refl, omega arith, alone order place b is, tt, h)
joined order place end true (r ∷ rest) is h =
    elim r.determined as (λ d. r.determined ≡ d → AreRegions order place end (cond d (record r { from = place } ∷ rest) (one_place place true ∷ r ∷ rest))) [
      | true ↦ λ e. (refl, omega (arith, h.1), longer order place r h.0 (is ∙ sym e) h.2, h.3, h.4)
      | false ↦ λ e. (refl, omega arith, alone order place true is, e, h)
    ] refl
joined order place end false (r ∷ rest) is h =
    elim r.determined as (λ d. r.determined ≡ d → AreRegions order place end (cond d (one_place place false ∷ r ∷ rest) (record r { from = place } ∷ rest))) [
      | true ↦ λ e. (refl, omega arith, alone order place false is, e, h)
      | false ↦ λ e. (refl, omega (arith, h.1), longer order place r h.0 (is ∙ sym e) h.2, h.3, h.4)
    ] refl

from_here : (order : List Entry) (place count : ℕ) → AreRegions order place (place + count) (regions_from order place count)
from_here order place zero = omega arith
from_here order place (suc count) =
    joined order place (place + suc count) (is_determined order place) (regions_from order (suc place) count) refl
    (let same : suc place + count ≡ place + suc count = omega arith in subst (λ end. AreRegions order (suc place) end (regions_from order (suc place) count)) same (from_here order (suc place) count))

pub regions_are_maximal : RegionsAreMaximal
regions_are_maximal order =
    let same : 0 + order_length order ≡ order_length order = omega arith in
    subst (λ end. AreRegions order 0 end (regions_of order)) same (from_here order 0 (order_length order))

not_true : (b : Bool) → not b ≡ true → b ≡ false
not_true false h = refl
not_true true h = absurd (false≢true h)

unsettled : (found : Option Entry) → unwrap_or (option_map (λ e. not e.settled) found) false ≡ true → (e : Entry) × (found ≡ Some e) × IsFalse e.settled
unsettled None h = absurd (false≢true h)
unsettled (Some e) h = (e, refl, not_true e.settled h)

pub only_unsettled : OnlyUnsettledIsUndetermined
only_unsettled place order h = unsettled (last_cover order place) h
