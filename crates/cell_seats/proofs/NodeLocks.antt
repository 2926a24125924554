-- Taking a node and giving it back keep its lock's rule.
use Rattle.std.proofs.Common.{◌≡◌, ℕ, ◌<◌, ◌==◌, Bool, true, false, List, [], ◌∷◌, ◌++◌, length, None, refl, sym, ap, subst, ◌∙◌, arith, slice_set}
use Rattle.std.specs.Prelude.{slice_index, Option}
use Rattle.std.proofs.lemmas.Bool.Decides.{nat_tests}
use mathlib.Core.Option.{some}
use Rattle.atomic_table.specs.Table.{Act, Me, Step, rest, Arrives, Allows, Valid, homes_after, carried_after, opening}
use Rattle.atomic_table.specs.Table.Act.{keeps, takes, gives}
use Rattle.atomic_table.proofs.Lists.{set_here}
use Rattle.cell_seats.specs.Slots.{SlotState}
use Rattle.cell_seats.specs.NodeLocks.{NodeName, Guards, HasNode, KeepsNode, TakesNode, GivesNode}

set_first : (ws : List ℕ) (n : ℕ) → 0 < length ws → slice_index (slice_set ws 0 n) 0 ≡ n
set_first [] n h = absurd (omega arith)
set_first (w ∷ ws) n h = refl

set_still : (ws : List ℕ) (n : ℕ) → length (slice_set ws 0 n) ≡ length ws
set_still [] n = refl
set_still (w ∷ ws) n = refl

pub takes_node : (name : NodeName) (slots : ℕ) (st : Step (Option SlotState)) → Arrives (KeepsNode name) slots 0 (λ _. 1) (TakesNode st (name, []))
takes_node name slots st s holds homes range = by_found (slice_index s.words 0 == 0) refl
  where
    by_found : (b : Bool) → (slice_index s.words 0 == 0) ≡ b
        → (w : NodeName) × (a : Act (Option SlotState)) × Valid s.homes [] a × KeepsNode name (record { words = slice_set s.words 0 1; homes = homes_after s.homes [] a; views = s.views ++ w ∷ [] })
        × TakesNode st (name, []) (slice_index s.words 0) (w, carried_after [] a)
    by_found true is =
        let zero_is : slice_index s.words 0 ≡ 0 = grind (arith, nat_tests) in
        let y = holds.1 zero_is in
        (name, takes 0 y.0, y.1, (subst (λ (n : ℕ). 0 < n) (sym (set_still s.words 1)) holds.0, λ e. absurd (omega (arith, e, set_first s.words 1 holds.0))), (refl, rw is (y.0, refl, y.2)))
    by_found false is =
        (name, keeps, tt, (subst (λ (n : ℕ). 0 < n) (sym (set_still s.words 1)) holds.0, λ e. absurd (omega (arith, e, set_first s.words 1 holds.0))), (refl, rw is refl))

pub gives_node : (name : NodeName) (slots id : ℕ) (view : NodeName) (y : Option SlotState) (st : Step (Option SlotState)) → slots ≡ 1 → Guards name y
    → Allows (KeepsNode name) slots id (view, (0, y) ∷ []) 0 (λ _. 0) (λ _. GivesNode st (view, (0, y) ∷ []) 0)
gives_node name slots id view y st one has s holds homes at range =
    (view, gives, tt, (subst (λ (n : ℕ). 0 < n) (sym (set_still s.words 0)) holds.0, λ _. (y, set_here s.homes 0 (some y) (omega (arith, homes, one)), has)), tt)

pub opens_node : (name : NodeName) → KeepsNode name (opening (0 ∷ []) (None ∷ []) name)
opens_node name = (omega arith, λ _. (None, refl, tt))

abbrev Places : Type 0
Places = List (ℕ × Option SlotState)

abbrev Has : Type 0
Has = Me (Option SlotState) NodeName

abbrev value : Option SlotState → Places → Option SlotState
value d [] = d
value d ((k, x) ∷ xs) = x

-- what was taken may be lent
pub lends : (l : Places) (y : Option SlotState) → l ≡ (0, y) ∷ [] → l ≡ (0, y) ∷ rest l
lends l y has = has ∙ ap (λ (r : Places). (0, y) ∷ rest r) (sym has)

-- what is lent is what was taken
pub lent : (name : NodeName) (l : Places) (now y : Option SlotState) → l ≡ (0, now) ∷ rest l → l ≡ (0, y) ∷ [] → Guards name y → Guards name now
lent name l now y has_now has guards = subst (Guards name) (sym (ap (value None) (sym has_now ∙ has))) guards

-- something else of the same name lies there now
pub has_still : (name : NodeName) (was is : Has) (y new : Option SlotState) → was.0 ≡ name → was.1 ≡ (0, y) ∷ [] → is ≡ (was.0, (0, new) ∷ rest was.1) → Guards name new → HasNode name is
has_still name was is y new of has now guards = (ap (λ (m : Has). m.0) now ∙ of, (new, ap (λ (m : Has). m.1) now ∙ ap (λ (r : Places). (0, new) ∷ rest r) has, guards))
