-- Acts of which nothing comes, and nodes by their numbers.
use Rattle.std.proofs.Common.{◌≡◌, ◌<◌, ℕ, zero, suc, ◌-◌, List, [], ◌∷◌, length, Option, Some, None, refl, sym, subst, ap, ◌∙◌, arith, inl, inr}
use Rattle.std.specs.Prelude.{◌⊎◌}
use Rattle.gfs_types.specs.declared.answer.Answer.{Answer}
use Rattle.protocol.specs.Tables.{element_at}
use Rattle.protocol.specs.Choice.{Choice, Goes, Lost}
use Rattle.protocol.specs.World.{WorldState, Happened, nothing_happens, numbered_from_1}
use Rattle.cell_world.specs.Held.{HeldCell, IsHeldAs, HasEffect}
use Rattle.cell_world.proofs.Numbers.{none_past}

-- where nothing is done the choice is any
abbrev pub no_choice : Choice
no_choice = record { ending = Goes; order = []; refused = []; decided = [] }

abbrev pub lost_choice : Choice
lost_choice = record { ending = Lost; order = []; refused = []; decided = [] }

pub does_as : (old new : HeldCell) (act other : WorldState → Choice → Happened) (answer : Option Answer)
    → ((w : WorldState) → IsHeldAs w old → (choice : Choice) → other w choice ≡ act w choice) → HasEffect old act answer new → HasEffect old other answer new
does_as old new act other answer same d w g =
    let x = d w g in
    (x.0, ap (λ (h : Happened). h.out.answer) (same w g x.0) ∙ x.1, subst (λ (h : Happened). IsHeldAs h.world new) (sym (same w g x.0)) x.2)

pub does_nothing : (h : HeldCell) (act : WorldState → Choice → Happened) → ((w : WorldState) → IsHeldAs w h → (choice : Choice) → act w choice ≡ nothing_happens w) → HasEffect h act None h
does_nothing h act same = does_as h h (λ w choice. nothing_happens w) act None same (λ w g. (no_choice, refl, g))

pub missing : {X : Type 0} (xs : List X) (n : ℕ) → (n ≡ 0) ⊎ (length xs < n) → numbered_from_1 xs n ≡ None
missing xs zero h = refl
missing xs (suc n) (inl e) = absurd (omega (arith, e))
missing xs (suc n) (inr past) = none_past xs n (omega (arith, past))

-- a number and its place
pub at_place : {X : Type 0} (xs : List X) (n place : ℕ) → n ≡ suc place → numbered_from_1 xs n ≡ element_at xs place
at_place xs n place e = ap (numbered_from_1 xs) e

pub place_is : (n place : ℕ) → n ≡ suc place → n - 1 ≡ place
place_is n place e = omega (arith, e)

pub there : {X : Type 0} (xs : List X) (place : ℕ) → place < length xs → (x : X) × (element_at xs place ≡ Some x)
there [] place h = absurd (omega (arith, h))
there (x ∷ xs) zero h = (x, refl)
there (x ∷ xs) (suc place) h = there xs place (omega (arith, h))
