-- The area that is current is the newest one.
use Rattle.std.proofs.Common.{◌≡◌, ◌⊎◌, ℕ, zero, suc, ◌<◌, ◌≤◌, Bool, true, false, List, [], ◌∷◌, ◌++◌, length, take, Option, Some, None, refl, sym, ap, subst, ◌∙◌, arith, inl, inr}
use Rattle.std.specs.Prelude.{if◌then◌else◌, nat_lt, Err, IfOk, Ok, Result}
use Rattle.std.proofs.lemmas.Bool.{cases_Bool, le-ltb, ltb-true}
use Rattle.oplog.specs.Areas.{AreaSays, AreaState, end_of}
use Rattle.oplog.specs.Disks.{area_of, front_of, head, is_below, later_if_below, newest, open_number, other, second_or_none, DiskSays}
use Rattle.oplog.specs.declared.fault.LogFault.{LogFault}
use Rattle.oplog.proofs.Current.{open_front}
use Rattle.oplog.specs.Opening.{area_found, IsFound, WalksThrough}
use Rattle.oplog.specs.declared.found.FoundArea.{FoundArea}

-- the first one has the greater number, or the second one has
abbrev pub IsNewest : Option ℕ → Option ℕ → ℕ → Type 0
IsNewest first second which = ((which ≡ 0) × ((n : ℕ) → first ≡ Some n → is_below second n ≡ true)) ⊎ ((which ≡ 1) × ((n : ℕ) → second ≡ Some n → is_below first n ≡ true))

same_some : (a b : ℕ) → Some a ≡ Some b → a ≡ b
same_some a b e = cc

by_tests : (a b w : ℕ) → (nat_lt b a ≡ true) ⊎ (nat_lt b a ≡ false) → (nat_lt a b ≡ true) ⊎ (nat_lt a b ≡ false) → newest (Some a) (Some b) ≡ Some w → IsNewest (Some a) (Some b) w
by_tests a b w (inl below) either e =
    let first : Some 0 ≡ Some w = sym (ap (λ (t : Bool). if t then Some 0 else later_if_below (Some a) b) below) ∙ e in
    inl (sym (same_some 0 w first), λ n is. subst (λ (k : ℕ). nat_lt b k ≡ true) (same_some a n is) below)
by_tests a b w (inr not_below) (inl below) e =
    let second : Some 1 ≡ Some w = sym (ap (λ (t : Bool). if t then Some 0 else later_if_below (Some a) b) not_below ∙ ap (λ (t : Bool). if t then Some 1 else None) below) ∙ e in
    inr (sym (same_some 1 w second), λ n is. subst (λ (k : ℕ). nat_lt a k ≡ true) (same_some b n is) below)
by_tests a b w (inr not_below) (inr not_above) e =
    let none : None ≡ Some w = sym (ap (λ (t : Bool). if t then Some 0 else later_if_below (Some a) b) not_below ∙ ap (λ (t : Bool). if t then Some 1 else None) not_above) ∙ e in
    absurd cc

pub newest_is : (first second : Option ℕ) (w : ℕ) → newest first second ≡ Some w → IsNewest first second w
newest_is None None w e = let none : None ≡ Some w = e in absurd cc
newest_is None (Some b) w e = inr (sym (same_some 1 w e), λ n is. refl)
newest_is (Some a) None w e = inl (sym (same_some 0 w e), λ n is. refl)
newest_is (Some a) (Some b) w e = by_tests a b w (cases_Bool (nat_lt b a)) (cases_Bool (nat_lt a b)) e

first_newest : (first second : Option ℕ) (n : ℕ) → first ≡ Some n → is_below second n ≡ true → newest first second ≡ Some 0
first_newest first second n is below = ap (λ (o : Option ℕ). newest o second) is ∙ ap (λ (t : Bool). if t then Some 0 else second_or_none (Some n) second) below

second_newest : (first : Option ℕ) (n : ℕ) → is_below first n ≡ true → newest first (Some n) ≡ Some 1
second_newest None n below = refl
second_newest (Some k) n below =
    let above : nat_lt n k ≡ false = le-ltb n k (omega (arith, ltb-true k n below)) in
    ap (λ (t : Bool). if t then Some 0 else later_if_below (Some k) n) above ∙ ap (λ (t : Bool). if t then Some 1 else None) below

below_two : (first second : Option ℕ) (which : ℕ) → IsNewest first second which → which < 2
below_two first second which (inl is) = omega (arith, is.0)
below_two first second which (inr is) = omega (arith, is.0)

pub newest_two : (first second : Option ℕ) (which : ℕ) → newest first second ≡ Some which → which < 2
newest_two first second which is = below_two first second which (newest_is first second which is)

module _ (size : ℕ) (d : List ℕ) (large : 4096 ≤ size) (sized : length d ≡ size) where
  abbrev pub number_at : ℕ → Option ℕ
  number_at which = open_number (front_of size which d)

  -- what stands in the newest area is current
  pub older_if : (which w : ℕ) → w ≡ which → IsNewest (number_at 0) (number_at 1) which → (n : ℕ) → number_at which ≡ Some n → (which < 2) × (is_below (number_at (other which)) n ≡ true)
  older_if which w same (inl first) n is =
      (omega (arith, first.0), subst (λ (k : ℕ). number_at k ≡ Some n → is_below (number_at (other k)) n ≡ true) (sym first.0) (λ here. first.1 n here) is)
  older_if which w same (inr second) n is =
      (omega (arith, second.0), subst (λ (k : ℕ). number_at k ≡ Some n → is_below (number_at (other k)) n ≡ true) (sym second.0) (λ here. second.1 n here) is)

  -- and it is the newest one
  pub current_is : (which : ℕ) (area : AreaState) → DiskSays size which area d → newest (number_at 0) (number_at 1) ≡ Some which
  current_is zero area says = first_newest (number_at 0) (number_at 1) area.number (open_front size 0 area d large sized says.one_of_two says.says) says.older
  current_is (suc zero) area says = ap (λ (o : Option ℕ). newest (number_at 0) o) (open_front size 1 area d large sized says.one_of_two says.says) ∙ second_newest (number_at 0) area.number says.older
  current_is (suc (suc k)) area says = absurd (omega (arith, says.one_of_two))

  -- what the newest area says is what the disk says
  pub newest_says : (which : ℕ) (area : AreaState) → newest (number_at 0) (number_at 1) ≡ Some which → take 16 d ≡ head ++ 1 ∷ [] → AreaSays area (area_of size which d) → DiskSays size which area d
  newest_says which area is headed says =
      let at = newest_is (number_at 0) (number_at 1) which is in
      let one = below_two (number_at 0) (number_at 1) which at in
      let older = older_if which which refl at area.number (open_front size which area d large sized one says) in
      record { sized = sized; one_of_two = one; formatted = headed; says = says; older = older.1 }

  pub only_area : (which w : ℕ) (area : AreaState) → DiskSays size w area d → newest (number_at 0) (number_at 1) ≡ Some which → AreaSays area (area_of size which d)
  only_area which w area says is = subst (λ (k : ℕ). AreaSays area (area_of size k d)) (same_some w which (sym (current_is w area says) ∙ is)) says.says

-- what was read of the newest area was found
pub found_says : (d : List ℕ) (which : ℕ) (found : FoundArea) → 4096 ≤ length d → newest (open_number (front_of (length d) 0 d)) (open_number (front_of (length d) 1 d)) ≡ Some which → take 16 d ≡ head ++ 1 ∷ [] → found.which ≡ which
    → AreaSays (area_found found) (area_of (length d) which d) → found.end ≡ end_of (area_found found) → WalksThrough (found.items ++ found.records) found.walk → IsFound found d
found_says d which found large is headed at says ends through = record {
  says = subst (λ (k : ℕ). DiskSays (length d) k (area_found found) d) (sym at) (newest_says (length d) d large refl which (area_found found) is headed says);
  end = ends;
  walk = through;
}

-- where something was read
pub found_if : (d : List ℕ) (which : ℕ) (r : Result FoundArea LogFault) → 4096 ≤ length d → newest (open_number (front_of (length d) 0 d)) (open_number (front_of (length d) 1 d)) ≡ Some which → take 16 d ≡ head ++ 1 ∷ []
    → IfOk r (λ x. x.which ≡ which) → IfOk r (λ x. AreaSays (area_found x) (area_of (length d) which d)) → IfOk r (λ x. x.end ≡ end_of (area_found x)) → IfOk r (λ x. WalksThrough (x.items ++ x.records) x.walk) → IfOk r (λ x. IsFound x d)
found_if d which (Ok x) large is headed at says ends through = found_says d which x large is headed at says ends through
found_if d which (Err e) large is headed at says ends through = tt
