-- Grants among messages: counts of them, and what a step adds.
use Rattle.std.proofs.Common.{◌≡◌, ℕ, zero, suc, ◌≤◌, ◌<◌, Bool, true, false, List, [], ◌∷◌, ◌++◌, Some, None, refl, ap, subst, ◌∙◌, inl, inr, arith}
use Rattle.std.specs.Prelude.{count_by}
use Rattle.messages.specs.declared.message.Body.{Body}
use Rattle.messages.specs.declared.message.Message.{Message}
use Rattle.protocol.specs.Tables.{element_at}
use Rattle.protocol.specs.Sending.{order_number}
use Rattle.protocol.specs.World.{stamped}
use Rattle.laws_base.specs.Laws.{is_grant, grants_of}
use Rattle.laws_base.proofs.Steps.{none_some, same_some, tally, count-cons}
use Rattle.laws_base.proofs.LeaseOrders.{grant_parts, grant_counts, of_grant, to_grant, of_nothing, unordered_nothing}
use Rattle.laws_base.proofs.Entries.{AllOf}
use Rattle.laws_base.proofs.MembersRecorded.{all_at}
use Rattle.laws_base.proofs.MessagesSent.{IsSent, sent_cases, numbered_sent}
use Rattle.laws_base.proofs.ClientMoves.{HasNoOrder}
use Rattle.laws_base.proofs.SentReached.{without_order}
use Rattle.laws_base.proofs.GrantsFollow.{IsVersionAbove, GrantsAbove}

-- a message that passes is counted
pub counted_one : (f : Message → Bool) (ms : List Message) (m : Message) (place : ℕ) → element_at ms place ≡ Some m → f m ≡ true → 1 ≤ count_by f ms
counted_one f [] m place at passes = none_some m at
counted_one f (x ∷ ms) m zero at passes = let whole = count-cons f x ms in let one = ap tally (ap f (same_some x m at) ∙ passes) in omega (arith, whole, one)
counted_one f (x ∷ ms) m (suc place) at passes = let whole = count-cons f x ms in let more = counted_one f ms m place at passes in omega (arith, whole, more)

-- one that passes is there
abbrev pub HasOne : (Message → Bool) → List Message → Type 0
HasOne f ms = (m : Message) × IsSent ms m × (f m ≡ true)

one_more : (f : Message → Bool) (m : Message) (ms : List Message) (b : Bool) → f m ≡ b → 1 ≤ count_by f (m ∷ ms) → (1 ≤ count_by f ms → HasOne f ms) → HasOne f (m ∷ ms)
one_more f m ms true is some rest = (m, (zero, refl), is)
one_more f m ms false is some rest =
    let whole = count-cons f m ms in
    let one = ap tally is in
    let found = rest (omega (arith, whole, one, some)) in
    (found.0, (suc (found.1).0, (found.1).1), found.2)

pub some_counted : (f : Message → Bool) (ms : List Message) → 1 ≤ count_by f ms → HasOne f ms
some_counted f [] some = absurd (let none : 1 ≤ 0 = some in omega (arith, none))
some_counted f (m ∷ ms) some = one_more f m ms (f m) refl some (λ more. some_counted f ms more)

-- each Grant of this chunk among them is above that number
abbrev pub AreAbove : ℕ → ℕ → List Message → Type 0
AreAbove handle version sent = (m : Message) → IsSent sent m → GrantsAbove handle version m.body

pub above_more : (handle version k : ℕ) (sent ms : List Message) → AllOf (λ m. GrantsAbove handle version m.body) ms → AreAbove handle version sent → AreAbove handle version (sent ++ stamped k ms)
above_more handle version k sent ms all h m is =
    elim (sent_cases sent (stamped k ms) m is) [
      | inl before ↦ h m before
      | inr new ↦
          let was = numbered_sent k ms new.0 m new.1 in
          subst (λ (b : Body). GrantsAbove handle version b) was.2.2 (all_at (λ (x : Message). GrantsAbove handle version x.body) ms (was.1).0 was.0 all (was.1).1)
    ]

no_order_above : (handle version : ℕ) (b : Body) → order_number b ≡ None → GrantsAbove handle version b
no_order_above handle version b none = of_nothing (IsVersionAbove handle version) b (unordered_nothing b none)

none_above : (handle version : ℕ) (ms : List Message) → AllOf (λ m. order_number m.body ≡ None) ms → AllOf (λ m. GrantsAbove handle version m.body) ms
none_above handle version [] all = tt
none_above handle version (m ∷ ms) all = (no_order_above handle version m.body all.0, none_above handle version ms all.1)

-- messages that are no orders grant nothing
pub quiet_above : (handle version : ℕ) (ms : List Message) → HasNoOrder ms → AllOf (λ m. GrantsAbove handle version m.body) ms
quiet_above handle version ms quiet = none_above handle version ms (without_order ms quiet)

-- what is counted as a Grant is above
pub granted_above : (handle low version : ℕ) (b : Body) → is_grant handle version b ≡ true → GrantsAbove handle low b → low < version
granted_above handle low version b is above = of_grant (IsVersionAbove handle low) (grant_parts handle version b is).3 above refl

-- what is above a number is no Grant of it
pub above_grants : (handle version : ℕ) (b : Body) → GrantsAbove handle version b → is_grant handle version b ≡ false
above_grants handle version b above = by_test (is_grant handle version b) refl
  where
    by_test : (test : Bool) → is_grant handle version b ≡ test → is_grant handle version b ≡ false
    by_test false e = e
    by_test true e = absurd (let low : version < version = granted_above handle version version b e above in omega (arith, low))

pub above_counted : (handle low version : ℕ) (sent : List Message) → AreAbove handle low sent → 1 ≤ grants_of handle version sent → low < version
above_counted handle low version sent h some = let one = some_counted (λ m. is_grant handle version m.body) sent some in granted_above handle low version (one.0).body one.2 (h one.0 one.1)

-- where none was granted, all are above
pub none_granted : (handle low : ℕ) (sent : List Message) → ((version : ℕ) → grants_of handle version sent ≡ 0) → AreAbove handle low sent
none_granted handle low sent none m is =
    to_grant (IsVersionAbove handle low) m.body (λ order h v end_moment members says key.
    absurd (let no = none v.0 in
    let one = counted_one (λ x. is_grant handle v.0 x.body) sent m is.0 is.1 (subst (λ (q : ℕ). is_grant q v.0 m.body ≡ true) key (grant_counts says)) in
    omega (arith, no, one)))
