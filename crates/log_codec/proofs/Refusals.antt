-- A refusal and its number.
use Rattle.std.proofs.Common.{◌≡◌, ℕ, zero, suc, Bool, true, false, cond, List, [], ◌∷◌, ◌++◌, Option, Some, None, refl, sym, ap, subst}
use Rattle.std.specs.Prelude.{◌==◌}
use Rattle.std.specs.List.{find}
use Rattle.std.proofs.lemmas.Bool.{eqb-true}
use Rattle.gfs_types.specs.Refusals.{number_of}
use Rattle.gfs_types.specs.declared.refusal.Refusal.{Refusal}
use Rattle.gfs_types.specs.declared.refusal.Refusal.TheVariants.{BadPath, NoParent, Exists, NotFound, NotFile, NotDir, NotEmpty, Reserved, Inside, Busy, TooLong, BadFd, NamesFull, Collected, NoReplica, Failed, Unknown, NoMemory, ClockBroken, JournalFull, Closed, BadSize, NoChunk, Version, NoLease, NoData, OldSerial, OldRequest, Late, Corrupt, NoRoom, OldOrder, ChunkFull, ServerTooLong}
use Rattle.log_codec.specs.Fields.{outcome}
use Rattle.log_codec.specs.Reading.{all_refusals, refusal_numbered, refusal_at, outcome_at}
use Rattle.log_codec.proofs.Fields.{IsBytes, IsBytes-rest, bind_some, some_is, Takes, IsField}

numbered_again : (r : Refusal) → refusal_numbered (number_of r) ≡ Some r
unfolding refusal_numbered
numbered_again BadPath = refl
numbered_again NoParent = refl
numbered_again Exists = refl
numbered_again NotFound = refl
numbered_again NotFile = refl
numbered_again NotDir = refl
numbered_again NotEmpty = refl
numbered_again Reserved = refl
numbered_again Inside = refl
numbered_again Busy = refl
numbered_again TooLong = refl
numbered_again BadFd = refl
numbered_again NamesFull = refl
numbered_again Collected = refl
numbered_again NoReplica = refl
numbered_again Failed = refl
numbered_again Unknown = refl
numbered_again NoMemory = refl
numbered_again ClockBroken = refl
numbered_again JournalFull = refl
numbered_again Closed = refl
numbered_again BadSize = refl
numbered_again NoChunk = refl
numbered_again Version = refl
numbered_again NoLease = refl
numbered_again NoData = refl
numbered_again OldSerial = refl
numbered_again OldRequest = refl
numbered_again Late = refl
numbered_again Corrupt = refl
numbered_again NoRoom = refl
numbered_again OldOrder = refl
numbered_again ChunkFull = refl
numbered_again ServerTooLong = refl

chosen : (b : Bool) (y : Refusal) (rest : Option Refusal) (x : Refusal) (P : Refusal → Type 0) → (b ≡ true → P y) → (rest ≡ Some x → P x) → cond b (Some y) rest ≡ Some x → P x
chosen true y rest x P here there e = subst P (some_is y x e) (here refl)
chosen false y rest x P here there e = there e

found_has : (p : Refusal → Bool) (xs : List Refusal) (x : Refusal) → find p xs ≡ Some x → p x ≡ true
found_has p [] x e = absurd cc
found_has p (y ∷ ys) x e = chosen (p y) y (find p ys) x (λ z. p z ≡ true) (λ h. h) (λ h. found_has p ys x h) e

numbered_is : (n : ℕ) (r : Refusal) → refusal_numbered n ≡ Some r → number_of r ≡ n
unfolding refusal_numbered
numbered_is n r e = eqb-true _ _ (found_has (λ r. number_of r == n) all_refusals r e)

refusal_take : (bytes : List ℕ) (x : Refusal × List ℕ) → IsBytes bytes → refusal_at bytes ≡ Some x → Takes bytes (outcome (Some x.0)) x.1 × Unit {0}
unfolding refusal_at
refusal_take [] x fits e = absurd cc
refusal_take (n ∷ rest) x fits e =
    let a = bind_some (refusal_numbered n) (λ r. Some (r, rest)) x e in
    let made : Refusal × List ℕ = (a.0, rest) in
    subst (λ (y : Refusal × List ℕ). Takes (n ∷ rest) (outcome (Some y.0)) y.1 × Unit {0}) (some_is made x a.2)
    (record { parts = ap (λ k. k ∷ rest) (sym (numbered_is n a.0 a.1)); rest_fits = IsBytes-rest n rest fits }, tt)

refusal_again : (r : Refusal) (rest : List ℕ) → Unit {0} → refusal_at (outcome (Some r) ++ rest) ≡ Some (r, rest)
unfolding refusal_at
refusal_again r rest u = rw (numbered_again r) refl

pub refusal_is : IsField (λ r. outcome (Some r)) (λ r. Unit {0}) refusal_at
refusal_is = record { takes = refusal_take; again = refusal_again }

outcome_take : (bytes : List ℕ) (x : Option Refusal × List ℕ) → IsBytes bytes → outcome_at bytes ≡ Some x → Takes bytes (outcome x.0) x.1 × Unit {0}
unfolding outcome_at
outcome_take [] x fits e = absurd cc
outcome_take (zero ∷ rest) x fits e =
    let made : Option Refusal × List ℕ = (None, rest) in
    subst (λ (y : Option Refusal × List ℕ). Takes (0 ∷ rest) (outcome y.0) y.1 × Unit {0}) (some_is made x e) (record { parts = refl; rest_fits = IsBytes-rest 0 rest fits }, tt)
outcome_take (suc n ∷ rest) x fits e =
    let a = bind_some (refusal_numbered (suc n)) (λ r. Some (Some r, rest)) x e in
    let made : Option Refusal × List ℕ = (Some a.0, rest) in
    subst (λ (y : Option Refusal × List ℕ). Takes (suc n ∷ rest) (outcome y.0) y.1 × Unit {0}) (some_is made x a.2)
    (record { parts = ap (λ k. k ∷ rest) (sym (numbered_is (suc n) a.0 a.1)); rest_fits = IsBytes-rest (suc n) rest fits }, tt)

none_is_numbered_zero : (r : Refusal) → refusal_numbered 0 ≡ Some r → ⊥
unfolding refusal_numbered
none_is_numbered_zero r e = absurd cc

outcome_numbered : (n : ℕ) (r : Refusal) (rest : List ℕ) → refusal_numbered n ≡ Some r → outcome_at (n ∷ rest) ≡ Some (Some r, rest)
unfolding outcome_at
outcome_numbered zero r rest e = absurd (none_is_numbered_zero r e)
outcome_numbered (suc n) r rest e = rw e refl

outcome_again : (o : Option Refusal) (rest : List ℕ) → Unit {0} → outcome_at (outcome o ++ rest) ≡ Some (o, rest)
unfolding outcome_at
outcome_again None rest u = refl
outcome_again (Some r) rest u = outcome_numbered (number_of r) r rest (numbered_again r)

pub outcome_is : IsField outcome (λ o. Unit {0}) outcome_at
outcome_is = record { takes = outcome_take; again = outcome_again }
