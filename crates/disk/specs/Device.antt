-- What a disk's calls do to what a read gives, and to what a stop may leave.
use Rattle.std.specs.Prelude.{◌≡◌, ◌⊎◌, ℕ, ◌+◌, ◌<◌, ◌≤◌, List, length, take, drop, ◌++◌, Result, IsErrOf}
use Rattle.disk.specs.declared.device.DiskFault.{DiskFault}
use Rattle.disk.specs.declared.device.DiskFault.TheVariants.{Device}

-- new is old with these bytes at this place
abbrev pub Holds : List ℕ → ℕ → List ℕ → List ℕ → Type 0
Holds old at bytes new = new ≡ take at old ++ bytes ++ drop (at + length bytes) old

-- any bytes in the range of n bytes, the same elsewhere
pub record ChangesOnly (at n : ℕ) (old new : List ℕ) : Type 0 where
  pub before : take at new ≡ take at old
  pub after : drop (at + n) new ≡ drop (at + n) old
  pub size : length new ≡ length old

-- each new outcome of a stop is an old outcome after a step
abbrev pub Follows : (List ℕ → List ℕ → Type 0) → (List ℕ → Type 0) → (List ℕ → Type 0) → Type 0
Follows step old new = (c : List ℕ) → new c → (d : List ℕ) × old d × step d c

-- each new outcome of a stop is an old one
abbrev pub NoMore : (List ℕ → Type 0) → (List ℕ → Type 0) → Type 0
NoMore old new = (c : List ℕ) → new c → old c

-- a stop leaves this and nothing else
abbrev pub Only : List ℕ → (List ℕ → Type 0) → Type 0
Only bytes outcomes = (c : List ℕ) → outcomes c → c ≡ bytes

-- Time goes on: a stop since t might have left what it might have left before, or what it may leave now.
pub record Elapses (before now : ℕ) (past since : ℕ → List ℕ → Type 0) (may_leave : List ℕ → Type 0) : Type 0 where
  pub later : before ≤ now
  pub nothing_else : (t : ℕ) (c : List ℕ) → t ≤ before → since t c → past t c ⊎ may_leave c
  pub keeps : (t : ℕ) (c : List ℕ) → t ≤ before → past t c → since t c

-- What a stop before this moment might have left may go untold; what one at this moment may leave is told.
pub record Forgets (before now : ℕ) (past since : ℕ → List ℕ → Type 0) (may_leave : List ℕ → Type 0) : Type 0 where
  pub later : before ≤ now
  pub nothing_else : (t : ℕ) (c : List ℕ) → t ≤ before → since t c → past t c ⊎ may_leave c
  pub keeps : (c : List ℕ) → past before c → since before c

-- `Device` is answered only where the disk has failed in this call.
pub record HasCause {T : Type 0} (before now : ℕ) (result : Result T DiskFault) : Type 0 where
  pub later : before ≤ now
  pub failed : IsErrOf result Device → before < now
